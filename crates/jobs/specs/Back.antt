-- Each kind of job decodes what it encodes. Assumes nothing.
use Rattle.std.proofs.Common.{rules}
use Rattle.jobs.specs.Card.{card_form, balance_form}
use Rattle.jobs.specs.Form.{ReadsBack}
use Rattle.jobs.specs.Label.{label_form, printed_form}

pub cards_back : ReadsBack card_form
cards_back = search rules

pub balances_back : ReadsBack balance_form
balances_back = search rules

pub labels_back : ReadsBack label_form
labels_back = search rules

pub printed_back : ReadsBack printed_form
printed_back = search rules
