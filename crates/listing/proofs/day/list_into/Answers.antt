use Rattle.std.proofs.Common.{refl, append_assoc, rules}
use Rattle.std.proofs.lemmas.Result.{IfOk-equal}
use Rattle.dayfile.specs.declared.settings.JobKind.TheVariants.{Cards, Labels}
use Rattle.jobs.specs.Card.{card_form, balance_form}
use Rattle.jobs.specs.Label.{label_form, printed_form}
use Rattle.listing.proofs.Whole.{opened}
use Rattle.listing.proofs.day.list_into.Goals as goal

pub returns-in-Cards : goal.returns-in-Cards
returns-in-Cards c =
    let file = c.in-Ok.ensures in
    let whole = opened card_form balance_form Cards c.args.bytes.now c.in-Ok.file (λ f. refl) file.settings file.file file.past (cc) in
    search (rules, IfOk-equal, append_assoc)

pub returns-in-Labels : goal.returns-in-Labels
returns-in-Labels c =
    let file = c.in-Ok.ensures in
    let whole = opened label_form printed_form Labels c.args.bytes.now c.in-Ok.file (λ f. refl) file.settings file.file file.past (cc) in
    search (rules, IfOk-equal, append_assoc)
