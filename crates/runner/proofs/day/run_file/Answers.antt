use Rattle.std.proofs.Common.{vec_items, sym, refl, ap, ◌∙◌}
use Rattle.std.proofs.lemmas.Result.{err_from_is_err_and}
use Rattle.dayfile.specs.declared.settings.JobKind.TheVariants.{Cards, Labels}
use Rattle.jobs.specs.Card.{card_form, balance_form}
use Rattle.jobs.specs.Label.{label_form, printed_form}
use Rattle.runner.specs.Days.{blank_card, blank_label}
use Rattle.runner.proofs.Whole.{refused_whole, calls_whole}
use Rattle.runner.proofs.day.run_file.Goals as goal

pub returns-in_err-day : goal.returns-in_err-day
returns-in_err-day c =
    let turned = err_from_is_err_and c.from_residual.result c.from_residual.ensures.1 in
    record {
      prints = refused_whole c.args.file.now c.in_err-day.field-0.0 _ c.from_residual.result (vec_items c.args.out.now) c.in_err-day.ensures.settings c.in_err-day.ensures.place turned.1 turned.2;
    }

pub returns-in-Cards : goal.returns-in-Cards
returns-in-Cards c =
    let read = c.in_ok-day.ensures in
    let kind = ap (λ s. s.jobs) (sym c.settings.ensures.settings) ∙ c.in-Cards.is in
    record {
      prints = calls_whole c.args.file.now card_form balance_form blank_card Cards c.in_ok-day.day (vec_items c.args.out.now) c.run_jobs.result _ (λ f. refl) kind read.settings read.file read.past c.run_jobs.ensures.prints;
    }

pub returns-in-Labels : goal.returns-in-Labels
returns-in-Labels c =
    let read = c.in_ok-day.ensures in
    let kind = ap (λ s. s.jobs) (sym c.settings.ensures.settings) ∙ c.in-Labels.is in
    record {
      prints = calls_whole c.args.file.now label_form printed_form blank_label Labels c.in_ok-day.day (vec_items c.args.out.now) c.run_jobs-in-Labels.result _ (λ f. refl) kind read.settings read.file read.past c.run_jobs-in-Labels.ensures.prints;
    }
