use Rattle.std.proofs.Common.{length, vec_items, sym, ap, ◌∙◌, subst}
use lib.ListN.{length-replicate}
use Rattle.std.proofs.lemmas.Result.{err_from_is_err_and}
use Rattle.dayfile.specs.Opened.{left}
use Rattle.model.specs.Places.{new_cell}
use Rattle.runner.specs.Running.{Ran}
use Rattle.runner.proofs.Starting.{nothing_run, never_refused, starts_so}
use Rattle.runner.proofs.day.run_on.Goals as goal

pub returns-in_err-cells : goal.returns-in_err-cells
returns-in_err-cells g c =
    let turned = err_from_is_err_and c.from_residual.result c.from_residual.ensures.1 in
    record { ran = nothing_run g.J.Job.form g.J.Job.outcome g.M.Memory.picks _ _ _ c.from_residual.result _ _ turned.1 turned.2 c.in_err-cells.ensures.cells }

pub returns-in_err-map_err : goal.returns-in_err-map_err
returns-in_err-map_err g c =
    let cells = vec_items c.in_ok-cells.cells in
    never_refused c.args.day.now c.settings-size.result c.settings-size.ensures.settings cells c.make.result (c.make.ensures.answer cells) c.in_err-map_err.ensures.variant

pub run_records-requires : goal.run_records-requires
run_records-requires g c =
    let blanks = c.as_mut_slice.ensures.value ∙ c.in_ok-cells.ensures.cells in
    let size = c.settings-size.result.size in
    record { new = c.make.ensures.new (sym c.in_ok-map_err.ensures.variant) c.as_mut_slice.result.now (ap length blanks ∙ length-replicate size (new_cell c.args.any)) }

pub returns : goal.returns
returns g c =
    let job = g.J.Job.form in
    let outcome = g.J.Job.outcome in
    let d = c.args.day.now in
    let cells = c.as_mut_slice.result.now in
    let blanks = c.as_mut_slice.ensures.value ∙ c.in_ok-cells.ensures.cells in
    let start = starts_so d c.settings-size.result c.settings-size.ensures.settings cells job outcome c.args.any _ _ (c.make.ensures.board cells) blanks in
    record { ran = subst (λ s. Ran job outcome g.M.Memory.picks s (left job outcome d) (vec_items c.args.out.now) c.run_records.result (vec_items c.run_records.new.out)) start c.run_records.ensures.ran }
