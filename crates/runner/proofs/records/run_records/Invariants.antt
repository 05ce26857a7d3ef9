use Rattle.std.proofs.Common.{◌-◌, vec_items}
use Rattle.board.specs.Shown.{shown}
use Rattle.dayfile.specs.Opened.{left}
use Rattle.runner.proofs.Going.{Going}
use Rattle.runner.proofs.records.run_records.Given as goal

abbrev pub invariant-loop-call : goal.invariant-loop-call
invariant-loop-call g l =
    let job = g.J.Job.form in
    let outcome = g.J.Job.outcome in
    let meaning = g.M.Memory.meaning in
    let start = shown meaning l.initial.board l.initial.cells in
    Going job outcome g.M.Memory.picks start (left job outcome l.initial.day) (vec_items l.initial.out) l.day (shown meaning l.board l.cells) l.number (vec_items l.out)

abbrev pub decreases-loop-call : goal.decreases-loop-call
decreases-loop-call g l = 61440 - l.day.reader.position
