use Rattle.std.proofs.Common.{vec_items, refl, arith}
use Rattle.std.proofs.lemmas.Result.{err_from_is_err_and}
use Rattle.board.specs.Shown.{shown}
use Rattle.runner.proofs.Going.{starts, next_turn, at_end, at_fault}
use Rattle.runner.proofs.records.run_records.Goals as goal

pub loop-call-init : goal.loop-call-init
loop-call-init g c = starts g.J.Job.form g.J.Job.outcome g.M.Memory.picks (shown g.M.Memory.meaning c.args.board.now c.args.cells.now) c.args.day.now (vec_items c.args.out.now)

pub loop-call-preserved : goal.loop-call-preserved
loop-call-preserved g c =
    let read = c.in_ok-call.ensures in
    next_turn _ _ _ _ _ _ _ _ _ _ c.loop-call.invariant c.requires.new _ _ _ _ _ _ _ _ c.in-Some.is read.takes read.passes refl c.party.ensures.party c.call-reply.ensures.answers c.in_ok-put_line.ensures.puts

pub returns-in_err-call : goal.returns-in_err-call
returns-in_err-call g c =
    let turned = err_from_is_err_and c.from_residual.result c.from_residual.ensures.1 in
    record { ran = at_fault _ _ _ _ _ _ _ _ _ _ c.loop-call.invariant c.next.new.self c.from_residual.result _ c.in_err-call.field-0.0 turned.1 turned.2 c.in_err-call.ensures.takes }

pub overflow_add-number : goal.overflow_add-number
overflow_add-number g c = omega (arith, c.loop-call.invariant.few, c.loop-call.day.within, c.loop-call.day.short)

pub returns : goal.returns
returns g c = record { ran = at_end _ _ _ _ _ _ _ _ _ _ c.loop-call.invariant c.next.new.self _ c.in_default.is c.in_ok-call.ensures.takes }
