use Rattle.std.proofs.Common.{vec_items, sym, ap, ◌∙◌}
use Rattle.dayfile.specs.declared.settings.MemoryKind.TheVariants.{Direct, Queued}
use Rattle.runner.proofs.Pinned.{direct_pins, queued_pins, day_prints}
use Rattle.runner.proofs.day.run_jobs.Goals as goal

pub returns-in-Direct : goal.returns-in-Direct
returns-in-Direct g c =
    let kind = ap (λ s. s.memory) (sym c.settings.ensures.settings) ∙ c.in-Direct.is in
    record { prints = day_prints g.J.Job.form g.J.Job.outcome c.args.any c.args.day.now Direct kind _ direct_pins (vec_items c.args.out.now) c.run_on.result _ c.run_on.ensures.ran }

pub returns-in-Queued : goal.returns-in-Queued
returns-in-Queued g c =
    let kind = ap (λ s. s.memory) (sym c.settings.ensures.settings) ∙ c.in-Queued.is in
    record { prints = day_prints g.J.Job.form g.J.Job.outcome c.args.any c.args.day.now Queued kind _ queued_pins (vec_items c.args.out.now) c.run_on-in-Queued.result _ c.run_on-in-Queued.ensures.ran }
