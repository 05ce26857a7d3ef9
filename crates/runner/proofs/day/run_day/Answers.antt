use Rattle.std.proofs.Common.{vec_items, Err}
use Rattle.runner.specs.Days.{day_of}
use Rattle.runner.proofs.Lawful.{lawful_day}
use Rattle.runner.proofs.Whole.{other_end}
use Rattle.runner.proofs.day.run_day.Goals as goal

pub returns-in_default-fault : goal.returns-in_default-fault
returns-in_default-fault c =
    let day = day_of c.args.file.now in
    record {
      prints = other_end day.lines day.fault (vec_items c.args.out.now) (Err c.in-Err.fault) (vec_items c.run_file.new.out) (λ refused is. c.in_default-fault.not-File refused cc) c.in-Err.ensures.prints;
      lawful = lawful_day c.args.file.now;
    }
