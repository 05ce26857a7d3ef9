use Rattle.std.proofs.Common.{◌≡◌, ◌-◌, ◌≤◌, ◌++◌, vec_items}
use Rattle.dayfile.specs.Opened.{left}
use Rattle.listing.specs.Counts.{nothing_yet, total_of}
use Rattle.listing.specs.Listing.{lines_of}
use Rattle.listing.proofs.day.list_calls.Given as goal

abbrev pub invariant-loop-call : goal.invariant-loop-call
invariant-loop-call g l =
    let job = g.J.Job.form in
    let outcome = g.J.Job.outcome in
    record {
      shown : vec_items l.out ++ lines_of job outcome l.counts (left job outcome l.file) ≡ vec_items l.initial.out ++ lines_of job outcome nothing_yet (left job outcome l.initial.file);
      few : total_of l.counts ≤ l.file.reader.position;
    }

abbrev pub decreases-loop-call : goal.decreases-loop-call
decreases-loop-call g l = 61440 - l.file.reader.position
