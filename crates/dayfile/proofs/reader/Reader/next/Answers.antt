use Rattle.dayfile.proofs.Encoding.{days_read_back}
use Rattle.dayfile.proofs.reader.Reader.next.Goals as goal

pub returns-then-is_empty-clause-reads_back : goal.returns-then-is_empty-clause-reads_back
returns-then-is_empty-clause-reads_back g c = days_read_back _ _ g.met.J.Job.job_reads_back g.met.J.Job.outcome_reads_back

pub returns-clause-reads_back : goal.returns-clause-reads_back
returns-clause-reads_back g c = days_read_back _ _ g.met.J.Job.job_reads_back g.met.J.Job.outcome_reads_back
