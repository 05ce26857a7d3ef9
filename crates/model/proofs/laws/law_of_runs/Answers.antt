use Rattle.model.proofs.Lawful.{law}
use Rattle.model.proofs.laws.law_of_runs.Goals as goal

pub returns : goal.returns
returns g c = record { law = law _ _ }
