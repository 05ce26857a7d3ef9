use Rattle.model.proofs.Edges.{edges}
use Rattle.model.proofs.laws.worked_edges.Goals as goal

pub returns : goal.returns
returns g c = record { edges = edges _ _ _ _ }
