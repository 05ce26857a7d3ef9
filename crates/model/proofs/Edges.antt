-- The edges hold by computation. Assumes nothing.
use Rattle.model.specs.Edges.{Edges}
use Rattle.model.specs.declared.cell.Cell.{Cell}

pub edges : {J O : Type 0} (job other : J) (outcome : O) (c : Cell J O) → Edges job other outcome c
edges job other outcome c = search
