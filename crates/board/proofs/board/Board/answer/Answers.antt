use Rattle.board.proofs.board.Board.answer.Goals as goal

pub returns-in-Land : goal.returns-in-Land
returns-in-Land g c = record { answers = simp c.in-Land.is (c.land.ensures.answers c.args.cells.now) }
