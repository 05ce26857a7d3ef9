use Rattle.deque.proofs.deque.Deque.step.Goals as goal

pub returns-in-Closing : goal.returns-in-Closing
returns-in-Closing g c = record { does = λ helpers cells. simp c.in-Closing.is (c.close.ensures.does helpers cells) }

pub returns-in-Retiring : goal.returns-in-Retiring
returns-in-Retiring g c = record { does = λ helpers cells. simp c.in-Retiring.is (c.end_retire.ensures.does helpers cells) }
