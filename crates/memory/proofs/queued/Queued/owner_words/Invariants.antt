use Rattle.std.proofs.Common.{◌≡◌, drop}
use Rattle.memory.specs.Kept.{queued_meaning}
use Rattle.memory.specs.Meaning.{all_landed, settled}
use Rattle.memory.proofs.queued.Queued.owner_words.Given as goal

-- what is left to land makes of the words so far what all that waits makes of the words
abbrev pub invariant-loop-write : goal.invariant-loop-write
invariant-loop-write l = all_landed (drop l.write-index l.self.queue.items) l.words ≡ settled (queued_meaning l.self)
