-- The words that kinds of memory and of job are printed by. Assumes nothing.
use Rattle.std.specs.Prelude.{ℕ, List, codes}
use Rattle.dayfile.specs.declared.settings.JobKind.{JobKind}
use Rattle.dayfile.specs.declared.settings.JobKind.TheVariants.{Cards, Labels}
use Rattle.dayfile.specs.declared.settings.MemoryKind.{MemoryKind}
use Rattle.dayfile.specs.declared.settings.MemoryKind.TheVariants.{Direct, Queued}

abbrev pub memory_word : MemoryKind → List ℕ
memory_word Direct = codes "direct"
memory_word Queued = codes "queued"

abbrev pub job_word : JobKind → List ℕ
job_word Cards = codes "cards"
job_word Labels = codes "labels"
