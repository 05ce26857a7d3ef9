-- What the memories of this crate mean, read off their fields, and how many writes each lands.
use Rattle.std.specs.Prelude.{ℕ, min, false, cond, [], length, ◌==◌}
use Rattle.memory.specs.Meaning.{Meaning, Access, reads, puts, fences, lands, tries, asks}
use Rattle.memory.specs.declared.direct.Direct.{Direct}
use Rattle.memory.specs.declared.queued.Queued.{Queued}

-- where every memory starts: all words 0, nothing waiting
abbrev pub zeroed : Meaning
zeroed = record { words = record { tail = 0; split = 0; flag = false; request = false }; waiting = [] }

-- in a direct memory nothing waits
abbrev pub direct_meaning : Direct → Meaning
direct_meaning d = record { words = d.words; waiting = [] }

-- in a queued memory what the queue holds waits
abbrev pub queued_meaning : Queued → Meaning
queued_meaning q = record { words = q.words; waiting = q.queue.items }

-- how many writes an access lands: in a direct memory each write at once, so that none waits for a fence or for time
abbrev pub direct_lands : Access → Meaning → ℕ
direct_lands reads m = 0
direct_lands (puts x) m = 1
direct_lands fences m = 0
direct_lands lands m = 0
direct_lands (tries t s) m = 0
direct_lands asks m = 0

-- in a queued memory a write lands the oldest of eight that wait, a fence all, and time one
abbrev pub queued_lands : Access → Meaning → ℕ
queued_lands reads m = 0
queued_lands (puts x) m = cond (length m.waiting == 8) 1 0
queued_lands fences m = length m.waiting
queued_lands lands m = min 1 (length m.waiting)
queued_lands (tries t s) m = 0
queued_lands asks m = 0
