-- What a memory means, and what each access makes of it. It says nothing of how a memory keeps its queue.
use Rattle.std.specs.Prelude.{◌≡◌, ℕ, ◌+◌, ◌<◌, ◌≤◌, Bool, true, cond, ◌&&◌, List, [], ◌∷◌, ◌++◌, length, take, drop, ◌==◌, nat_lt}
use Rattle.memory.specs.declared.words.Words.{Words}
use Rattle.memory.specs.declared.words.Write.{Write}
use Rattle.memory.specs.declared.words.Write.TheVariants.{Pair, Split, Flag, Request}

-- a memory's words, and the owner's writes that have not landed yet, oldest first
pub record Meaning : Type 0 where
  pub words : Words
  pub waiting : List Write

-- the words once a write has landed: a pair sets both numbers, and a split leaves the tail alone
abbrev pub landed : Write → Words → Words
landed (Pair t s) w = record { tail = t; split = s; flag = w.flag; request = w.request }
landed (Split s) w = record { tail = w.tail; split = s; flag = w.flag; request = w.request }
landed (Flag b) w = record { tail = w.tail; split = w.split; flag = b; request = w.request }
landed (Request b) w = record { tail = w.tail; split = w.split; flag = w.flag; request = b }

-- the words once a list of writes has landed, the first of the list first
abbrev pub all_landed : List Write → Words → Words
all_landed [] w = w
all_landed (x ∷ xs) w = all_landed xs (landed x w)

-- what the words would be if all waiting writes landed, which is what the owner reads
abbrev pub settled : Meaning → Words
settled m = all_landed m.waiting m.words

-- the oldest n writes land, and the others still wait
abbrev pub oldest_landed : ℕ → Meaning → Meaning
oldest_landed n m = record { words = all_landed (take n m.waiting) m.words; waiting = drop n m.waiting }

-- a write joins the end of those that wait
abbrev pub queued_up : Write → Meaning → Meaning
queued_up x m = record { words = m.words; waiting = m.waiting ++ (x ∷ []) }

-- the tail and the split, which are read as one
abbrev pub pair : Words → ℕ × ℕ
pair w = (w.tail, w.split)

-- a swap passes exactly when t is below s and the pair is (t, s)
abbrev pub swap_passes : ℕ → ℕ → Words → Bool
swap_passes t s w = nat_lt t s && (w.tail == t && w.split == s)

-- the tail becomes t + 1 where the swap passes, and otherwise nothing changes
abbrev pub swapped : ℕ → ℕ → Words → Words
swapped t s w = cond (swap_passes t s w) (record { tail = t + 1; split = w.split; flag = w.flag; request = w.request }) w

-- a helper has asked for more shared jobs
abbrev pub asked : Words → Words
asked w = record { tail = w.tail; split = w.split; flag = w.flag; request = true }

-- what a call of the board can do to the shared words
pub data Access : Type 0 where
  reads : Access
  puts : Write → Access
  fences : Access
  lands : Access
  tries : ℕ → ℕ → Access
  asks : Access

-- the meaning after an access that landed n of the owner's writes; a helper's access acts on the words directly
abbrev pub after : Access → ℕ → Meaning → Meaning
after reads n m = m
after (puts x) n m = oldest_landed n (queued_up x m)
after fences n m = oldest_landed n m
after lands n m = oldest_landed n m
after (tries t s) n m = record { words = swapped t s m.words; waiting = m.waiting }
after asks n m = record { words = asked m.words; waiting = m.waiting }

-- how many of the owner's writes an access may land
abbrev pub MayLand : Access → ℕ → Meaning → Type 0
MayLand reads n m = n ≡ 0
MayLand (puts x) n m =
    -- no more than wait once x has joined
    (n ≤ length m.waiting + 1)
    -- and at most 64 still wait after
    × (length m.waiting + 1 ≤ n + 64)
MayLand fences n m = n ≡ length m.waiting
MayLand lands n m =
    -- no more than wait
    (n ≤ length m.waiting)
    -- and at least one where any waits
    × (0 < length m.waiting → 0 < n)
MayLand (tries t s) n m = n ≡ 0
MayLand asks n m = n ≡ 0

-- what a memory's own choice comes to at an access: it has one only where the owner's writes may land
abbrev pub Picked : (Access → ℕ → Meaning → Type 0) → Access → ℕ → Meaning → Type 0
Picked picks reads n m = Unit {0}
Picked picks (puts x) n m = picks (puts x) n m
Picked picks fences n m = picks fences n m
Picked picks lands n m = picks lands n m
Picked picks (tries t s) n m = Unit {0}
Picked picks asks n m = Unit {0}
