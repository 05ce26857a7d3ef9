-- What every call keeps of the owner's numbers, and that each call has one reply. Assumes nothing.
use Rattle.std.specs.Prelude.{◌≡◌, ℕ, ◌+◌, ◌/◌, ◌<◌, ◌≤◌, Bool, true, false}
use Rattle.calls.specs.declared.call.Call.{Call}
use Rattle.memory.specs.Meaning as memory
use Rattle.model.specs.Calls.{effect_of, Entry, Makes}
use Rattle.model.specs.State.{State}
use Rattle.model.specs.declared.owner.Open.TheVariants as open_at
use Rattle.model.specs.declared.owner.Owner.{Owner}
use Rattle.model.specs.declared.owner.Phase.{Phase}
use Rattle.model.specs.declared.owner.Phase.TheVariants.{Idle, Opening, Sharing, Shrinking, Closing, Retiring}
use Rattle.model.specs.declared.owner.Shrink.TheVariants as shrink_at

module _ {J O : Type 0} where
  -- told ≤ head ≤ size always, and told ≤ own split ≤ head while own flag is 0
  pub record InRange (o : Owner J O) : Type 0 where
    pub told_head : o.told ≤ o.head
    pub head_size : o.head ≤ o.size
    pub told_split : o.own_flag ≡ false → o.told ≤ o.own_split
    pub split_head : o.own_flag ≡ false → o.own_split ≤ o.head

  -- what an unfinished operation has made sure of: a push onto a closed board has its job there, and a pop that shrinks
  -- has read told ≤ tail < split = head, and has written a half of it
  abbrev pub PhaseFits : (flag : Bool) (told split head : ℕ) → Phase J O → Type 0
  PhaseFits flag told split head Idle = Unit {0}
  PhaseFits flag told split head (Opening open_at.WritePair) = (flag ≡ true) × (0 < head)
  PhaseFits flag told split head (Opening open_at.WriteFlag) = (flag ≡ true) × (0 < head)
  PhaseFits flag told split head (Opening open_at.ReadRequest) = flag ≡ false
  PhaseFits flag told split head (Sharing at end) = flag ≡ false
  PhaseFits flag told split head (Shrinking shrink_at.ReadPair job) = (flag ≡ false) × (split ≡ head) × (0 < head)
  PhaseFits flag told split head (Shrinking (shrink_at.WriteSplit t s) job) = (flag ≡ false) × (told ≤ t) × (t < s) × (s ≡ head)
  PhaseFits flag told split head (Shrinking (shrink_at.Fence t s) job) = (flag ≡ false) × (told ≤ t) × (t < s) × (s ≡ head) × (split ≡ (t + s) / 2)
  PhaseFits flag told split head (Shrinking (shrink_at.ReadTail t s) job) = (flag ≡ false) × (told ≤ t) × (t < s) × (s ≡ head) × (split ≡ (t + s) / 2)
  PhaseFits flag told split head (Shrinking (shrink_at.WriteAgain u s) job) = (flag ≡ false) × (told ≤ u) × (u < s) × (s ≡ head)
  PhaseFits flag told split head Closing = (flag ≡ false) × (0 < head)
  PhaseFits flag told split head (Retiring outcome) = flag ≡ true

  pub record Sound (o : Owner J O) : Type 0 where
    pub in_range : InRange o
    pub fits : PhaseFits o.own_flag o.told o.own_split o.head o.phase

  -- every call in every state has, for each number of writes that it may land, one reply and one state after it
  pub record OneReply (s : State J O) (handed : ℕ) (call : Call J O) (n : ℕ) : Type 0 where
    pub entry : Entry J O
    pub next : State J O
    pub asked : (entry.handed ≡ handed) × (entry.call ≡ call) × (entry.reply.landed ≡ n)
    pub made : Makes s entry next
    pub only : (e : Entry J O) (s' : State J O) → e.handed ≡ handed → e.call ≡ call → e.reply.landed ≡ n → Makes s e s' → (e.reply ≡ entry.reply) × (s' ≡ next)

-- every call keeps the owner's numbers in range
abbrev pub NumbersKeep : (J O : Type 0) → Type 0
NumbersKeep J O = (s : State J O) (handed : ℕ) (call : Call J O) → Sound s.owner → Sound (effect_of s handed call).owner

abbrev pub CallsHaveOneReply : (J O : Type 0) → Type 0
CallsHaveOneReply J O =
    (s : State J O) (handed : ℕ) (call : Call J O) (n : ℕ) → memory.MayLand (effect_of s handed call).touches n s.memory → OneReply s handed call n
