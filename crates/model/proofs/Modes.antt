-- What the shared words may look like, now and after any number of landings. Assumes nothing.
use Rattle.std.proofs.Common.{◌≡◌, ℕ, zero, suc, ◌+◌, ◌<◌, ◌≤◌, true, List, [], ◌∷◌, ◌++◌, length, take, drop, sym, refl, ◌∙◌, arith, take-append-drop}
use Rattle.std.proofs.lemmas.List.{take_all, drop_all}
use Rattle.memory.specs.Meaning.{Meaning, landed, all_landed, settled, oldest_landed, queued_up, swap_passes, swapped}
use Rattle.memory.specs.declared.words.Words.{Words}
use Rattle.memory.specs.declared.words.Write.{Write}
use Rattle.memory.specs.declared.words.Write.TheVariants.{Pair, Split}
use Rattle.std.proofs.lemmas.Bool.Decides.{nat_tests}

abbrev pub NotPair : Write → Type 0
NotPair (Pair t s) = ⊥
NotPair x = Unit {0}

-- no pair write waits, and no split above B is seen, now or later
abbrev pub Bounded : ℕ → Words → List Write → Type 0
Bounded B w [] = w.split ≤ B
Bounded B w (x ∷ xs) = (w.split ≤ B) × (NotPair x × Bounded B (landed x w) xs)

-- nothing can be stolen, now or later
pub record Quiet (size : ℕ) (m : Meaning) : Type 0 where
  pub tail_size : m.words.tail ≤ size
  pub none : Bounded m.words.tail m.words m.waiting

-- nothing can be stolen until a pair write lands, whose tail is R
abbrev pub Pending : ℕ → ℕ → ℕ → Words → List Write → Type 0
Pending size R B w [] = ⊥
Pending size R B w (Pair t s ∷ xs) = (w.split ≤ w.tail) × ((w.tail ≤ size) × ((t ≡ R) × ((R < s) × Bounded B (landed (Pair t s) w) xs)))
Pending size R B w (x ∷ xs) = (w.split ≤ w.tail) × ((w.tail ≤ size) × Pending size R B (landed x w) xs)

-- R positions are stolen: the tail says so, or will once the pair write lands
pub data Mode (size R B : ℕ) (m : Meaning) : Type 0 where
  live : m.words.tail ≡ R → Bounded B m.words m.waiting → Mode size R B m
  waits : Pending size R B m.words m.waiting → Mode size R B m

bounded_now : (B : ℕ) (w : Words) (xs : List Write) → Bounded B w xs → w.split ≤ B
bounded_now B w [] b = b
bounded_now B w (x ∷ xs) b = b.0

pub bounded_more : (B C : ℕ) (w : Words) (xs : List Write) → B ≤ C → Bounded B w xs → Bounded C w xs
bounded_more B C w [] le b = omega arith
bounded_more B C w (x ∷ xs) le b = (omega (arith, b.0), (b.1.0, bounded_more B C (landed x w) xs le b.1.1))

-- the bound looks at splits alone
pub bounded_same : (B : ℕ) (w v : Words) (xs : List Write) → w.split ≡ v.split → Bounded B w xs → Bounded B v xs
bounded_same B w v [] same b = omega arith
bounded_same B w v (Pair t s ∷ xs) same b = absurd b.1.0
bounded_same B w v (Split s ∷ xs) same b = (omega (arith, b.0), (tt, bounded_same B (landed (Split s) w) (landed (Split s) v) xs refl b.1.1))
bounded_same B w v (x ∷ xs) same b = (omega (arith, b.0), (tt, bounded_same B (landed x w) (landed x v) xs same b.1.1))

tail_stays : (x : Write) (w : Words) → NotPair x → (landed x w).tail ≡ w.tail
tail_stays (Pair t s) w not = absurd not
tail_stays x w not = refl

-- landings keep the bound and the tail
bounded_lands : (B : ℕ) (n : ℕ) (w : Words) (xs : List Write) → Bounded B w xs → Bounded B (all_landed (take n xs) w) (drop n xs)
bounded_lands B zero w xs b = b
bounded_lands B (suc n) w [] b = b
bounded_lands B (suc n) w (x ∷ xs) b = bounded_lands B n (landed x w) xs b.1.1

tail_lands : (B : ℕ) (n : ℕ) (w : Words) (xs : List Write) → Bounded B w xs → (all_landed (take n xs) w).tail ≡ w.tail
tail_lands B zero w xs b = refl
tail_lands B (suc n) w [] b = refl
tail_lands B (suc n) w (x ∷ xs) b = tail_lands B n (landed x w) xs b.1.1 ∙ tail_stays x w b.1.0

pub quiet_lands : (size n : ℕ) (m : Meaning) → Quiet size m → Quiet size (oldest_landed n m)
quiet_lands size n m q =
    let same = tail_lands m.words.tail n m.words m.waiting q.none in
    record {
      tail_size = omega (arith, same, q.tail_size);
      none = rw same (bounded_lands m.words.tail n m.words m.waiting q.none);
    }

pending_lands : (size R B n : ℕ) (w : Words) (xs : List Write) → Pending size R B w xs → Mode size R B (record { words = all_landed (take n xs) w; waiting = drop n xs })
pending_lands size R B zero w xs p = waits p
pending_lands size R B (suc n) w [] p = absurd p
pending_lands size R B (suc n) w (Pair t s ∷ xs) p =
    let after = landed (Pair t s) w in
    live (tail_lands B n after xs p.1.1.1.1 ∙ p.1.1.0) (bounded_lands B n after xs p.1.1.1.1)
pending_lands size R B (suc n) w (x ∷ xs) p = pending_lands size R B n (landed x w) xs p.1.1

pub mode_lands : (size R B n : ℕ) (m : Meaning) → Mode size R B m → Mode size R B (oldest_landed n m)
mode_lands size R B n m (live tail b) = live (tail_lands B n m.words m.waiting b ∙ tail) (bounded_lands B n m.words m.waiting b)
mode_lands size R B n m (waits p) = pending_lands size R B n m.words m.waiting p

pending_more : (size R B C : ℕ) (w : Words) (xs : List Write) → B ≤ C → Pending size R B w xs → Pending size R C w xs
pending_more size R B C w [] le p = p
pending_more size R B C w (Pair t s ∷ xs) le p = (p.0, (p.1.0, (p.1.1.0, (p.1.1.1.0, bounded_more B C _ xs le p.1.1.1.1))))
pending_more size R B C w (x ∷ xs) le p = (p.0, (p.1.0, pending_more size R B C _ xs le p.1.1))

pub mode_more : (size R B C : ℕ) (m : Meaning) → B ≤ C → Mode size R B m → Mode size R C m
mode_more size R B C m le (live tail b) = live tail (bounded_more B C m.words m.waiting le b)
mode_more size R B C m le (waits p) = waits (pending_more size R B C m.words m.waiting le p)

-- a write that sets no pair and no split above B joins
abbrev pub Within : ℕ → Write → Type 0
Within B (Pair t s) = ⊥
Within B (Split s) = s ≤ B
Within B x = Unit {0}

joins_bounded : (B : ℕ) (w : Words) (xs : List Write) (x : Write) → Within B x → Bounded B w xs → Bounded B w (xs ++ (x ∷ []))
joins_bounded B w [] (Pair t s) in_bound b = absurd in_bound
joins_bounded B w [] (Split s) in_bound b = (b, (tt, in_bound))
joins_bounded B w [] x in_bound b = (b, (tt, b))
joins_bounded B w (y ∷ xs) x in_bound b = (b.0, (b.1.0, joins_bounded B (landed y w) xs x in_bound b.1.1))

joins_pending : (size R B : ℕ) (w : Words) (xs : List Write) (x : Write) → Within B x → Pending size R B w xs → Pending size R B w (xs ++ (x ∷ []))
joins_pending size R B w [] x in_bound p = absurd p
joins_pending size R B w (Pair t s ∷ xs) x in_bound p = (p.0, (p.1.0, (p.1.1.0, (p.1.1.1.0, joins_bounded B _ xs x in_bound p.1.1.1.1))))
joins_pending size R B w (y ∷ xs) x in_bound p = (p.0, (p.1.0, joins_pending size R B _ xs x in_bound p.1.1))

pub mode_joins : (size R B : ℕ) (m : Meaning) (x : Write) → Within B x → Mode size R B m → Mode size R B (queued_up x m)
mode_joins size R B m x in_bound (live tail b) = live tail (joins_bounded B m.words m.waiting x in_bound b)
mode_joins size R B m x in_bound (waits p) = waits (joins_pending size R B m.words m.waiting x in_bound p)

pub quiet_joins : (size : ℕ) (m : Meaning) (x : Write) → Within m.words.tail x → Quiet size m → Quiet size (queued_up x m)
quiet_joins size m x in_bound q = record { tail_size = q.tail_size; none = joins_bounded m.words.tail m.words m.waiting x in_bound q.none }

-- a quiet memory opens: the pair write joins
opens : (size R : ℕ) (w : Words) (xs : List Write) → w.tail ≤ size → Bounded w.tail w xs → Pending size R (R + 1) w (xs ++ (Pair R (R + 1) ∷ []))
opens size R w [] small b = (b, (small, (refl, (omega arith, omega arith))))
opens size R w (Pair t s ∷ xs) small b = absurd b.1.0
opens size R w (x ∷ xs) small b = (b.0, (small, opens size R (landed x w) xs small b.1.1))

pub quiet_opens : (size R : ℕ) (m : Meaning) → Quiet size m → Mode size R (R + 1) (queued_up (Pair R (R + 1)) m)
quiet_opens size R m q = waits (opens size R m.words m.waiting q.tail_size q.none)

no_room : (size R B : ℕ) (w : Words) (xs : List Write) → B ≤ R → Pending size R B w xs → ⊥
no_room size R B w [] low p = p
no_room size R B w (Pair t s ∷ xs) low p = omega (arith, p.1.1.1.0, bounded_now B (landed (Pair t s) w) xs p.1.1.1.1)
no_room size R B w (x ∷ xs) low p = no_room size R B _ xs low p.1.1

-- where no split passes what is stolen, nothing can be stolen
pub mode_quiet : (size R B : ℕ) (m : Meaning) → B ≤ R → R ≤ size → Mode size R B m → Quiet size m
mode_quiet size R B m low small (live tail b) = record {
  tail_size = omega arith;
  none = bounded_more B m.words.tail m.words m.waiting (omega arith) b;
}
mode_quiet size R B m low small (waits p) = absurd (no_room size R B m.words m.waiting low p)

-- what the owner reads
settled_bounded : (B : ℕ) (w : Words) (xs : List Write) → Bounded B w xs → (all_landed xs w).tail ≡ w.tail
settled_bounded B w [] b = refl
settled_bounded B w (x ∷ xs) b = settled_bounded B (landed x w) xs b.1.1 ∙ tail_stays x w b.1.0

settled_pending : (size R B : ℕ) (w : Words) (xs : List Write) → Pending size R B w xs → (all_landed xs w).tail ≡ R
settled_pending size R B w [] p = absurd p
settled_pending size R B w (Pair t s ∷ xs) p = settled_bounded B (landed (Pair t s) w) xs p.1.1.1.1 ∙ p.1.1.0
settled_pending size R B w (x ∷ xs) p = settled_pending size R B _ xs p.1.1

pub settled_tail : (size R B : ℕ) (m : Meaning) → Mode size R B m → (settled m).tail ≡ R
settled_tail size R B m (live tail b) = settled_bounded B m.words m.waiting b ∙ tail
settled_tail size R B m (waits p) = settled_pending size R B m.words m.waiting p

landed_append : (xs ys : List Write) (w : Words) → all_landed (xs ++ ys) w ≡ all_landed ys (all_landed xs w)
landed_append [] ys w = refl
landed_append (x ∷ xs) ys w = landed_append xs ys (landed x w)

pub settled_landed : (n : ℕ) (m : Meaning) → settled (oldest_landed n m) ≡ settled m
settled_landed n m =
    rw (← landed_append, take-append-drop)

pub settled_joins : (x : Write) (m : Meaning) → settled (queued_up x m) ≡ landed x (settled m)
settled_joins x m = landed_append m.waiting (x ∷ []) m.words

-- the split that the owner reads looks at splits alone
split_same : (w v : Words) (xs : List Write) → w.split ≡ v.split → (all_landed xs w).split ≡ (all_landed xs v).split
split_same w v [] same = same
split_same w v (Pair t s ∷ xs) same = split_same (landed (Pair t s) w) (landed (Pair t s) v) xs refl
split_same w v (Split s ∷ xs) same = split_same (landed (Split s) w) (landed (Split s) v) xs refl
split_same w v (x ∷ xs) same = split_same (landed x w) (landed x v) xs same

abbrev pub with_words : Meaning → Words → Meaning
with_words m w = record { words = w; waiting = m.waiting }

pub settled_split_same : (m : Meaning) (v : Words) → v.split ≡ m.words.split → (settled (with_words m v)).split ≡ (settled m).split
settled_split_same m v same = split_same v m.words m.waiting same

-- words with the same pair are as good
pending_same : (size R B : ℕ) (w v : Words) (xs : List Write) → w.tail ≡ v.tail → w.split ≡ v.split → Pending size R B w xs → Pending size R B v xs
pending_same size R B w v [] t s p = p
pending_same size R B w v (Pair a b ∷ xs) t s p = (omega (arith, p.0), (omega (arith, p.1.0), (p.1.1.0, (p.1.1.1.0, bounded_same B _ _ xs refl p.1.1.1.1))))
pending_same size R B w v (Split a ∷ xs) t s p = (omega (arith, p.0), (omega (arith, p.1.0), pending_same size R B (landed (Split a) w) (landed (Split a) v) xs t refl p.1.1))
pending_same size R B w v (x ∷ xs) t s p = (omega (arith, p.0), (omega (arith, p.1.0), pending_same size R B (landed x w) (landed x v) xs t s p.1.1))

pub mode_same : (size R B : ℕ) (m : Meaning) (v : Words) → m.words.tail ≡ v.tail → m.words.split ≡ v.split → Mode size R B m → Mode size R B (with_words m v)
mode_same size R B m v t s (live tail b) = live (sym t ∙ tail) (bounded_same B m.words v m.waiting s b)
mode_same size R B m v t s (waits p) = waits (pending_same size R B m.words v m.waiting t s p)

pub quiet_same : (size : ℕ) (m : Meaning) (v : Words) → m.words.tail ≡ v.tail → m.words.split ≡ v.split → Quiet size m → Quiet size (with_words m v)
quiet_same size m v t s q = record {
  tail_size = omega (arith, q.tail_size);
  none = bounded_same v.tail m.words v m.waiting s (rw (← t) q.none);
}

-- a fence shows helpers what the owner reads
pub fence_shows : (size R B n : ℕ) (m : Meaning) → n ≡ length m.waiting → Mode size R B m → Mode size R (settled m).split (oldest_landed n m)
fence_shows size R B n m all mode =
    let xs = m.waiting in
    rw (take_all n xs (omega arith), drop_all n xs (omega arith)) (live (settled_tail size R B m mode) (omega arith))

-- a swap that passes found the pair it names
pub record Found (t s : ℕ) (w : Words) : Type 0 where
  pub less : t < s
  pub tail : w.tail ≡ t
  pub split : w.split ≡ s

pub swap_found : (t s : ℕ) (w : Words) → swap_passes t s w ≡ true → Found t s w
swap_found t s w passes = grind (arith, nat_tests)

pub quiet_no_swap : (size t s : ℕ) (m : Meaning) → Quiet size m → swap_passes t s m.words ≡ true → ⊥
quiet_no_swap size t s m q passes =
    let found = swap_found t s m.words passes in
    omega (arith, bounded_now _ m.words m.waiting q.none)

pending_now : (size R B : ℕ) (w : Words) (xs : List Write) → Pending size R B w xs → (w.split ≤ w.tail) × (w.tail ≤ size)
pending_now size R B w [] p = absurd p
pending_now size R B w (Pair t s ∷ xs) p = (p.0, p.1.0)
pending_now size R B w (x ∷ xs) p = (p.0, p.1.0)

-- a passed swap steals position R, which is shared
pub record StolenOne (size R B t : ℕ) (m : Meaning) (v : Words) : Type 0 where
  pub position : t ≡ R
  pub shared : R < B
  pub mode : Mode size (R + 1) B (with_words m v)

pub mode_swap : (size R B t s : ℕ) (m : Meaning) → Mode size R B m → swap_passes t s m.words ≡ true → StolenOne size R B t m (swapped t s m.words)
mode_swap size R B t s m (waits p) passes =
    let found = swap_found t s m.words passes in
    absurd (omega (arith, pending_now size R B m.words m.waiting p))
mode_swap size R B t s m (live tail b) passes =
    let found = swap_found t s m.words passes in
    record {
      position = sym found.tail ∙ tail;
      shared = omega (arith, bounded_now B m.words m.waiting b);
      mode = rw passes (live (omega arith) (bounded_same B m.words _ m.waiting refl b));
    }

-- a split that helpers see
pub quiet_split : (size : ℕ) (m : Meaning) → Quiet size m → m.words.split ≤ size
quiet_split size m q = omega (arith, bounded_now _ m.words m.waiting q.none, q.tail_size)

pub mode_split : (size R B : ℕ) (m : Meaning) → B ≤ size → Mode size R B m → m.words.split ≤ size
mode_split size R B m bound (live tail b) = omega (arith, bounded_now B m.words m.waiting b)
mode_split size R B m bound (waits p) = omega (arith, pending_now size R B m.words m.waiting p)
