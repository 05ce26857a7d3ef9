-- Lists by position: what stands where in a changed list and in the first of a list, the oldest entry that nobody took, and
-- the place that a helper holds. Assumes nothing.
use Rattle.std.proofs.Common.{◌≡◌, ℕ, zero, suc, ◌+◌, ◌-◌, ◌<◌, true, List, [], ◌∷◌, ◌++◌, length, take, is_some, Some, None, Option, refl, ap, ◌∙◌, arith, add-one, eq-eqb, eqb-true, ⊎_elim}
use Rattle.std.proofs.lemmas.Bool.{cases_eq, cond_both}
use Rattle.model.specs.Places.{at, at_number, changed}
use Rattle.model.specs.Plain.{oldest_untaken, held_by, place_held}
use Rattle.model.specs.declared.cell.Cell.{Cell}

-- two positions are the same or apart
pub same_or_apart : {P : Type 0} (i j : ℕ) → (i ≡ j → P) → ((i ≡ j → ⊥) → P) → P
same_or_apart i j same apart = ⊎_elim same apart (cases_eq i j)

module _ {X : Type 0} where
  pub record There (xs : List X) (i : ℕ) : Type 0 where
    pub item : X
    pub there : at xs i ≡ Some item

  pub there_below : (xs : List X) (i : ℕ) → i < length xs → There xs i
  there_below [] i less = absurd (omega arith)
  there_below (x ∷ xs) zero less = record { item = x; there = refl }
  there_below (x ∷ xs) (suc i) less = let rest = there_below xs i (omega arith) in record { item = rest.item; there = rest.there }

  pub changed_here : (xs : List X) (i : ℕ) (f : X → X) (x : X) → at xs i ≡ Some x → at (changed xs i f) i ≡ Some (f x)
  changed_here (y ∷ xs) (suc i) f x is = changed_here xs i f x is
  changed_here xs i f x is = cc

  pub changed_elsewhere : (xs : List X) (i j : ℕ) (f : X → X) → (i ≡ j → ⊥) → at (changed xs i f) j ≡ at xs j
  changed_elsewhere (x ∷ xs) zero zero f apart = absurd (apart refl)
  changed_elsewhere (x ∷ xs) (suc i) (suc j) f apart = changed_elsewhere xs i j f (λ is. apart (ap suc is))
  changed_elsewhere xs i j f apart = refl

  -- what stands at a position of a changed list
  pub changed_ways : {P : Type 0} (xs : List X) (i j : ℕ) (f : X → X) (x : X) → at xs i ≡ Some x → (i ≡ j → at (changed xs i f) j ≡ Some (f x) → P) → ((i ≡ j → ⊥) → at (changed xs i f) j ≡ at xs j → P) → P
  changed_ways xs i j f x is here elsewhere =
      same_or_apart i j (λ same. here same (rw (← same) (changed_here xs i f x is))) (λ apart. elsewhere apart (changed_elsewhere xs i j f apart))

  -- counted from 1
  pub number_positive : (xs : List X) (n : ℕ) (x : X) → at_number xs n ≡ Some x → 0 < n
  number_positive xs zero x is = cc
  number_positive xs (suc i) x is = omega arith

  pub number_of : (xs : List X) (n : ℕ) → 0 < n → at_number xs n ≡ at xs (n - 1)
  number_of xs zero some = absurd (omega arith)
  number_of xs (suc i) some = let same : suc i - 1 ≡ i = omega arith in rw same

  pub numbered : (xs : List X) (n : ℕ) (x : X) → at_number xs n ≡ Some x → at xs (n - 1) ≡ Some x
  numbered xs n x is = rw (← number_of xs n (number_positive xs n x is)) is

  pub number_here : (xs : List X) (n : ℕ) (f : X → X) (x : X) → at_number xs n ≡ Some x → at_number (changed xs (n - 1) f) n ≡ Some (f x)
  number_here xs n f x is = number_of (changed xs (n - 1) f) n (number_positive xs n x is) ∙ changed_here xs (n - 1) f x (numbered xs n x is)

  pub number_elsewhere : (xs : List X) (n k : ℕ) (f : X → X) → 0 < n → (n ≡ k → ⊥) → at_number (changed xs (n - 1) f) k ≡ at_number xs k
  number_elsewhere xs n zero f some apart = refl
  number_elsewhere xs n (suc k) f some apart = changed_elsewhere xs (n - 1) k f (λ is. apart (omega arith))

  -- the first of a list
  pub take_at : (n : ℕ) (xs : List X) (i : ℕ) → i < n → at (take n xs) i ≡ at xs i
  take_at zero xs i less = absurd (omega arith)
  take_at (suc n) (x ∷ xs) (suc i) less = take_at n xs i (omega arith)
  take_at n xs i less = refl

  pub take_below : (n : ℕ) (xs : List X) (i : ℕ) (x : X) → at (take n xs) i ≡ Some x → i < n
  take_below (suc n) (y ∷ xs) (suc i) x is = omega (arith, take_below n xs i x is)
  take_below n xs i x is = grind arith

  pub take_number : (n : ℕ) (xs : List X) → at_number (take n xs) n ≡ at_number xs n
  take_number zero xs = refl
  take_number (suc n) xs = take_at (suc n) xs n (omega arith)

  pub take_changed : (n : ℕ) (xs : List X) (i : ℕ) (f : X → X) → take n (changed xs i f) ≡ changed (take n xs) i f
  take_changed (suc n) (x ∷ xs) (suc i) f = rw (take_changed n xs i f)
  take_changed n xs i f = refl

  take_one_more : (n : ℕ) (xs : List X) (x : X) → n < length xs → take (suc n) (changed xs n (λ _. x)) ≡ take n xs ++ (x ∷ [])
  take_one_more n [] x less = absurd (omega arith)
  take_one_more zero (y ∷ xs) x less = refl
  take_one_more (suc n) (y ∷ xs) x less = rw (take_one_more n xs x (omega arith))

  pub take_newest : (n : ℕ) (xs : List X) (x : X) → n < length xs → take (n + 1) (changed xs n (λ _. x)) ≡ take n xs ++ (x ∷ [])
  take_newest n xs x less = rw add-one (take_one_more n xs x less)

module _ {J O : Type 0} where
  -- the cell at a position is taken by somebody, is free, or is held by a helper
  pub record TakenAt (cells : List (Cell J O)) (i : ℕ) : Type 0 where
    pub cell : Cell J O
    pub there : at cells i ≡ Some cell
    pub taken : is_some cell.taker ≡ true

  pub record FreeAt (cells : List (Cell J O)) (i : ℕ) : Type 0 where
    pub cell : Cell J O
    pub there : at cells i ≡ Some cell
    pub untaken : cell.taker ≡ None
    pub unfinished : cell.outcome ≡ None

  pub record HeldAt (k : ℕ) (cells : List (Cell J O)) (i : ℕ) : Type 0 where
    pub cell : Cell J O
    pub there : at cells i ≡ Some cell
    pub taker : cell.taker ≡ Some k
    pub unfinished : cell.outcome ≡ None

  -- it stands so where the same cell stands
  pub taken_stays : {cells ds : List (Cell J O)} {i j : ℕ} → at ds j ≡ at cells i → TakenAt cells i → TakenAt ds j
  taken_stays same t = record { cell = t.cell; there = same ∙ t.there; taken = t.taken }

  pub free_stays : {cells ds : List (Cell J O)} {i j : ℕ} → at ds j ≡ at cells i → FreeAt cells i → FreeAt ds j
  free_stays same t = record { cell = t.cell; there = same ∙ t.there; untaken = t.untaken; unfinished = t.unfinished }

  pub held_stays : {k : ℕ} {cells ds : List (Cell J O)} {i j : ℕ} → at ds j ≡ at cells i → HeldAt k cells i → HeldAt k ds j
  held_stays same t = record { cell = t.cell; there = same ∙ t.there; taker = t.taker; unfinished = t.unfinished }

  pub oldest_is : (R : ℕ) (xs : List (Cell J O)) → ((i : ℕ) → i < R → TakenAt xs i) → FreeAt xs R → oldest_untaken xs ≡ Some R
  oldest_is R [] taken free = cc free.there
  oldest_is zero (x ∷ xs) taken free =
      let same : x ≡ free.cell = cc free.there in
      rw (same, free.untaken)
  oldest_is (suc R) (x ∷ xs) taken free =
      let first = taken 0 (omega arith) in
      let same : x ≡ first.cell = cc first.there in
      let rest = oldest_is R xs (λ i less. taken_stays refl (taken (suc i) (omega arith))) (free_stays refl free) in
      rw (same, first.taken, rest)

  held_by_is : (k : ℕ) (job : J) (t : Option ℕ) (o : Option O) → held_by k (record { job = job; taker = t; outcome = o }) ≡ true → (t ≡ Some k) × (o ≡ None)
  held_by_is k job (Some n) None is = (ap Some (eqb-true n k is), refl)
  held_by_is k job t (Some outcome) is = cc
  held_by_is k job None None is = cc

  held_here : (k : ℕ) (c : Cell J O) (xs : List (Cell J O)) → held_by k c ≡ true → HeldAt k (c ∷ xs) 0
  held_here k c xs is = let (taker, unfinished) = held_by_is k c.job c.taker c.outcome is in record { cell = c; there = refl; taker = taker; unfinished = unfinished }

  -- no cell of the list is held by the helper
  pub held_by_none : (k : ℕ) (xs : List (Cell J O)) → ((i : ℕ) → HeldAt k xs i → ⊥) → place_held k xs ≡ None
  held_by_none k [] free = refl
  held_by_none k (x ∷ xs) free =
      let rest = held_by_none k xs (λ i h. free (suc i) (held_stays refl h)) in
      cond_both _ _ _ (λ place. place ≡ None) (λ is. absurd (free 0 (held_here k x xs is))) (λ _. rw rest)

  pub held_by_at : (k p : ℕ) (xs : List (Cell J O)) → ((i : ℕ) → HeldAt k xs i → i ≡ p) → HeldAt k xs p → place_held k xs ≡ Some p
  held_by_at k p [] only held = cc held.there
  held_by_at k zero (x ∷ xs) only held =
      let same : x ≡ held.cell = cc held.there in
      rw (same, held.unfinished, held.taker, eq-eqb k k refl)
  held_by_at k (suc p) (x ∷ xs) only held =
      let rest = held_by_at k p xs (λ i h. omega (arith, only (suc i) (held_stays refl h))) (held_stays refl held) in
      cond_both _ _ _ (λ place. place ≡ Some (suc p)) (λ is. absurd (omega (arith, only 0 (held_here k x xs is)))) (λ _. rw rest)

pub length_changed : {X : Type 0} (xs : List X) (i : ℕ) (f : X → X) → length (changed xs i f) ≡ length xs
length_changed (x ∷ xs) (suc i) f = ap suc (length_changed xs i f)
length_changed xs i f = refl
