-- What a write at an index makes of a list. Assumes nothing.
use Rattle.std.proofs.Common.{◌≡◌, ℕ, zero, suc, ◌≤◌, List, [], ◌∷◌, length, get_or, take, set, refl, ap, arith}
use Rattle.model.specs.Places.{changed}

module _ {X : Type 0} where
  -- an element that is written by what it was
  pub set_by : (f : X → X) (xs : List X) (i : ℕ) (d : X) → set xs i (f (get_or xs i d)) ≡ changed xs i f
  set_by f [] i d = refl
  set_by f (y ∷ xs) zero d = refl
  set_by f (y ∷ xs) (suc i) d = ap (λ l. y ∷ l) (set_by f xs i d)

  pub changed_past : (f : X → X) (xs : List X) (i : ℕ) → length xs ≤ i → changed xs i f ≡ xs
  changed_past f [] i past = refl
  changed_past f (y ∷ xs) zero past = absurd (omega arith)
  changed_past f (y ∷ xs) (suc i) past = ap (λ l. y ∷ l) (changed_past f xs i (omega arith))

  -- the first elements of a list with one of them set
  pub take_set : (n : ℕ) (xs : List X) (i : ℕ) (x : X) → take n (set xs i x) ≡ changed (take n xs) i (λ _. x)
  take_set zero xs i x = refl
  take_set (suc n) [] i x = refl
  take_set (suc n) (y ∷ xs) zero x = refl
  take_set (suc n) (y ∷ xs) (suc i) x = ap (λ l. y ∷ l) (take_set n xs i x)
