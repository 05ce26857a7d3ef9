-- What fits into a text, one piece after another. Assumes nothing.
use borrow.Rule.Slice.PartMut.{put_mid}
use Rattle.std.proofs.Common.{◌≡◌, ℕ, zero, suc, ◌+◌, ◌-◌, ◌<◌, ◌≤◌, min, List, [], ◌∷◌, ◌++◌, length, take, set, sym, refl, ap, ◌∙◌, subst, append_assoc, append-nil, arith}
use Rattle.std.proofs.Math.Seq.{take-append-add}
use Rattle.std.proofs.lemmas.Slice.{take-put_mid}
use Rattle.std.proofs.lemmas.List.{take_min, length-take, take_all, take-append-le, take_more_set, length_push, length-take-le}
use Rattle.text.specs.Content.{content, fitting, Gains}
use Rattle.text.specs.declared.text.Text.{Text}

take_again : (n : ℕ) (xs ys : List ℕ) → take n (take n xs ++ ys) ≡ take n (xs ++ ys)
take_again zero xs ys = refl
take_again (suc n) [] ys = refl
take_again (suc n) (x ∷ xs) ys = ap (λ l. x ∷ l) (take_again n xs ys)

pub same_piece : {s t : Text} {piece other : List ℕ} → piece ≡ other → Gains s piece t → Gains s other t
same_piece {s} {t} same gains = subst (λ p. Gains s p t) same gains

-- a piece and then a piece are one longer piece
pub then : {s t u : Text} {first second : List ℕ} → Gains s first t → Gains t second u → Gains s (first ++ second) u
then {s} {t} {u} {first} {second} one two = record {
  text = two.text ∙ ap (λ held. fitting (held ++ second)) one.text ∙ take_again 80 (content s ++ first) second ∙ ap fitting (append_assoc (content s) first second);
}

-- a text that was empty holds just its piece, where that fits
pub whole : {s t : Text} {piece : List ℕ} → content s ≡ [] → Gains s piece t → length piece ≤ 80 → content t ≡ piece
whole {piece = piece} empty gains short = gains.text ∙ ap (λ held. fitting (held ++ piece)) empty ∙ take_all 80 piece short

module _ (t : Text) where
  held : length (content t) ≡ t.len
  held =
      let longer : t.len ≤ length t.bytes = omega (arith, t.room, t.within) in
      length-take-le t.len t.bytes longer

  -- no piece at all
  pub nothing_gained : Gains t [] t
  nothing_gained = record {
    text = sym (ap fitting (append-nil (content t)) ∙ take_all 80 _ (omega (arith, held, t.within)));
  }

  pub one_fits : (byte : ℕ) → t.len < 80 → take (t.len + 1) (set t.bytes t.len byte) ≡ fitting (content t ++ byte ∷ [])
  one_fits byte less =
      let within : t.len < length t.bytes = omega (arith, t.room) in
      take_more_set t.bytes t.len byte within ∙ sym (take_all 80 _ (omega (arith, length_push (content t) byte, held)))

  pub none_fits : (piece : List ℕ) → 80 ≤ t.len → content t ≡ fitting (content t ++ piece)
  none_fits piece full =
      let long : 80 ≤ length (content t) = omega (arith, held) in
      sym (take-append-le 80 (content t) piece long ∙ take_all 80 _ (omega (arith, held, t.within)))

  -- the front of a piece, as much as there is room for, written behind what is held
  pub front_fits : (piece front : List ℕ) (n : ℕ) → n ≡ min (80 - t.len) (length piece) → front ≡ take n piece → take (t.len + n) (put_mid t.len (t.len + n - t.len) t.bytes front) ≡ fitting (content t ++ piece)
  front_fits piece front n room is =
      let all : 80 ≡ length (content t) + (80 - t.len) = omega (arith, held, t.within) in
      let long : t.len + n ≡ t.len + length front = rw is (omega (arith, length-take n piece)) in
      take-put_mid t.len _ t.bytes front (t.len + n) long (omega (arith, t.room, t.within))
      ∙ ap (λ l. content t ++ l) (is ∙ ap (λ k. take k piece) room ∙ take_min (80 - t.len) piece)
      ∙ sym (ap (λ k. take k (content t ++ piece)) all ∙ take-append-add (content t) piece (80 - t.len))
