-- What a text holds. Assumes nothing.
use Rattle.std.specs.Prelude.{◌≡◌, ℕ, List, [], ◌∷◌, ◌++◌, take}
use Rattle.text.specs.declared.text.Text.{Text}

abbrev pub content : Text → List ℕ
content t = take t.len t.bytes

-- the part of some bytes that a text has room for
abbrev pub fitting : List ℕ → List ℕ
fitting bytes = take 80 bytes

-- t is s with a piece more at its end, as far as that fits
pub record Gains (s : Text) (piece : List ℕ) (t : Text) : Type 0 where
  pub text : content t ≡ fitting (content s ++ piece)

-- a text, and the newline that ends its line
abbrev pub line : List ℕ → List ℕ
line text = text ++ 10 ∷ []
