-- How values of a type stand in a day file and in a printed line. Assumes nothing.
use Rattle.std.specs.Prelude.{◌≡◌, ℕ, ◌<◌, ◌≤◌, Bool, T, List, ◌++◌, length, Ok, codes, decimal, Result}
use Rattle.std.specs.List.{AllByRecursion}
use Rattle.jobs.specs.declared.fault.JobFault.{JobFault}
use Rattle.text.specs.Content.{Gains}
use Rattle.text.specs.declared.text.Text.{Text}

pub record Form (X : Type 0) : Type 0 where
  -- how many bytes a value has in a file
  pub width : ℕ
  -- the value that some bytes stand for, or what is wrong with them
  pub decoded : List ℕ → Result X JobFault
  -- the bytes that stand for a value
  pub encoded : X → List ℕ
  -- its numbers fit their bytes
  pub fits : X → Bool
  -- how a value is printed
  pub text : X → List ℕ

-- a word, a number, a blank and a number
abbrev pub words : List ℕ → ℕ → ℕ → List ℕ
words word first second = word ++ (decimal first ++ (codes " " ++ decimal second))

-- the encoding of a value is bytes, as many as the width, and is decoded to that value
pub record ReadsBack {X : Type 0} (f : Form X) : Type 0 where
  pub narrow : f.width < 65535
  pub bytes : (x : X) → AllByRecursion (λ b. b < 256) (f.encoded x)
  pub long : (x : X) → T (f.fits x) → length (f.encoded x) ≡ f.width
  pub back : (x : X) → T (f.fits x) → f.decoded (f.encoded x) ≡ Ok x

-- t is s with the text of x more, and that text is short enough for any line
pub record Prints {X : Type 0} (f : Form X) (x : X) (s t : Text) : Type 0 where
  pub gains : Gains s (f.text x) t
  pub short : length (f.text x) ≤ 30
