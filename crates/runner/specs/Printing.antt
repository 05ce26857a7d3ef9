-- What the printing of one line comes to. Assumes nothing.
use Rattle.std.specs.Prelude.{◌≡◌, ℕ, List, ◌++◌, Ok, Err, Result}
use Rattle.runner.specs.declared.fault.DayFault.{DayFault}
use Rattle.runner.specs.declared.fault.DayFault.TheVariants.{File, Board, Line, NoMemory}

-- the output gains the bytes, or there is no memory for them and it stays as it was
abbrev pub Puts : {X : Type 0} → List ℕ → List ℕ → Result X DayFault → List ℕ → Type 0
Puts bytes out (Ok x) out' = out' ≡ out ++ bytes
Puts bytes out (Err (File fault)) out' = ⊥
Puts bytes out (Err (Board met)) out' = ⊥
Puts bytes out (Err (Line met)) out' = ⊥
Puts bytes out (Err NoMemory) out' = out' ≡ out
