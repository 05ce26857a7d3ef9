-- A file from which calls are read one after another holds just those calls. Assumes nothing.
use Rattle.std.proofs.Common.{◌≡◌, ℕ, zero, suc, ◌+◌, ◌<◌, ◌≤◌, List, [], ◌∷◌, length, drop, None, ap, ◌∙◌, arith, length-append}
use Rattle.std.specs.List.{flat_map}
use Rattle.calls.specs.declared.call.Call.{Call}
use Rattle.calls.specs.declared.call.Call.TheVariants.{Push, Pop, Retire, OwnerStep, HelperStep, Finish, Land}
use Rattle.jobs.specs.Form.{Form}
use Rattle.dayfile.specs.Encoding.{call_bytes, Reads}
use Rattle.dayfile.specs.Format.{record_length}
use Rattle.dayfile.specs.Holding.{and_then, ended, held}

module _ {J O : Type 0} (job : Form J) (outcome : Form O) where
  pub reads_held : (calls : List (Call J O)) (rest : List ℕ) (turns place : ℕ) → Reads job outcome rest calls → length calls < turns → held job outcome turns place rest ≡ record { calls = calls; fault = None }
  reads_held calls rest zero place reads enough = absurd (omega arith)
  reads_held [] rest (suc turns) place reads enough =
      ap (λ x. ended place x (held job outcome turns (place + record_length rest) (drop (record_length rest) rest))) reads
  reads_held (call ∷ calls) rest (suc turns) place reads enough =
      let after = drop (record_length rest) rest in
      ap (λ x. ended place x (held job outcome turns (place + record_length rest) after)) reads.0
      ∙ ap (and_then call) (reads_held calls after turns (place + record_length rest) reads.1 (omega arith))

  some_bytes : (call : Call J O) → 0 < length (call_bytes job outcome call)
  some_bytes (Push j) = omega arith
  some_bytes Pop = omega arith
  some_bytes Retire = omega arith
  some_bytes OwnerStep = omega arith
  some_bytes (HelperStep helper) = omega arith
  some_bytes (Finish helper o) = omega arith
  some_bytes Land = omega arith

  -- a file has no more calls than bytes
  pub calls_within : (calls : List (Call J O)) → length calls ≤ length (flat_map (call_bytes job outcome) calls)
  calls_within [] = omega arith
  calls_within (call ∷ calls) =
      simp length-append (omega (arith, some_bytes call, calls_within calls))
