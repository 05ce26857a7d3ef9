-- What a reader takes of what was left of its file, a record at a time. Assumes nothing.
use Rattle.std.proofs.Common.{◌≡◌, ℕ, zero, suc, ◌+◌, ◌<◌, ◌≤◌, false, List, [], ◌∷◌, length, drop, true, Some, None, Ok, Err, Option, Result, sym, refl, ap, ◌∙◌, subst, arith, length-drop}
use Rattle.std.proofs.lemmas.List.{drop-drop}
use Rattle.calls.specs.declared.call.Call.{Call}
use Rattle.jobs.specs.Form.{Form}
use Rattle.dayfile.specs.Format.{record_length, next_from, placed}
use Rattle.dayfile.specs.Holding.{Held, and_then, ended, held, Takes}
use Rattle.dayfile.specs.Reading.{file_of, unread, gave, Moves}
use Rattle.dayfile.specs.declared.fault.FileFault.{FileFault}
use Rattle.dayfile.specs.declared.fault.FileRefusal.{FileRefusal}
use Rattle.dayfile.specs.declared.reader.Reader.{Reader}

module _ {J O : Type 0} (job : Form J) (outcome : Form O) where
  -- more turns than bytes make no difference
  held_enough : (m n place : ℕ) (rest : List ℕ) → length rest < m → length rest < n → held job outcome m place rest ≡ held job outcome n place rest
  held_enough zero n place rest some more = absurd (omega arith)
  held_enough (suc m) zero place rest some more = absurd (omega arith)
  held_enough (suc m) (suc n) place [] some more = refl
  held_enough (suc m) (suc n) place (byte ∷ rest) some more =
      let all = byte ∷ rest in
      let shorter = length-drop (record_length all) all in
      ap (ended place (next_from job outcome false all)) (held_enough m n (place + record_length all) (drop (record_length all) all) (omega arith) (omega arith))

  abbrev left_of : Reader → Held J O
  left_of r = held job outcome (length (file_of r)) r.position (unread r)

  module _ (r r' : Reader) (past : 0 < r.position) (within : r.position ≤ length (file_of r)) where
    abbrev place : ℕ
    place = r.position + record_length (unread r)

    abbrev rest : List ℕ
    rest = drop (record_length (unread r)) (unread r)

    step : (turns : ℕ) (x : Result (Option (Call J O)) FileRefusal) → length (file_of r) ≡ suc turns → next_from job outcome false (unread r) ≡ x → left_of r ≡ ended r.position x (held job outcome turns place rest)
    step turns x long is =
        ap (λ n. held job outcome n r.position (unread r)) long ∙ ap (λ y. ended r.position y (held job outcome turns place rest)) is

    -- what is left past the record
    onward : (turns : ℕ) → length (file_of r) ≡ suc turns → Moves r true r' → left_of r' ≡ held job outcome turns place rest
    onward turns long moves =
        let unread_long = length-drop r.position (file_of r) in
        let rest_long = length-drop (record_length (unread r)) (unread r) in
        ap (λ f. held job outcome (length f) r'.position (drop r'.position f)) moves.same
        ∙ ap (λ p. held job outcome (length (file_of r)) p (drop p (file_of r))) moves.position
        ∙ ap (held job outcome (length (file_of r)) place) (sym (drop-drop (record_length (unread r)) r.position (file_of r)))
        ∙ held_enough (length (file_of r)) turns place rest (omega arith) (omega arith)

    taken : (n : ℕ) (x : Result (Option (Call J O)) FileRefusal) → length (file_of r) ≡ n → next_from job outcome false (unread r) ≡ x → Moves r (gave (placed r.position x)) r' → Takes (left_of r) (placed r.position x) (left_of r')
    taken zero x long is moves = absurd (omega arith)
    taken (suc turns) (Ok (Some call)) long is moves = step turns (Ok (Some call)) long is ∙ ap (and_then call) (sym (onward turns long moves))
    taken (suc turns) (Ok None) long is moves = step turns (Ok None) long is
    taken (suc turns) (Err refusal) long is moves = step turns (Err refusal) long is

    pub takes : (answer : Result (Option (Call J O)) FileFault) → answer ≡ placed r.position (next_from job outcome false (unread r)) → Moves r (gave answer) r' → Takes (left_of r) answer (left_of r')
    takes answer is moves =
        subst (λ a. Takes (left_of r) a (left_of r')) (sym is) (taken _ _ refl refl (subst (λ a. Moves r (gave a) r') is moves))
