-- Card jobs: action (1 byte), card (4) and amount or voucher number (4). The outcome is the card's balance (4 bytes, signed).
-- Assumes nothing.
use Rattle.std.specs.Prelude.{ℕ, Bool, cond, ◌&&◌, List, ◌∷◌, ◌++◌, length, ℤ, Ok, Err, codes, Result, ◌==◌, slice_index}
use Rattle.std.specs.Fmt.{signed_decimal}
use Rattle.jobs.specs.Bytes.{u32_at, u32_bytes, fits_u32, to_signed, from_signed, fits_i32}
use Rattle.jobs.specs.Form.{Form, words}
use Rattle.jobs.specs.declared.card.CardJob.{CardJob}
use Rattle.jobs.specs.declared.card.CardJob.TheVariants.{Award, Issue, Withdraw}
use Rattle.jobs.specs.declared.fault.JobFault.{JobFault}
use Rattle.jobs.specs.declared.fault.JobFault.TheVariants.{WrongWidth, UnknownAction}

-- action byte 1 awards, 2 issues and 3 withdraws; no other byte is an action
abbrev acted : ℕ → ℕ → ℕ → Result CardJob JobFault
acted action card number =
    cond (action == 1) (Ok (Award card number)) (cond (action == 2) (Ok (Issue card number)) (cond (action == 3) (Ok (Withdraw card number)) (Err UnknownAction)))

abbrev decoded : List ℕ → Result CardJob JobFault
decoded bytes = cond (length bytes == 9) (acted (slice_index bytes 0) (u32_at bytes 1) (u32_at bytes 5)) (Err WrongWidth)

abbrev encoded : CardJob → List ℕ
encoded (Award card amount) = 1 ∷ (u32_bytes card ++ u32_bytes amount)
encoded (Issue card voucher) = 2 ∷ (u32_bytes card ++ u32_bytes voucher)
encoded (Withdraw card voucher) = 3 ∷ (u32_bytes card ++ u32_bytes voucher)

abbrev fits : CardJob → Bool
fits (Award card amount) = fits_u32 card && fits_u32 amount
fits (Issue card voucher) = fits_u32 card && fits_u32 voucher
fits (Withdraw card voucher) = fits_u32 card && fits_u32 voucher

abbrev text : CardJob → List ℕ
text (Award card amount) = words (codes "award ") card amount
text (Issue card voucher) = words (codes "issue ") card voucher
text (Withdraw card voucher) = words (codes "withdraw ") card voucher

abbrev pub card_form : Form CardJob
card_form = record { width = 9; decoded = decoded; encoded = encoded; fits = fits; text = text }

abbrev pub balance_form : Form ℤ
balance_form = record {
  width = 4;
  decoded = λ bytes. cond (length bytes == 4) (Ok (to_signed (u32_at bytes 0))) (Err WrongWidth);
  encoded = λ z. u32_bytes (from_signed z);
  fits = fits_i32;
  text = signed_decimal;
}
