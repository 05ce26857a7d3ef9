-- Label jobs: first label (4 bytes) and count (2). The outcome is the labels printed (2 bytes). Assumes nothing.
use Rattle.std.specs.Prelude.{ℕ, cond, ◌&&◌, List, ◌++◌, length, Ok, Err, codes, decimal, Result, ◌==◌}
use Rattle.jobs.specs.Bytes.{u16_at, u32_at, u16_bytes, u32_bytes, fits_u16, fits_u32}
use Rattle.jobs.specs.Form.{Form, words}
use Rattle.jobs.specs.declared.label.LabelJob.{LabelJob}
use Rattle.jobs.specs.declared.fault.JobFault.{JobFault}
use Rattle.jobs.specs.declared.fault.JobFault.TheVariants.{WrongWidth}

abbrev labels : ℕ → ℕ → LabelJob
labels first count = record { first = first; count = count }

abbrev decoded : List ℕ → Result LabelJob JobFault
decoded bytes = cond (length bytes == 6) (Ok (labels (u32_at bytes 0) (u16_at bytes 4))) (Err WrongWidth)

abbrev pub label_form : Form LabelJob
label_form = record {
  width = 6;
  decoded = decoded;
  encoded = λ j. u32_bytes j.first ++ u16_bytes j.count;
  fits = λ j. fits_u32 j.first && fits_u16 j.count;
  text = λ j. words (codes "labels ") j.first j.count;
}

abbrev pub printed_form : Form ℕ
printed_form = record {
  width = 2;
  decoded = λ bytes. cond (length bytes == 2) (Ok (u16_at bytes 0)) (Err WrongWidth);
  encoded = u16_bytes;
  fits = fits_u16;
  text = decimal;
}
