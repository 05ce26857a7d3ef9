-- The day file's format: what the record at a place says, or the first rule that it breaks. Assumes nothing.
use Rattle.std.specs.Prelude.{ℕ, ◌+◌, Bool, cond, not, ◌&&◌, ◌||◌, List, length, take, drop, Some, None, Ok, Err, Option, Result, ◌==◌, nat_lt, slice_index}
use Rattle.calls.specs.declared.call.Call.{Call}
use Rattle.calls.specs.declared.call.Call.TheVariants.{Push, Pop, Retire, OwnerStep, HelperStep, Finish, Land}
use Rattle.jobs.specs.Bytes.{u16_at}
use Rattle.jobs.specs.Form.{Form}
use Rattle.jobs.specs.declared.fault.JobFault.{JobFault}
use Rattle.dayfile.specs.Faults.{refusal_of}
use Rattle.dayfile.specs.declared.fault.FileFault.{FileFault}
use Rattle.dayfile.specs.declared.fault.FileRefusal.{FileRefusal}
use Rattle.dayfile.specs.declared.fault.FileRefusal.TheVariants.{TooLong, CutShort, UnknownTag, OutOfOrder, WrongLength, WrongSize, WrongHelpers, UnknownKind}
use Rattle.dayfile.specs.declared.settings.JobKind.{JobKind}
use Rattle.dayfile.specs.declared.settings.JobKind.TheVariants.{Cards, Labels}
use Rattle.dayfile.specs.declared.settings.MemoryKind.{MemoryKind}
use Rattle.dayfile.specs.declared.settings.MemoryKind.TheVariants.{Direct, Queued}
use Rattle.dayfile.specs.declared.settings.Settings.{Settings}
use Rattle.dayfile.specs.declared.tag.Tag.{Tag}
use Rattle.dayfile.specs.declared.tag.Tag.TheVariants as tag

-- A record is a one-byte tag, a two-byte length and a value. `rest` is a file's bytes from a record on.
module _ (rest : List ℕ) where
  abbrev pub tag_byte : ℕ
  tag_byte = slice_index rest 0

  abbrev pub value_length : ℕ
  value_length = u16_at rest 1

  abbrev pub record_length : ℕ
  record_length = 3 + value_length

  abbrev pub value_bytes : List ℕ
  value_bytes = take value_length (drop 3 rest)

-- one rule: its refusal where it is broken, and else what follows
abbrev pub refuse_if : {X : Type 0} → Bool → FileRefusal → Result X FileRefusal → Result X FileRefusal
refuse_if broken refusal following = cond broken (Err refusal) following

abbrev pub outside : ℕ → ℕ → ℕ → Bool
outside low high n = nat_lt n low || nat_lt high n

-- the first rule for every record that this one breaks: the board's record stands first, and only there
abbrev pub frame_fault : Bool → List ℕ → Option FileRefusal
frame_fault first rest =
    cond (first && nat_lt 61440 (length rest)) (Some TooLong)
    (cond (nat_lt (length rest) 3) (Some CutShort)
    (cond (nat_lt (length rest) (record_length rest)) (Some CutShort)
    (cond (outside 1 8 (tag_byte rest)) (Some UnknownTag)
    (cond (tag_byte rest == 1) (cond first None (Some OutOfOrder)) (cond first (Some OutOfOrder) None)))))

abbrev pub unless : {X : Type 0} → Option FileRefusal → Result X FileRefusal → Result X FileRefusal
unless (Some refusal) following = Err refusal
unless None following = following

abbrev pub memory_kind : ℕ → MemoryKind
memory_kind byte = cond (byte == 0) Direct Queued

abbrev pub job_kind : ℕ → JobKind
job_kind byte = cond (byte == 0) Cards Labels

-- 1 board, 2 push, 3 pop, 4 retire, 5 owner step, 6 helper step, 7 finish, 8 land
abbrev pub tag_of : ℕ → Tag
tag_of byte =
    cond (byte == 1) tag.Board (cond (byte == 2) tag.Push (cond (byte == 3) tag.Pop (cond (byte == 4) tag.Retire
    (cond (byte == 5) tag.OwnerStep (cond (byte == 6) tag.HelperStep (cond (byte == 7) tag.Finish tag.Land))))))

-- size (2 bytes), helpers (1), memory kind (1) and job kind (1)
abbrev pub settings_of : List ℕ → Result Settings FileRefusal
settings_of value =
    refuse_if (not (length value == 5)) WrongLength
    (refuse_if (outside 1 1024 (u16_at value 0)) WrongSize
    (refuse_if (outside 1 16 (slice_index value 2)) WrongHelpers
    (refuse_if (outside 0 1 (slice_index value 3) || outside 0 1 (slice_index value 4)) UnknownKind
    (Ok (record {
      size = u16_at value 0;
      helpers = slice_index value 2;
      memory = memory_kind (slice_index value 3);
      jobs = job_kind (slice_index value 4);
    })))))

-- what the board's record says
abbrev pub settings_from : Bool → List ℕ → Result Settings FileRefusal
settings_from first rest =
    unless (frame_fault first rest) (refuse_if (not (tag_byte rest == 1)) OutOfOrder (settings_of (value_bytes rest)))

abbrev pub some : {X : Type 0} → Result X FileRefusal → Result (Option X) FileRefusal
some (Ok x) = Ok (Some x)
some (Err refusal) = Err refusal

-- the length that a value has to have
abbrev pub sized : {X : Type 0} → ℕ → List ℕ → Result X FileRefusal → Result X FileRefusal
sized n value following = refuse_if (not (length value == n)) WrongLength following

module _ {J O : Type 0} (job : Form J) (outcome : Form O) where
  abbrev pub pushed : Result J JobFault → Result (Call J O) FileRefusal
  pushed (Ok j) = Ok (Push j)
  pushed (Err fault) = Err (refusal_of fault)

  abbrev pub finished : ℕ → Result O JobFault → Result (Call J O) FileRefusal
  finished helper (Ok o) = Ok (Finish helper o)
  finished helper (Err fault) = Err (refusal_of fault)

  -- what a record asks of the board, by its tag
  abbrev pub call_of : Tag → List ℕ → Result (Call J O) FileRefusal
  call_of tag.Board value = Err OutOfOrder
  call_of tag.Push value = sized job.width value (pushed (job.decoded value))
  call_of tag.Pop value = sized 0 value (Ok Pop)
  call_of tag.Retire value = sized 0 value (Ok Retire)
  call_of tag.OwnerStep value = sized 0 value (Ok OwnerStep)
  call_of tag.HelperStep value = sized 1 value (Ok (HelperStep (slice_index value 0)))
  call_of tag.Finish value = sized (1 + outcome.width) value (finished (slice_index value 0) (outcome.decoded (drop 1 value)))
  call_of tag.Land value = sized 0 value (Ok Land)

  abbrev pub call_from : Bool → List ℕ → Result (Call J O) FileRefusal
  call_from first rest = unless (frame_fault first rest) (call_of (tag_of (tag_byte rest)) (value_bytes rest))

  -- what the next record asks of the board, or nothing where the file ends with the record before
  abbrev pub next_from : Bool → List ℕ → Result (Option (Call J O)) FileRefusal
  next_from first rest = cond (not first && length rest == 0) (Ok None) (some (call_from first rest))

-- a refusal with the place of its record
abbrev pub placed : {X : Type 0} → ℕ → Result X FileRefusal → Result X FileFault
placed place (Ok x) = Ok x
placed place (Err refusal) = Err (record { refusal = refusal; place = place })
