-- A day is read as it was written. Assumes nothing.
use Rattle.std.proofs.Common.{◌≡◌, ℕ, suc, ◌+◌, ◌<◌, ◌≤◌, Bool, true, false, cond, not, ◌&&◌, T, eqb, ltb, List, [], ◌∷◌, ◌++◌, length, take, drop, Some, None, Ok, Err, sym, refl, ap, ◌∙◌, subst, arith, ltb→lt, length-append, eq-eqb}
use Rattle.std.proofs.ByRecursion.{All-append}
use Rattle.std.proofs.lemmas.List.{take_at, drop_at}
use Rattle.std.specs.List.{flat_map, AllByRecursion}
use Rattle.calls.specs.declared.call.Call.{Call}
use Rattle.calls.specs.declared.call.Call.TheVariants.{Push, Pop, Retire, OwnerStep, HelperStep, Finish, Land}
use Rattle.jobs.specs.Bytes.{u16_bytes}
use Rattle.jobs.specs.Form.{Form, ReadsBack}
use Rattle.dayfile.specs.Format.{frame_fault, unless, some, value_length, value_bytes, record_length, tag_of, pushed, finished, call_of, call_from, next_from, settings_from}
use Rattle.dayfile.specs.Encoding.{record_bytes, memory_byte, job_byte, settings_bytes, settings_fit, call_bytes, call_fits, Reads, DaysReadBack}
use Rattle.dayfile.specs.declared.fault.FileRefusal.TheVariants.{WrongLength}
use Rattle.dayfile.specs.declared.settings.JobKind.{JobKind}
use Rattle.dayfile.specs.declared.settings.JobKind.TheVariants.{Cards, Labels}
use Rattle.dayfile.specs.declared.settings.MemoryKind.{MemoryKind}
use Rattle.dayfile.specs.declared.settings.MemoryKind.TheVariants.{Direct, Queued}
use Rattle.dayfile.specs.declared.settings.Settings.{Settings}

module _ (tag : ℕ) (value more : List ℕ) (short : length value < 65536) where
  abbrev whole : List ℕ
  whole = record_bytes tag value ++ more

  pub stated : value_length whole ≡ length value
  stated = omega arith

  pub value_cut : value_bytes whole ≡ value
  value_cut = ap (λ n. take n (value ++ more)) stated ∙ take_at value more (length value) refl

  pub more_left : drop (record_length whole) whole ≡ more
  more_left =
      let n : record_length whole ≡ suc (suc (suc (length value))) = omega (arith, stated) in
      ap (λ k. drop k whole) n ∙ drop_at value more (length value) refl

  pub some_bytes : eqb (length whole) 0 ≡ false
  some_bytes = grind arith

  pub frame_sound : 2 ≤ tag → tag ≤ 8 → frame_fault false whole ≡ None
  frame_sound low high =
      let long : length whole ≡ 3 + (length value + length more) = omega (arith, length-append value more) in
      let same = stated in
      grind arith

parts_back : (size helpers : ℕ) (memory : MemoryKind) (jobs : JobKind) (more : List ℕ) → let s : Settings = record { size = size; helpers = helpers; memory = memory; jobs = jobs } in T (settings_fit s) → length (settings_bytes s ++ more) ≤ 61440 → settings_from true (settings_bytes s ++ more) ≡ Ok s
parts_back size helpers Direct Cards more fits long = grind arith
parts_back size helpers Direct Labels more fits long = grind arith
parts_back size helpers Queued Cards more fits long = grind arith
parts_back size helpers Queued Labels more fits long = grind arith

memory_small : (m : MemoryKind) → memory_byte m < 256
memory_small Direct = omega arith
memory_small Queued = omega arith

job_small : (j : JobKind) → job_byte j < 256
job_small Cards = omega arith
job_small Labels = omega arith

settings_small : (s : Settings) → T (settings_fit s) → AllByRecursion (λ b. b < 256) (settings_bytes s)
settings_small s fits =
    let few : s.helpers < 256 = grind arith in
    (omega arith, (omega arith, (omega arith, (omega arith, (omega arith, (few, (memory_small s.memory, (job_small s.jobs, tt))))))))

first : (a b : Bool) → T (a && b) → T a
first true b both = tt
first false b both = absurd both

second : (a b : Bool) → T (a && b) → T b
second true b both = both
second false b both = absurd both

module _ {J O : Type 0} (job : Form J) (outcome : Form O) where
  -- a record of this tag and value is read by what its tag says of its value
  read : (tag : ℕ) (value more : List ℕ) → length value < 65536 → 2 ≤ tag → tag ≤ 8 → next_from job outcome false (record_bytes tag value ++ more) ≡ some (call_of job outcome (tag_of tag) value)
  read tag value more short low high =
      ap (λ b. cond b (Ok None) (some (call_from job outcome false (record_bytes tag value ++ more)))) (some_bytes tag value more short)
      ∙ ap (λ fault. some (unless fault (call_of job outcome (tag_of tag) (value_bytes (record_bytes tag value ++ more))))) (frame_sound tag value more short low high)
      ∙ ap (λ v. some (call_of job outcome (tag_of tag) v)) (value_cut tag value more short)

  module _ (jobs_back : ReadsBack job) (outcomes_back : ReadsBack outcome) where
    -- a call is read as it was written
    pub call_back : (c : Call J O) (more : List ℕ) → T (call_fits job outcome c) → next_from job outcome false (call_bytes job outcome c ++ more) ≡ Ok (Some c)
    call_back (Push j) more fits =
        let long = jobs_back.long j fits in
        let wide = jobs_back.narrow in
        let right : eqb (length (job.encoded j)) job.width ≡ true = eq-eqb _ _ long in
        read 2 (job.encoded j) more (omega arith) (omega arith) (omega arith)
        ∙ ap (λ b. some (cond (not b) (Err WrongLength) (pushed job outcome (job.decoded (job.encoded j))))) right
        ∙ ap (λ d. some (pushed job outcome d)) (jobs_back.back j fits)
    call_back Pop more fits = read 3 [] more (omega arith) (omega arith) (omega arith)
    call_back Retire more fits = read 4 [] more (omega arith) (omega arith) (omega arith)
    call_back OwnerStep more fits = read 5 [] more (omega arith) (omega arith) (omega arith)
    call_back (HelperStep helper) more fits = read 6 (helper ∷ []) more (omega arith) (omega arith) (omega arith)
    call_back (Finish helper o) more fits =
        let o_fits = second (ltb helper 256) (outcome.fits o) fits in
        let value = helper ∷ outcome.encoded o in
        let long = outcomes_back.long o o_fits in
        let wide = outcomes_back.narrow in
        let right : eqb (length value) (1 + outcome.width) ≡ true = eq-eqb _ _ (omega arith) in
        read 7 value more (omega arith) (omega arith) (omega arith)
        ∙ ap (λ b. some (cond (not b) (Err WrongLength) (finished job outcome helper (outcome.decoded (outcome.encoded o))))) right
        ∙ ap (λ d. some (finished job outcome helper d)) (outcomes_back.back o o_fits)
    call_back Land more fits = read 8 [] more (omega arith) (omega arith) (omega arith)

    value_short : (c : Call J O) → T (call_fits job outcome c) → (tag : ℕ) × (value : List ℕ) × (call_bytes job outcome c ≡ record_bytes tag value) × (length value < 65536)
    value_short (Push j) fits = (2, job.encoded j, refl, omega (arith, jobs_back.long j fits, jobs_back.narrow))
    value_short Pop fits = (3, [], refl, omega arith)
    value_short Retire fits = (4, [], refl, omega arith)
    value_short OwnerStep fits = (5, [], refl, omega arith)
    value_short (HelperStep helper) fits = (6, helper ∷ [], refl, omega arith)
    value_short (Finish helper o) fits =
        (7, helper ∷ outcome.encoded o, refl, omega (arith, outcomes_back.long o (second (ltb helper 256) (outcome.fits o) fits), outcomes_back.narrow))
    value_short Land fits = (8, [], refl, omega arith)

    -- past a call's record stands what was written after it
    pub call_past : (c : Call J O) (more : List ℕ) → T (call_fits job outcome c) → drop (record_length (call_bytes job outcome c ++ more)) (call_bytes job outcome c ++ more) ≡ more
    call_past c more fits =
        let (tag, value, same, short) = value_short c fits in
        subst (λ b. drop (record_length (b ++ more)) (b ++ more) ≡ more) (sym same) (more_left tag value more short)

    all_read : (calls : List (Call J O)) → AllByRecursion (λ c. T (call_fits job outcome c)) calls → Reads job outcome (flat_map (call_bytes job outcome) calls) calls
    all_read [] fit = refl
    all_read (c ∷ calls) fit =
        let later = flat_map (call_bytes job outcome) calls in
        (call_back c later fit.0, subst (λ rest. Reads job outcome rest calls) (sym (call_past c later fit.0)) (all_read calls fit.1))

    record_small : (tag : ℕ) (value : List ℕ) → tag < 256 → AllByRecursion (λ b. b < 256) value → AllByRecursion (λ b. b < 256) (record_bytes tag value)
    record_small tag value small all = (small, (omega arith, (omega arith, all)))

    call_small : (c : Call J O) → T (call_fits job outcome c) → AllByRecursion (λ b. b < 256) (call_bytes job outcome c)
    call_small (Push j) fits = record_small 2 (job.encoded j) (omega arith) (jobs_back.bytes j)
    call_small Pop fits = record_small 3 [] (omega arith) tt
    call_small Retire fits = record_small 4 [] (omega arith) tt
    call_small OwnerStep fits = record_small 5 [] (omega arith) tt
    call_small (HelperStep helper) fits = record_small 6 (helper ∷ []) (omega arith) (ltb→lt helper 256 fits, tt)
    call_small (Finish helper o) fits = record_small 7 (helper ∷ outcome.encoded o) (omega arith) (ltb→lt helper 256 (first (ltb helper 256) (outcome.fits o) fits), outcomes_back.bytes o)
    call_small Land fits = record_small 8 [] (omega arith) tt

    calls_small : (calls : List (Call J O)) → AllByRecursion (λ c. T (call_fits job outcome c)) calls → AllByRecursion (λ b. b < 256) (flat_map (call_bytes job outcome) calls)
    calls_small [] fit = tt
    calls_small (c ∷ calls) fit = All-append _ _ _ (call_small c fit.0) (calls_small calls fit.1)

    pub days_read_back : DaysReadBack job outcome
    days_read_back s calls s_fits fit long =
        let later = flat_map (call_bytes job outcome) calls in
        let value = u16_bytes s.size ++ (s.helpers ∷ memory_byte s.memory ∷ job_byte s.jobs ∷ []) in
        record {
          bytes = All-append _ (settings_bytes s) later (settings_small s s_fits) (calls_small calls fit);
          board = parts_back s.size s.helpers s.memory s.jobs later s_fits long;
          rest = subst (λ rest. Reads job outcome rest calls) (sym (more_left 1 value later (omega arith))) (all_read calls fit);
        }
