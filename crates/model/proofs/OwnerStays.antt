-- The owner's calls keep a board safe, and read no number that does not fit. Assumes nothing.
use Rattle.std.proofs.Common.{◌≡◌, ℕ, ◌+◌, ◌-◌, ◌/◌, ◌≤◌, true, false, cond, ◌&&◌, eqb, ltb, leb, Some, None, Option, sym, refl, ◌∙◌, arith, ltb-false, ltb-true, eqb-true}
use Rattle.memory.specs.Meaning as memory
use Rattle.memory.specs.declared.words.Write.TheVariants as write
use Rattle.model.specs.Keeping.{InRange, PhaseFits, Sound}
use Rattle.model.specs.Orders.{progress}
use Rattle.model.specs.Naming.{number, refusal_number}
use Rattle.model.specs.Owning.{owner_step_at, working, ending_answer, idle, top, push, popped, pop, retired, retired_with, retire, lowered}
use Rattle.model.specs.State.{State, Effect, refused, owns, state_after, with_split, with_flag, with_told, with_phase}
use Rattle.model.specs.declared.cell.Cell.{Cell}
use Rattle.model.specs.declared.owner.Ending.{Ending}
use Rattle.model.specs.declared.owner.Ending.TheVariants as ending
use Rattle.model.specs.declared.owner.Open.TheVariants as open_at
use Rattle.model.specs.declared.owner.Owner.{Owner}
use Rattle.model.specs.declared.owner.Phase.{Phase}
use Rattle.model.specs.declared.owner.Phase.TheVariants.{Idle, Opening, Sharing, Shrinking, Closing, Retiring}
use Rattle.model.specs.declared.owner.Share.TheVariants as share_at
use Rattle.model.specs.declared.owner.Shrink.TheVariants as shrink_at
use Rattle.model.specs.declared.reply.Access.{Access}
use Rattle.model.specs.declared.reply.Access.TheVariants as access
use Rattle.model.specs.declared.reply.Answer.{Answer}
use Rattle.model.specs.declared.reply.Answer.TheVariants.{Going, Pushed, Stolen, Retired}
use Rattle.model.specs.declared.reply.Refusal.{Refusal}
use Rattle.model.specs.declared.reply.Refusal.TheVariants.{Busy, NothingBegun, Full, Empty, NotTold, Unfinished}
use Rattle.model.proofs.Entries.{length_changed}
use Rattle.model.proofs.Ways.{idle_is}
use Rattle.model.proofs.Ways.{begun_ways}
use Rattle.std.proofs.lemmas.Bool.{cond_both}
use Rattle.std.proofs.lemmas.Bool.Decides.{nat_tests}
use Rattle.model.proofs.Modes.{Quiet, mode_quiet, quiet_opens, settled_tail, fence_shows, settled_landed, settled_joins}
use Rattle.model.proofs.Safe.{shared, need, MemoryFits, Numbers, Safe, given_up, fits_lands, write_shared, write_quiet}

-- the call leads to a safe board, and does not refuse with 20
pub record Goes {J O : Type 0} (stolen : ℕ) (s : State J O) (e : Effect J O) (n : ℕ) : Type 0 where
  pub safe : Safe stolen (state_after s e n)
  pub fine : refusal_number e.answer ≡ 20 → ⊥

fine_ending : {J : Type 0} (O : Type 0) (end : Ending J) → refusal_number (ending_answer {O = O} end) ≡ 20 → ⊥
fine_ending O ending.Pushed is = omega arith
fine_ending O (ending.Work job) is = omega arith

module _ {J O : Type 0} (s : State J O) (R : ℕ) (sound : Sound s.owner) (safe : Safe R s) (n : ℕ) where
  abbrev o : Owner J O
  o = s.owner

  range : InRange o
  range = sound.in_range

  -- the owner goes on with R positions stolen
  on : (touches : memory.Access) (name : Access) (answer : Answer J O) (o' : Owner J O) (R' : ℕ) → o'.size ≡ o.size → o'.told ≤ R' → MemoryFits o'.size R' (memory.after touches n s.memory) (need o'.own_flag o'.own_split o'.head o'.phase) → Numbers o'.own_flag R' o'.own_split o'.head o'.phase → (refusal_number answer ≡ 20 → ⊥) → Goes R' s (owns s touches name answer o') n
  on touches name answer o' R' size told fits numbers fine = record {
    safe = record {
      told = told;
      memory = fits;
      numbers = numbers;
      aims = rw size safe.aims;
      cells = safe.cells ∙ sym size;
    };
    fine = fine;
  }

  -- a refused call leaves the board as it was
  pub refused_goes : (name : Access) (refusal : Refusal) → (number refusal ≡ 20 → ⊥) → Goes R s (refused s name refusal) n
  refused_goes name refusal fine = record {
    safe = search;
    fine = fine;
  }

  abbrev Owes : Phase J O → Type 0
  Owes p = MemoryFits o.size R s.memory (need o.own_flag o.own_split o.head p)

  abbrev Stands : Phase J O → Type 0
  Stands p = Numbers o.own_flag R o.own_split o.head p

  -- no access to the words that changes them: another phase with the same debt
  reads_on : (name : Access) (answer : Answer J O) (p : Phase J O) → Owes p → Stands p → (refusal_number answer ≡ 20 → ⊥) → Goes R s (owns s memory.reads name answer (with_phase o p)) n
  reads_on name answer p owes stands fine = on memory.reads name answer (with_phase o p) R refl safe.told owes stands fine

  -- the end of an operation on an open board
  to_rest : (name : Access) (touches : memory.Access) (answer : Answer J O) → o.own_flag ≡ false → MemoryFits o.size R (memory.after touches n s.memory) (shared o.own_split o.own_split) → R ≤ o.own_split → (refusal_number answer ≡ 20 → ⊥) → Goes R s (owns s touches name answer (with_phase o Idle)) n
  to_rest name touches answer open_flag fits low fine =
      on touches name answer (with_phase o Idle) R refl safe.told (rw open_flag fits) (rw open_flag low) fine

  abbrev Fits : Phase J O → Type 0
  Fits p = PhaseFits o.own_flag o.told o.own_split o.head p

  abbrev Step : Effect J O → Type 0
  Step e = Goes R s e n

  -- what the owner reads
  abbrev tail : ℕ
  tail = (memory.settled s.memory).tail

  abbrev split : ℕ
  split = (memory.settled s.memory).split

  working_on : (touches : memory.Access) (name : Access) (job : J) (σ : ℕ) → MemoryFits o.size R (memory.after touches n s.memory) (shared σ σ) → R ≤ σ → Goes R s (owns s touches name Going (working (with_split o σ) job)) n
  working_on touches name job σ fits low = on touches name Going (working (with_split o σ) job) R refl safe.told fits low (omega arith)

  read_pair : (job : J) → Fits (Shrinking shrink_at.ReadPair job) → Owes (Shrinking shrink_at.ReadPair job) → Stands (Shrinking shrink_at.ReadPair job) → Step (owner_step_at s (Shrinking shrink_at.ReadPair job))
  read_pair job fits owes stands =
      let tail_is = settled_tail o.size R o.own_split s.memory owes.0 in
      let next = Shrinking (shrink_at.WriteSplit tail split) job in
      let ok : (leb o.told tail && (leb tail split && eqb split o.own_split)) ≡ true = grind (arith, nat_tests, safe.told) in
      rw ok
      (cond_both (eqb tail split) Closing next (λ p. Step (owns s memory.reads access.ReadPair Going (with_phase o p)))
      (λ same. let equal = eqb-true tail split same in reads_on access.ReadPair Going Closing (mode_quiet o.size R o.own_split s.memory (omega arith) (omega (arith, range.head_size)) owes.0) (omega arith) (omega arith))
      (λ _. reads_on access.ReadPair Going next owes (omega arith) (omega arith)))

  read_tail : (t s' : ℕ) (job : J) → Fits (Shrinking (shrink_at.ReadTail t s') job) → Owes (Shrinking (shrink_at.ReadTail t s') job) → Stands (Shrinking (shrink_at.ReadTail t s') job) → Step (owner_step_at s (Shrinking (shrink_at.ReadTail t s') job))
  read_tail t s' job fits owes stands =
      let tail_is = settled_tail o.size R o.own_split s.memory owes.0 in
      let again = Shrinking (shrink_at.WriteAgain tail s') job in
      let P : Owner J O → Type 0 = λ o'. Step (owns s memory.reads access.ReadTail Going o') in
      let ok : (leb t tail && leb tail s') ≡ true = grind (arith, nat_tests) in
      rw ok
      (cond_both (eqb tail s') (with_phase o Closing) (cond (ltb ((t + s') / 2) tail) (with_phase o again) (working o job)) P
      (λ same. let equal = eqb-true tail s' same in reads_on access.ReadTail Going Closing (mode_quiet o.size R o.own_split s.memory (omega arith) (omega (arith, range.head_size)) owes.0) (omega arith) (omega arith))
      (λ apart. cond_both (ltb ((t + s') / 2) tail) (with_phase o again) (working o job) P
      (λ past. reads_on access.ReadTail Going again owes (tail_is, omega (arith, ltb-true _ _ past)) (omega arith))
      (λ within. working_on memory.reads access.ReadTail job o.own_split owes (omega (arith, ltb-false _ _ within)))))

  pub step_goes : (p : Phase J O) → Fits p → Owes p → Stands p → memory.MayLand (owner_step_at s p).touches n s.memory → Step (owner_step_at s p)
  step_goes Idle fits owes stands may = refused_goes access.Step NothingBegun (omega arith)
  step_goes (Opening open_at.WritePair) fits owes stands may =
      let head_is : o.head ≡ R + 1 = sym stands in
      let below_is : R + 1 - 1 ≡ R = omega arith in
      let opened : MemoryFits o.size R (memory.oldest_landed n (memory.queued_up (write.Pair R (R + 1)) s.memory)) (shared (R + 1) (R + 1)) =
      fits_lands o.size R n (memory.queued_up (write.Pair R (R + 1)) s.memory) (shared (R + 1) (R + 1)) (quiet_opens o.size R s.memory owes, rw (settled_joins (write.Pair R (R + 1)) s.memory)) in
      on (memory.puts (write.Pair (o.head - 1) o.head)) access.WritePair Going (with_phase o (Opening open_at.WriteFlag)) R refl safe.told (rw (head_is, below_is) opened)
      (omega arith) (omega arith)
  step_goes (Opening open_at.WriteFlag) fits owes stands may =
      on (memory.puts (write.Flag false)) access.WriteFlag Going (with_phase (with_flag (with_split o o.head) false) (Opening open_at.ReadRequest)) R refl safe.told
      (write_shared o.size R o.head o.head o.head n s.memory (write.Flag false) (omega arith) tt owes.1 owes.0) stands.0 (omega arith)
  step_goes (Opening open_at.ReadRequest) fits owes stands may =
      cond_both _ _ _ Step (λ _. reads_on access.ReadRequest Going (Sharing share_at.WriteRequest ending.Pushed) owes stands (omega arith))
      (λ _. to_rest access.ReadRequest memory.reads Pushed fits owes stands (omega arith))
  step_goes (Sharing share_at.ReadRequest end) fits owes stands may =
      cond_both _ _ _ Step (λ _. reads_on access.ReadRequest Going (Sharing share_at.WriteSplit end) owes stands (omega arith))
      (λ _. to_rest access.ReadRequest memory.reads (ending_answer end) fits owes stands (fine_ending O end))
  step_goes (Sharing share_at.WriteSplit end) fits owes stands may =
      let m = (o.own_split + o.head + 1) / 2 in
      let up : o.own_split ≤ m = omega (arith, range.split_head fits) in
      on (memory.puts (write.Split m)) access.WriteSplit Going (with_phase (with_split o m) (Sharing share_at.WriteRequest end)) R refl safe.told
      (write_shared o.size R o.own_split m m n s.memory (write.Split m) up (omega arith) refl owes.0) (omega (arith, stands, up)) (omega arith)
  step_goes (Sharing share_at.WriteRequest end) fits owes stands may =
      to_rest access.WriteRequest (memory.puts (write.Request false)) (ending_answer end) fits
      (write_shared o.size R o.own_split o.own_split o.own_split n s.memory (write.Request false) (omega arith) tt owes.1 owes.0) stands (fine_ending O end)
  step_goes (Shrinking shrink_at.ReadPair job) fits owes stands may = read_pair job fits owes stands
  step_goes (Shrinking (shrink_at.WriteSplit t s') job) fits owes stands may =
      let (flag, told, less, whole) = fits in
      let m = (t + s') / 2 in
      on (memory.puts (write.Split m)) access.WriteSplit Going (with_phase (with_split o m) (Shrinking (shrink_at.Fence t s') job)) R refl safe.told
      (write_shared o.size R o.own_split s' m n s.memory (write.Split m) (omega (arith, stands.2)) (omega arith) refl owes.0)
      (stands.0, omega (arith, stands.1, stands.2)) (omega arith)
  step_goes (Shrinking (shrink_at.Fence t s') job) fits owes stands may =
      let shown = fence_shows o.size R s' n s.memory may owes.0 in
      on memory.fences access.Fence Going (with_phase o (Shrinking (shrink_at.ReadTail t s') job)) R refl safe.told
      (rw owes.1 at shown, rw (settled_landed n s.memory) owes.1) stands (omega arith)
  step_goes (Shrinking (shrink_at.ReadTail t s') job) fits owes stands may = read_tail t s' job fits owes stands
  step_goes (Shrinking (shrink_at.WriteAgain u s') job) fits owes stands may =
      let (flag, told, less, whole) = fits in
      let m = (u + s') / 2 in
      let up : o.own_split ≤ m = omega (arith, stands.0, stands.1) in
      working_on (memory.puts (write.Split m)) access.WriteSplit job m
      (write_shared o.size R o.own_split m m n s.memory (write.Split m) up (omega arith) refl owes.0) (omega (arith, stands.0))
  step_goes Closing fits owes stands may =
      on (memory.puts (write.Flag true)) access.WriteFlag Stolen (with_phase (with_told (with_flag o true) o.head) Idle) R refl (omega (arith, stands))
      (write_quiet o.size R n s.memory true owes) stands (omega arith)
  step_goes (Retiring outcome) fits owes stands may =
      on (memory.puts (write.Flag true)) access.WriteFlag (Retired outcome) (with_phase o Idle) R refl safe.told
      (rw fits (write_quiet o.size R n s.memory true owes)) (rw fits stands) (omega arith)

  -- with no operation under way the board is shut or open
  module _ (rest : idle o.phase ≡ true) where
    shut_memory : o.own_flag ≡ true → Quiet o.size s.memory
    shut_memory shut = rw (idle_is o.phase rest, shut) at safe.memory

    shut_numbers : o.own_flag ≡ true → R ≡ o.head
    shut_numbers shut = rw (idle_is o.phase rest, shut) at safe.numbers

    open_memory : o.own_flag ≡ false → MemoryFits o.size R s.memory (shared o.own_split o.own_split)
    open_memory shared_flag = rw (idle_is o.phase rest, shared_flag) at safe.memory

    open_numbers : o.own_flag ≡ false → R ≤ o.own_split
    open_numbers shared_flag = rw (idle_is o.phase rest, shared_flag) at safe.numbers

  pub push_goes : (job : J) → Goes R s (push s job) n
  push_goes job =
      begun_ways s Step access.Push _ (λ rest. cond_both (eqb o.head o.size) (refused s access.Push Full) _ Step (λ _. refused_goes access.Push Full (omega arith)) (λ apart. record {
        safe = record {
          told = safe.told;
          memory = cond_both o.own_flag (Opening open_at.WritePair) (Sharing share_at.ReadRequest ending.Pushed) (λ p. MemoryFits o.size R s.memory (need o.own_flag o.own_split (o.head + 1) p)) (shut_memory rest) (open_memory rest);
          numbers = cond_both o.own_flag (Opening open_at.WritePair) (Sharing share_at.ReadRequest ending.Pushed) (λ p. Numbers o.own_flag R o.own_split (o.head + 1) p) (λ shut. omega (arith, shut_numbers rest shut)) (open_numbers rest);
          aims = safe.aims;
          cells = length_changed s.cells o.head _ ∙ safe.cells;
        };
        fine = omega arith;
      })) (refused_goes access.Push Busy (omega arith))

  popped_goes : idle o.phase ≡ true → (x : Option (Cell J O)) → Goes R s (popped s x) n
  popped_goes rest None = refused_goes access.Pop Empty (omega arith)
  popped_goes rest (Some cell) =
      cond_both o.own_flag _ _ Step
      (λ shut. on memory.reads access.Pop Stolen (with_told o o.head) R refl (omega (arith, shut_numbers rest shut)) safe.memory safe.numbers (omega arith))
      (λ shared_flag.
      cond_both (ltb o.own_split o.head) _ _ Step
      (λ private. working_on memory.reads access.Pop cell.job o.own_split (open_memory rest shared_flag) (open_numbers rest shared_flag))
      (λ all. reads_on access.Pop Going (Shrinking shrink_at.ReadPair cell.job) (open_memory rest shared_flag) (open_numbers rest shared_flag) (omega arith)))

  pub pop_goes : Goes R s (pop s) n
  pop_goes = begun_ways s Step access.Pop (popped s (top s)) (λ rest. popped_goes rest (top s)) (refused_goes access.Pop Busy (omega arith))

  -- a retire gives its position up
  abbrev Retires : Effect J O → Type 0
  Retires e = Goes (given_up (progress e.answer) R) s e n

  retired_with_goes : idle o.phase ≡ true → o.head ≤ o.told → (x : Option O) → Retires (retired_with s x)
  retired_with_goes rest told None = refused_goes access.Retire Unfinished (omega arith)
  retired_with_goes rest told (Some outcome) =
      let low = safe.told in
      cond_both o.own_flag _ _ Retires
      (λ shut.
      let all = shut_numbers rest shut in
      on memory.reads access.Retire (Retired outcome) (lowered s) (R - 1) refl (omega arith)
      (rw (idle_is o.phase rest, shut) (shut_memory rest shut)) (rw (idle_is o.phase rest, shut) (omega arith))
      (omega arith))
      (λ shared_flag.
      let high = range.split_head shared_flag in
      let up = open_numbers rest shared_flag in
      let top_is = range.head_size in
      on memory.reads access.Retire Going (with_phase (with_flag (lowered s) true) (Retiring outcome)) (R - 1) refl (omega arith)
      (mode_quiet o.size R o.own_split s.memory (omega arith) (omega arith) (open_memory rest shared_flag).0) (omega arith) (omega arith))

  retired_goes : idle o.phase ≡ true → (x : Option (Cell J O)) → Retires (retired s x)
  retired_goes rest None = refused_goes access.Retire Empty (omega arith)
  retired_goes rest (Some cell) =
      cond_both (ltb o.told o.head) (refused s access.Retire NotTold) (retired_with s cell.outcome) Retires (λ _. refused_goes access.Retire NotTold (omega arith))
      (λ told. retired_with_goes rest (ltb-false _ _ told) cell.outcome)

  pub retire_goes : Retires (retire s)
  retire_goes =
      begun_ways s Retires access.Retire (retired s (top s)) (λ rest. retired_goes rest (top s)) (refused_goes access.Retire Busy (omega arith))
