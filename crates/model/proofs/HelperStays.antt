-- A helper's calls keep a board safe, and read no number that does not fit. Assumes nothing.
use Rattle.std.proofs.Common.{◌≡◌, ℕ, zero, suc, ◌+◌, ◌-◌, ◌<◌, ◌≤◌, Bool, true, false, ltb, List, [], ◌∷◌, Some, None, Option, refl, ◌∙◌, arith, ltb-true}
use Rattle.std.specs.List.{AllByRecursion}
use Rattle.memory.specs.Meaning as memory
use Rattle.memory.specs.declared.words.Words.{Words}
use Rattle.model.specs.Helping.{swap_at, step_aimed, step_of, finish_of, marked, with_outcome}
use Rattle.model.specs.Keeping.{InRange, PhaseFits, Sound}
use Rattle.model.specs.Naming.{refusal_number}
use Rattle.model.specs.Places.{at, at_number, changed}
use Rattle.model.specs.State.{State, Effect}
use Rattle.model.specs.declared.cell.Cell.{Cell}
use Rattle.model.specs.declared.helper.Aim.{Aim}
use Rattle.model.specs.declared.helper.Aim.TheVariants.{ReadFlag, ReadPair, Swap, ReadRequest, WriteRequest, Hold}
use Rattle.model.specs.declared.helper.Helper.{Helper}
use Rattle.model.specs.declared.owner.Open.TheVariants as open_at
use Rattle.model.specs.declared.owner.Owner.{Owner}
use Rattle.model.specs.declared.owner.Phase.{Phase}
use Rattle.model.specs.declared.owner.Phase.TheVariants.{Idle, Opening, Shrinking}
use Rattle.model.specs.declared.owner.Shrink.TheVariants as shrink_at
use Rattle.model.specs.declared.reply.Access.{Access}
use Rattle.model.specs.declared.reply.Access.TheVariants as access
use Rattle.model.specs.declared.reply.Answer.{Answer}
use Rattle.model.specs.declared.reply.Answer.TheVariants.{Going, AllGone, NoShare, Changed}
use Rattle.model.specs.declared.reply.Refusal.TheVariants.{UnknownHelper, Holding, HoldsNone}
use Rattle.model.proofs.Entries.{there_below, numbered, length_changed}
use Rattle.model.proofs.Ways.{finish_ways}
use Rattle.std.proofs.lemmas.Bool.{cond_both}
use Rattle.std.proofs.lemmas.Option.{same_Some}
use Rattle.model.proofs.Modes.{with_words, settled_split_same, quiet_no_swap, mode_swap, quiet_split, mode_split}
use Rattle.model.proofs.OwnerStays.{Goes, refused_goes}
use Rattle.model.proofs.Safe.{Need, quiet, shared, need, MemoryFits, Numbers, AimFits, Safe, taken_more, fits_same, bound, need_bound}

aims_changed : (size i : ℕ) (hs : List Helper) (a : Aim) → AimFits size a → AllByRecursion (λ h. AimFits size h.aim) hs → AllByRecursion (λ h. AimFits size h.aim) (changed hs i (λ _. record { aim = a }))
aims_changed size i [] a fits all = tt
aims_changed size zero (h ∷ hs) a fits all = (fits, all.1)
aims_changed size (suc i) (h ∷ hs) a fits all = (all.0, aims_changed size i hs a fits all.1)

-- the bound of a swap that can pass
abbrev Room : ℕ → Need → Type 0
Room R quiet = ⊥
Room R (shared B S) = R < B

module _ {J O : Type 0} where
  -- one position more is stolen: the phases stand it
  steals : (p : Phase J O) (flag : Bool) (R split head told : ℕ) → Room R (need flag split head p) → PhaseFits flag told split head p → Numbers flag R split head p → Numbers flag (R + 1) split head p
  steals Idle true R split head told room fits stands = absurd room
  steals Idle false R split head told room fits stands = omega arith
  steals (Opening open_at.WritePair) flag R split head told room fits stands = grind arith
  steals (Shrinking shrink_at.ReadPair job) flag R split head told room fits stands = grind arith
  steals p flag R split head told room fits stands = grind arith

pub record Swapped (size R t : ℕ) (m : memory.Meaning) (v : Words) (d : Need) : Type 0 where
  pub position : t ≡ R
  pub room : Room R d
  pub fits : MemoryFits size (R + 1) (with_words m v) d

swap_fits : (size R t s : ℕ) (m : memory.Meaning) (d : Need) → MemoryFits size R m d → memory.swap_passes t s m.words ≡ true → Swapped size R t m (memory.swapped t s m.words) d
swap_fits size R t s m quiet fits passes = absurd (quiet_no_swap size t s m fits passes)
swap_fits size R t s m (shared B S) fits passes =
    let one = mode_swap size R B t s m fits.0 passes in
    record { position = one.position; room = one.shared; fits = (one.mode, settled_split_same m (memory.swapped t s m.words) (rw passes) ∙ fits.1) }

-- no split above the board's size is seen
seen_split : (size R : ℕ) (m : memory.Meaning) (d : Need) → bound d ≤ size → MemoryFits size R m d → m.words.split ≤ size
seen_split size R m quiet bound fits = quiet_split size m fits
seen_split size R m (shared B S) bound fits = mode_split size R B m bound fits.0

module _ {J O : Type 0} (s : State J O) (R : ℕ) (sound : Sound s.owner) (safe : Safe R s) (n : ℕ) (helper : ℕ) where
  abbrev o : Owner J O
  o = s.owner

  abbrev d : Need
  d = need o.own_flag o.own_split o.head o.phase

  abbrev Helps : Effect J O → Type 0
  Helps e = Goes (taken_more e.answer R) s e n

  range : InRange o
  range = sound.in_range

  -- the helper goes on
  aims_on : (touches : memory.Access) (name : Access) (answer : Answer J O) (a : Aim) → MemoryFits o.size R (memory.after touches n s.memory) d → AimFits o.size a → (refusal_number answer ≡ 20 → ⊥) → Goes R s (record { touches = touches; access = name; answer = answer; owner = o; helpers = changed s.helpers (helper - 1) (λ _. record { aim = a }); cells = s.cells }) n
  aims_on touches name answer a fits aimed fine = record {
    safe = search (aims_changed o.size (helper - 1) s.helpers a aimed safe.aims);
    fine = fine;
  }

  -- and only reads
  looks_on : (name : Access) (answer : Answer J O) (a : Aim) → AimFits o.size a → (refusal_number answer ≡ 20 → ⊥) → Goes R s (record { touches = memory.reads; access = name; answer = answer; owner = o; helpers = changed s.helpers (helper - 1) (λ _. record { aim = a }); cells = s.cells }) n
  looks_on name answer a aimed fine = aims_on memory.reads name answer a safe.memory aimed fine

  small_split : s.memory.words.split ≤ o.size
  small_split =
      seen_split o.size R s.memory d (omega (arith, range.head_size, need_bound o.own_flag o.told o.own_split o.head o.phase sound.fits range.split_head)) safe.memory

  swap_goes : (t s' : ℕ) (x : Option (Cell J O)) → (x ≡ None → ⊥) → Helps (swap_at s helper t s' x)
  swap_goes t s' None there = absurd (there refl)
  swap_goes t s' (Some cell) there =
      let w = s.memory.words in
      cond_both (memory.swap_passes t s' w) _ _ Helps
      (λ passes.
      let one = swap_fits o.size R t s' s.memory d safe.memory passes in
      record {
        safe = record {
          told = omega (arith, safe.told);
          memory = one.fits;
          numbers = steals o.phase o.own_flag R o.own_split o.head o.told one.room sound.fits safe.numbers;
          aims = aims_changed o.size (helper - 1) s.helpers (Hold t) tt safe.aims;
          cells = length_changed s.cells t (marked helper) ∙ safe.cells;
        };
        fine = omega arith;
      })
      (λ fails.
      aims_on (memory.tries t s') access.Swap Changed ReadFlag (fits_same o.size R s.memory (memory.swapped t s' w) d (rw fails) (rw fails) safe.memory) tt (omega arith))

  aimed_goes : (a : Aim) → AimFits o.size a → Helps (step_aimed s helper a)
  aimed_goes ReadFlag aimed =
      cond_both _ _ _ Helps (λ _. looks_on access.ReadFlag AllGone ReadFlag tt (omega arith)) (λ _. looks_on access.ReadFlag Going ReadPair tt (omega arith))
  aimed_goes ReadPair aimed =
      cond_both (ltb o.size s.memory.words.split) _ _ Helps (λ past. absurd (omega (arith, ltb-true o.size s.memory.words.split past, small_split)))
      (λ _. cond_both (ltb s.memory.words.tail s.memory.words.split) _ _ Helps
      (λ less. looks_on access.ReadPair Going (Swap (s.memory.words.tail, s.memory.words.split)) (ltb-true _ _ less, small_split) (omega arith))
      (λ _. looks_on access.ReadPair Going ReadRequest tt (omega arith)))
  aimed_goes (Swap pair) aimed = swap_goes pair.0 pair.1 (at s.cells pair.0) (λ none. let cell = there_below s.cells pair.0 (omega (arith, safe.cells)) in cc)
  aimed_goes ReadRequest aimed =
      cond_both _ _ _ Helps (λ _. looks_on access.ReadRequest NoShare ReadFlag tt (omega arith)) (λ _. looks_on access.ReadRequest Going WriteRequest tt (omega arith))
  aimed_goes WriteRequest aimed =
      aims_on memory.asks access.WriteRequest NoShare ReadFlag (fits_same o.size R s.memory (memory.asked s.memory.words) d refl refl safe.memory) tt (omega arith)
  aimed_goes (Hold position) aimed = refused_goes s R sound safe n access.Step Holding (omega arith)

  aim_of : (hs : List Helper) (k : ℕ) (h : Helper) → AllByRecursion (λ x. AimFits o.size x.aim) hs → at hs k ≡ Some h → AimFits o.size h.aim
  aim_of [] k h all is = cc
  aim_of (x ∷ hs) zero h all is = rw (same_Some x h is) at all.0
  aim_of (x ∷ hs) (suc k) h all is = aim_of hs k h all.1 is

  pub helper_goes : (x : Option Helper) → at_number s.helpers helper ≡ x → Helps (step_of s helper x)
  helper_goes None is = refused_goes s R sound safe n access.Step UnknownHelper (omega arith)
  helper_goes (Some h) is = aimed_goes h.aim (aim_of s.helpers (helper - 1) h safe.aims (numbered s.helpers helper h is))

  pub finish_goes : (outcome : O) (x : Option Helper) → Goes R s (finish_of s helper outcome x) n
  finish_goes outcome x =
      finish_ways s (λ e. Goes R s e n) helper outcome x (refused_goes s R sound safe n access.Finish UnknownHelper (omega arith))
      (λ h is none. refused_goes s R sound safe n access.Finish HoldsNone (omega arith))
      (λ h position is holds. record {
        safe = search (aims_changed o.size (helper - 1) s.helpers ReadFlag tt safe.aims, length_changed s.cells position (with_outcome outcome) ∙ safe.cells);
        fine = omega arith;
      })
