-- What the cells and the helpers keep of each other: cells below the stolen count are taken, the others below head are free,
-- and a helper holds just what its aim says. Assumes nothing.
use Rattle.std.proofs.Common.{◌≡◌, ℕ, suc, ◌+◌, ◌-◌, ◌<◌, ◌≤◌, List, length, take, replicate, is_some, Some, None, sym, refl, ap, ◌∙◌, arith}
use Rattle.model.specs.Helping.{marked, with_outcome}
use Rattle.model.specs.Histories.{New}
use Rattle.model.specs.Places.{at, at_number, changed}
use Rattle.model.specs.Plain.{place_held}
use Rattle.model.specs.State.{State}
use Rattle.model.specs.declared.cell.Cell.{Cell}
use Rattle.model.specs.declared.helper.Aim.{Aim}
use Rattle.model.specs.declared.helper.Aim.TheVariants.{ReadFlag, Hold}
use Rattle.model.specs.declared.helper.Helper.{Helper}
use Rattle.model.specs.declared.owner.Phase.{Phase}
use Rattle.model.specs.declared.owner.Phase.TheVariants.{Shrinking}
use Rattle.model.proofs.Entries.{same_or_apart, there_below, changed_here, changed_elsewhere, changed_ways, numbered, number_positive, number_of, number_here, number_elsewhere, take_at, take_below, TakenAt, FreeAt, HeldAt, taken_stays, free_stays, held_stays, held_by_none, held_by_at}
use Rattle.model.proofs.Ways.{HoldsNothing}

-- the helper of this number holds this position
pub record Holds (hs : List Helper) (k p : ℕ) : Type 0 where
  pub helper : Helper
  pub there : at_number hs k ≡ Some helper
  pub aim : helper.aim ≡ Hold p

pub aims_at_one : (hs : List Helper) (k p q : ℕ) → Holds hs k p → Holds hs k q → p ≡ q
aims_at_one hs k p q one two = cc

pub aims_elsewhere : (hs : List Helper) (k p : ℕ) (h : Helper) → at_number hs k ≡ Some h → HoldsNothing h.aim → Holds hs k p → ⊥
aims_elsewhere hs k p h is none holds = none p cc

module _ {J O : Type 0} where
  pub record Fitting (R head : ℕ) (hs : List Helper) (cells : List (Cell J O)) : Type 0 where
    pub within : R ≤ head
    pub taken : (i : ℕ) → i < R → TakenAt cells i
    pub free : (i : ℕ) → R ≤ i → i < head → FreeAt cells i
    pub holds : (k p : ℕ) → Holds hs k p → (p < R) × (HeldAt k cells p)
    pub held : (k i : ℕ) → i < head → HeldAt k cells i → Holds hs k i

  -- a pop that shrinks keeps the job of the top cell
  pub record TopJob (cells : List (Cell J O)) (head : ℕ) (job : J) : Type 0 where
    pub cell : Cell J O
    pub there : at_number cells head ≡ Some cell
    pub is : cell.job ≡ job

  abbrev pub JobFits : ℕ → List (Cell J O) → Phase J O → Type 0
  JobFits head cells (Shrinking step job) = TopJob cells head job
  JobFits head cells p = Unit {0}

  -- a change of cells that keeps their jobs
  pub job_stays : (head : ℕ) (cells : List (Cell J O)) (i : ℕ) (f : Cell J O → Cell J O) → ((c : Cell J O) → (f c).job ≡ c.job) → (p : Phase J O) → JobFits head cells p → JobFits head (changed cells i f) p
  job_stays head cells i f same (Shrinking step job) fits =
      let some = number_positive cells head fits.cell fits.there in
      let here = numbered cells head fits.cell fits.there in
      let found = number_of (changed cells i f) head some in
      same_or_apart i (head - 1)
      (λ is. record {
        cell = f fits.cell;
        there = found ∙ rw is (changed_here cells (head - 1) f fits.cell here);
        is = same fits.cell ∙ fits.is;
      })
      (λ apart. record { cell = fits.cell; there = found ∙ (changed_elsewhere cells i (head - 1) f apart ∙ here); is = fits.is })
  job_stays head cells i f same p fits = tt

  module _ (R head : ℕ) (hs : List Helper) (cells : List (Cell J O)) (fit : Fitting R head hs cells) where
    -- a free cell joins at the top
    pub fit_push : (c : Cell J O) → c.taker ≡ None → c.outcome ≡ None → head < length cells → Fitting R (head + 1) hs (changed cells head (λ _. c))
    fit_push c untaken unfinished room =
        let top = there_below cells head room in
        record {
          within = omega (arith, fit.within);
          taken = λ i less. taken_stays (changed_elsewhere cells head i (λ _. c) (λ is. omega (arith, fit.within))) (fit.taken i less);
          free = λ i low less.
              changed_ways cells head i (λ _. c) top.item top.there
              (λ is there. record { cell = c; there = there; untaken = untaken; unfinished = unfinished })
              (λ apart there. free_stays there (fit.free i low (omega (arith, apart))));
          holds = λ k p h.
              let (low, old) = fit.holds k p h in
              (omega arith, held_stays (changed_elsewhere cells head p (λ _. c) (λ is. omega (arith, fit.within))) old);
          held = λ k i less h.
              changed_ways cells head i (λ _. c) top.item top.there (λ is there. cc) (λ apart there. fit.held k i (omega (arith, apart)) (held_stays (sym there) h));
        }

    -- head falls over free cells
    pub fit_lower : (lower : ℕ) → R ≤ lower → lower ≤ head → Fitting R lower hs cells
    fit_lower lower low high = record {
      within = low;
      taken = fit.taken;
      free = λ i from less. fit.free i from (omega arith);
      holds = fit.holds;
      held = λ k i less h. fit.held k i (omega arith) h;
    }

    -- the top cell, taken and finished, is given up
    pub fit_retire : (c : Cell J O) (outcome : O) → R ≡ head → at_number cells head ≡ Some c → c.outcome ≡ Some outcome → Fitting (R - 1) (head - 1) hs cells
    fit_retire c outcome all is finished =
        let some = number_positive cells head c is in
        let here = numbered cells head c is in
        record {
          within = omega arith;
          taken = λ i less. fit.taken i (omega arith);
          free = λ i from less. absurd (omega arith);
          holds = λ k p h.
              let old = fit.holds k p h in
              same_or_apart p (head - 1)
              (λ top.
              let there : at cells p ≡ Some c = rw top here in
              cc (old.1.there, old.1.unfinished))
              (λ apart. (omega (arith, old.0, apart), old.1));
          held = λ k i less h. fit.held k i (omega arith) h;
        }

    module _ (k : ℕ) (h : Helper) (is : at_number hs k ≡ Some h) where
      abbrev aimed : Aim → List Helper
      aimed a = changed hs (k - 1) (λ _. record { aim = a })

      aimed_here : (a : Aim) → at_number (aimed a) k ≡ Some (record { aim = a })
      aimed_here a = number_here hs k (λ _. record { aim = a }) h is

      -- another helper's aim stays
      others : (a : Aim) (j : ℕ) → (k ≡ j → ⊥) → at_number (aimed a) j ≡ at_number hs j
      others a j apart = number_elsewhere hs k j (λ _. record { aim = a }) (number_positive hs k h is) apart

      others_hold : (a : Aim) (j p : ℕ) → (k ≡ j → ⊥) → Holds hs j p → Holds (aimed a) j p
      others_hold a j p apart holds = record { helper = holds.helper; there = others a j apart ∙ holds.there; aim = holds.aim }

      still_hold : (a : Aim) (j p : ℕ) → HoldsNothing h.aim → Holds hs j p → Holds (aimed a) j p
      still_hold a j p none holds = others_hold a j p (λ same. aims_elsewhere hs k p h is none (rw same holds)) holds

      -- the helper's own aim is the new one
      aims_ways : {P : Type 0} (a : Aim) (j p : ℕ) → Holds (aimed a) j p → (k ≡ j → a ≡ Hold p → P) → ((k ≡ j → ⊥) → Holds hs j p → P) → P
      aims_ways a j p holds own other =
          same_or_apart k j
          (λ same.
          let here : at_number (aimed a) j ≡ Some (record { aim = a }) = rw (← same) (aimed_here a) in
          let one : Some (record { aim = a }) ≡ Some holds.helper = sym here ∙ holds.there in
          own same cc)
          (λ apart. other apart (record { helper = holds.helper; there = sym (others a j apart) ∙ holds.there; aim = holds.aim }))

      -- a helper that holds nothing looks on
      pub fit_aims : (a : Aim) → HoldsNothing h.aim → HoldsNothing a → Fitting R head (aimed a) cells
      fit_aims a before after = record {
        within = fit.within;
        taken = fit.taken;
        free = fit.free;
        holds = λ j p held. aims_ways a j p held (λ same own. absurd (after p own)) (λ apart past. fit.holds j p past);
        held = λ j i less held. still_hold a j i before (fit.held j i less held);
      }

      -- a helper that held nothing takes position R
      pub fit_takes : R < head → HoldsNothing h.aim → Fitting (R + 1) head (aimed (Hold R)) (changed cells R (marked k))
      fit_takes some before =
          let old = fit.free R (omega arith) some in
          let elsewhere = λ (i : ℕ) (apart : R ≡ i → ⊥). changed_elsewhere cells R i (marked k) apart in
          record {
            within = omega arith;
            taken = λ i less.
                changed_ways cells R i (marked k) old.cell old.there (λ same there. record { cell = marked k old.cell; there = there; taken = refl })
                (λ apart there. taken_stays there (fit.taken i (omega (arith, apart))));
            free = λ i from less. free_stays (elsewhere i (λ same. omega arith)) (fit.free i (omega arith) less);
            holds = λ j p held.
                aims_ways (Hold R) j p held
                (λ same own.
                let place : R ≡ p = cc in (
                  omega arith,
                  record {
                    cell = marked k old.cell;
                    there = rw (← place) (changed_here cells R (marked k) old.cell old.there);
                    taker = ap Some same;
                    unfinished = old.unfinished;
                  },
                ))
                (λ apart past. let (low, was) = fit.holds j p past in (omega arith, held_stays (elsewhere p (λ same. omega arith)) was));
            held = λ j i less held.
                changed_ways cells R i (marked k) old.cell old.there
                (λ same there.
                let number : Some k ≡ Some j = cc (held.there, held.taker) in
                let who : k ≡ j = cc in
                record { helper = record { aim = Hold R }; there = rw (← who) (aimed_here (Hold R)); aim = ap Hold same })
                (λ apart there. still_hold (Hold R) j i before (fit.held j i less (held_stays (sym there) held)));
          }

      -- a helper finishes what it held
      pub fit_finish : (p : ℕ) (outcome : O) → h.aim ≡ Hold p → Fitting R head (aimed ReadFlag) (changed cells p (with_outcome outcome))
      fit_finish p outcome aim =
          let mine : Holds hs k p = record { helper = h; there = is; aim = aim } in
          let (low, old) = fit.holds k p mine in
          record {
            within = fit.within;
            taken = λ i less.
                changed_ways cells p i (with_outcome outcome) old.cell old.there
                (λ same there. record { cell = with_outcome outcome old.cell; there = there; taken = ap is_some old.taker })
                (λ apart there. taken_stays there (fit.taken i less));
            free = λ i from less. free_stays (changed_elsewhere cells p i (with_outcome outcome) (λ same. omega arith)) (fit.free i from less);
            holds = λ j q held.
                aims_ways ReadFlag j q held (λ same own. cc)
                (λ apart past.
                let (below, was) = fit.holds j q past in
                changed_ways cells p q (with_outcome outcome) old.cell old.there
                (λ same there.
                let number : Some k ≡ Some j = cc (old.taker, old.there, was.there, was.taker) in
                absurd (apart cc))
                (λ other there. (below, held_stays there was)));
            held = λ j i less held.
                changed_ways cells p i (with_outcome outcome) old.cell old.there
                (λ same there. cc (held.there, held.unfinished))
                (λ apart there.
                let past = fit.held j i less (held_stays (sym there) held) in
                others_hold ReadFlag j i (λ same. apart (aims_at_one hs k p i mine (rw same past))) past);
          }

      -- what the plain board finds of the helper
      in_board : (i : ℕ) → HeldAt k (take head cells) i → Holds hs k i
      in_board i found = let low = take_below head cells i found.cell found.there in fit.held k i low (held_stays (sym (take_at head cells i low)) found)

      pub plain_holds_none : HoldsNothing h.aim → place_held k (take head cells) ≡ None
      plain_holds_none none = held_by_none k (take head cells) (λ i found. aims_elsewhere hs k i h is none (in_board i found))

      pub plain_holds : (p : ℕ) → h.aim ≡ Hold p → place_held k (take head cells) ≡ Some p
      plain_holds p aim =
          let mine : Holds hs k p = record { helper = h; there = is; aim = aim } in
          let (low, held) = fit.holds k p mine in
          held_by_at k p (take head cells) (λ i found. aims_at_one hs k i p (in_board i found) mine) (held_stays (take_at head cells p (omega (arith, fit.within))) held)

  -- the cells and the helpers of a board where so many positions are stolen
  pub record CellsFit (R : ℕ) (s : State J O) : Type 0 where
    pub fit : Fitting R s.owner.head s.helpers s.cells
    pub job : JobFits s.owner.head s.cells s.owner.phase

all_look : (n i : ℕ) (h : Helper) → at (replicate n (record { aim = ReadFlag })) i ≡ Some h → h.aim ≡ ReadFlag
all_look (suc n) (suc i) h is = all_look n i h is
all_look n i h is = cc

none_holds : (n k p : ℕ) → Holds (replicate n (record { aim = ReadFlag })) k p → ⊥
none_holds n k p holds =
    let looks = all_look n (k - 1) holds.helper (numbered (replicate n (record { aim = ReadFlag })) k holds.helper holds.there) in
    cc

pub cells_new : {J O : Type 0} (s : State J O) → New s → CellsFit 0 s
cells_new s new =
    rw new.made (record {
      fit = record {
        within = omega arith;
        taken = λ i less. absurd (omega arith);
        free = λ i from less. absurd (omega arith);
        holds = λ k p holds. absurd (none_holds (length s.helpers) k p holds);
        held = λ k i less held. absurd (omega arith);
      };
      job = tt;
    })
