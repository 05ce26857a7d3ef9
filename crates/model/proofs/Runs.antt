-- The law over runs: what a board keeps, call by call, from its making on. Assumes nothing.
use Rattle.std.proofs.Common.{◌≡◌, ℕ, List, [], ◌∷◌, ◌++◌, length, sym, ap, subst, append_assoc, append-nil}
use Rattle.model.specs.Calls.{effect_of, Entry, Makes}
use Rattle.model.specs.Histories.{New, Runs, JobsAddUp, NumbersInRange}
use Rattle.model.specs.Keeping.{Sound}
use Rattle.model.specs.Orders.{Place, OneOrderOf}
use Rattle.model.specs.State.{State, state_after}
use Rattle.model.proofs.Cells.{CellsFit, cells_new}
use Rattle.model.proofs.Events.{stage, Allowed}
use Rattle.model.proofs.Keeping.{numbers_keep}
use Rattle.model.proofs.Ordering.{Kept, kept_new, kept_more, kept_orders}
use Rattle.model.proofs.Safe.{Safe, next_stolen}
use Rattle.model.proofs.Simulated.{plain_of, simulated, cells_keep}
use Rattle.model.proofs.Stays.{call_goes, start_sound, start_safe}
use Rattle.model.proofs.Sums.{Summed, summed_next, adds_up}

module _ {J O : Type 0} where
  -- all that a run keeps: so many positions are stolen, cells, memory and phase fit that, the jobs add up, and the order so far
  -- leads the plain board to what the board holds
  pub record Stands (size : ℕ) (h : List (Entry J O)) (s : State J O) (order : List (Place J O)) : Type 0 where
    pub stolen : ℕ
    pub sound : Sound s.owner
    pub safe : Safe stolen s
    pub cells : CellsFit stolen s
    pub summed : Summed h s stolen
    pub kept : Kept size h (stage s.owner.phase) (plain_of s) order

  start_stands : (s : State J O) → New s → Stands s.owner.size [] s []
  start_stands s new = record {
    stolen = 0;
    sound = start_sound s new;
    safe = start_safe s new;
    cells = cells_new s new;
    summed = rw new.made;
    kept = rw new.made (kept_new s.owner.size);
  }

  made_stands : (size : ℕ) (h : List (Entry J O)) (s s' : State J O) (order : List (Place J O)) (e : Entry J O) → Stands size h s order → Makes s e s' → (more : List (Place J O)) × Stands size (e ∷ h) s' (more ++ order)
  made_stands size h s s' order e stands makes =
      let effect = effect_of s e.handed e.call in
      let n = e.reply.landed in
      let R = stands.stolen in
      let goes = call_goes s R stands.sound stands.safe e.handed n e.call makes.lands in
      let answer : e.reply.answer ≡ effect.answer = ap (λ r. r.answer) makes.replies in
      let (ev, allowed, happens) = simulated s R e.handed n e.call stands.sound stands.safe stands.cells makes.lands in
      let told = subst (λ a. Allowed e.call a (stage s.owner.phase) (stage effect.owner.phase) ev) (sym answer) allowed in
      let (more, kept) = kept_more size h _ _ _ _ order e ev stands.kept told happens in
      let next : Stands size (e ∷ h) (state_after s effect n) (more ++ order) = record {
        stolen = next_stolen e.call effect.answer R;
        sound = numbers_keep J O s e.handed e.call stands.sound;
        safe = goes.safe;
        cells = cells_keep s R e.handed n e.call stands.sound stands.safe stands.cells;
        summed = summed_next s R stands.sound h e stands.safe.told answer stands.summed;
        kept = kept;
      } in
      (more, rw makes.moves next)

  -- a run goes on from where another stands, and its order begins with the other's
  runs_stand : (size : ℕ) (h : List (Entry J O)) (s s' : State J O) (order : List (Place J O)) → Stands size h s order → (h' : List (Entry J O)) → Runs s h' s' → (more : List (Place J O)) × Stands size (h' ++ h) s' (more ++ order)
  runs_stand size h s s' order stands [] runs = ([], rw runs stands)
  runs_stand size h s s' order stands (e ∷ h') (before, runs, makes) =
      let (more, then) = runs_stand size h s before order stands h' runs in
      let (one, last) = made_stands size (h' ++ h) before s' (more ++ order) e then makes in
      (one ++ more, rw append_assoc last)

  from_start : (start s : State J O) (h : List (Entry J O)) → New start → Runs start h s → (order : List (Place J O)) × Stands start.owner.size h s order
  from_start start s h new runs =
      let (order, stands) = runs_stand start.owner.size [] start s [] (start_stands start new) h runs in
      (order ++ [], rw (append-nil h) at stands)

pub one_order : (J O : Type 0) → OneOrderOf {J = J} {O = O} {S = State J O} (λ s. s.owner.size) New Runs
one_order J O start s h new runs =
    let (order, stands) = from_start start s h new runs in (
      order,
      kept_orders _ _ _ _ _ stands.kept,
      λ h' s' later. let (more, then) = runs_stand start.owner.size h s s' order stands h' later in (more, kept_orders _ _ _ _ _ then.kept),
    )

pub jobs_add_up : (J O : Type 0) → JobsAddUp J O
jobs_add_up J O start s h new runs rest =
    let (order, stands) = from_start start s h new runs in
    let fit = stands.cells.fit in
    adds_up s stands.stolen h rest fit.within fit.taken fit.free stands.summed

pub numbers_in_range : (J O : Type 0) → NumbersInRange J O
numbers_in_range J O start s h new runs = (from_start start s h new runs).1.sound.in_range

-- a board keeps as many cells as it has positions
pub cells_stay : {J O : Type 0} (start s : State J O) (h : List (Entry J O)) → New start → Runs start h s → length s.cells ≡ s.owner.size
cells_stay start s h new runs = (from_start start s h new runs).1.safe.cells
