-- Each call's event puts at most one operation into the order, and the order stays an order of the history. Assumes nothing.
use Rattle.std.proofs.Common.{◌≡◌, ℕ, suc, ◌≤◌, Bool, true, false, cond, eqb, ◌⊎◌, List, [], ◌∷◌, ◌++◌, length, Some, None, Option, sym, refl, ap, ◌∙◌, inl, inr, arith}
use borrow.Author.Tests.{eqb-false}
use Rattle.calls.specs.declared.call.Call.{Call}
use Rattle.calls.specs.declared.call.Call.TheVariants.{Push, Pop, Retire, OwnerStep, HelperStep, Finish, Land}
use Rattle.calls.specs.declared.party.Party.{Party}
use Rattle.calls.specs.declared.party.Party.TheVariants.{Owner, Helper}
use Rattle.model.proofs.Events.{Stage, resting, unplaced, placed, Event, nothing, places, PushAllowed, PopAllowed, RetireAllowed, StepAllowed, AttemptAllowed, FinishAllowed, Allowed, Happens}
use Rattle.std.proofs.lemmas.Bool.{cond_both}
use Rattle.std.proofs.lemmas.Option.{same_Some}
use Rattle.model.specs.Calls.{Entry}
use Rattle.model.specs.Orders.{Progress, going, ended, barred, progress, is_operation, attempt_goes, first_call, Begun, Operation, begins, owner_after, owner_begun, attempt_after, attempt_begun, operation, alone, step_ends, attempt_ends, ends, EndedIn, Place, Along, In, Rises, Places, UnderWay, Orders}
use Rattle.model.specs.Plain.{Plain, Deed, pushes, pops, retires, takes, finishes, new_plain, does}
use Rattle.model.specs.declared.reply.Answer.{Answer}
use Rattle.model.specs.declared.reply.Refusal.{Refusal}
use Rattle.model.specs.declared.reply.Answer.TheVariants.{Pushed, Work, Stolen, Retired, Taken, Finished, Refused}

module _ {J O : Type 0} where
  -- the order has no operation of this till with this first call
  abbrev pub Fresh : Party → ℕ → List (Place J O) → Type 0
  Fresh till first order = (q : Place J O) → In q order → q.till ≡ till → q.first ≡ first → ⊥

  -- the owner's operation under way, placed with this answer
  pub record Stands (g : Begun J O) (given : Answer J O) (p : Place J O) : Type 0 where
    pub till : p.till ≡ Owner
    pub first : p.first ≡ g.first
    pub after_first : g.first ≤ p.at
    pub deed : p.deed ≡ g.deed
    pub answer : p.answer ≡ given

  -- after so many calls, the owner's operation under way is as far as its stage says
  abbrev pub Standing : Stage J O → Option (Begun J O) → ℕ → List (Place J O) → Type 0
  Standing resting begun n order = begun ≡ None
  Standing unplaced begun n order = (f : ℕ) × (begun ≡ Some (record { first = f; deed = pops })) × (f ≤ n) × Fresh Owner f order
  Standing (placed answer) begun n order =
      (g : Begun J O) × (begun ≡ Some g) × (g.first ≤ n) × ((p : Place J O) × (In p order) × (Stands g answer p)) × ((q : Place J O) → In q order → q.till ≡ Owner → q.first ≡ g.first → q.answer ≡ answer)

  -- an attempt under way is in no order yet
  abbrev pub Attempting : (ℕ → Option ℕ) → ℕ → List (Place J O) → Type 0
  Attempting begun n order = (k f : ℕ) → begun k ≡ Some f → (f ≤ n) × Fresh (Helper k) f order

  -- the place names calls up to this one
  pub record Within (n : ℕ) (p : Place J O) : Type 0 where
    pub at_most : p.at ≤ n
    pub after_first : p.first ≤ p.at

  pub record Kept (size : ℕ) (h : List (Entry J O)) (st : Stage J O) (b : Plain J O) (order : List (Place J O)) : Type 0 where
    pub along : Along size order b
    pub rises : Rises order
    pub within : (q : Place J O) → In q order → Within (length h) q
    pub all : (op : Operation J O) → EndedIn op h → (p : Place J O) × (In p order) × (Places op p)
    pub only : (p : Place J O) → In p order → ((op : Operation J O) × (EndedIn op h) × (Places op p)) ⊎ UnderWay h p
    pub owner : Standing st (owner_begun h) (length h) order
    pub attempts : Attempting (λ k. attempt_begun k h) (length h) order

  pub kept_new : (size : ℕ) → Kept size [] resting (new_plain size) []
  kept_new size = record {
    along = refl;
    rises = tt;
    within = λ q among. absurd among;
    all = λ op ended_in. absurd ended_in;
    only = λ q among. absurd among;
    owner = refl;
    attempts = λ k f is. cc;
  }

  pub kept_orders : (size : ℕ) (h : List (Entry J O)) (st : Stage J O) (b : Plain J O) (order : List (Place J O)) → Kept size h st b order → Orders size h order
  kept_orders size h st b order kept = record { board = b; answers = kept.along; rises = kept.rises; so_far = λ p there. (kept.within p there).at_most; all = kept.all; only = kept.only }

  -- what holds of the new place and of those before holds along the longer order
  each : (P : Place J O → Type 0) (p : Place J O) (order : List (Place J O)) → P p → ((q : Place J O) → In q order → P q) → (q : Place J O) → In q (p ∷ order) → P q
  each P p order here there q (inl is) = rw is here
  each P p order here there q (inr among) = there q among

  later : (n : ℕ) (q : Place J O) → Within n q → Within (suc n) q
  later n q within = omega arith

  -- a call yet to come is no operation's first call
  new_is_fresh : (n : ℕ) (till : Party) (order : List (Place J O)) → ((q : Place J O) → In q order → Within n q) → Fresh till (suc n) order
  new_is_fresh n till order within q among same_till same_first = let w = within q among in omega (arith, w.at_most, w.after_first)

  fresh_more : (till : Party) (f : ℕ) (p : Place J O) (order : List (Place J O)) → (p.till ≡ till → p.first ≡ f → ⊥) → Fresh till f order → Fresh till f (p ∷ order)
  fresh_more till f p order here there = each (λ q. q.till ≡ till → q.first ≡ f → ⊥) p order here there

  -- the stage stays as it was at a call that leaves the owner's operation alone
  standing_later : (st : Stage J O) (begun : Option (Begun J O)) (n : ℕ) (order : List (Place J O)) → Standing st begun n order → Standing st begun (suc n) order
  standing_later resting begun n order stands = stands
  standing_later unplaced begun n order stands = let (f, is, early, fresh) = stands in (f, is, omega arith, fresh)
  standing_later (placed answer) begun n order stands = let (g, is, early, there, same) = stands in (g, is, omega arith, there, same)

  -- and also where a new place is another operation's
  standing_more : (st : Stage J O) (begun : Option (Begun J O)) (n : ℕ) (p : Place J O) (order : List (Place J O)) → (p.till ≡ Owner → p.first ≡ suc n) → Standing st begun n order → Standing st begun (suc n) (p ∷ order)
  standing_more resting begun n p order other stands = stands
  standing_more unplaced begun n p order other stands =
      let (f, is, early, fresh) = stands in
      (f, is, omega arith, fresh_more Owner f p order (λ till first. omega (arith, other till)) fresh)
  standing_more (placed answer) begun n p order other stands =
      let (g, is, early, there, same) = stands in
      let (q, among, stood) = there in
      (g, is, omega arith, (q, inr among, stood), each (λ q. q.till ≡ Owner → q.first ≡ g.first → q.answer ≡ answer) p order (λ till first. absurd (omega (arith, other till))) same)

  attempting_more : (begun : ℕ → Option ℕ) (n : ℕ) (p : Place J O) (order : List (Place J O)) → ((k : ℕ) → p.till ≡ Helper k → p.first ≡ suc n) → Attempting begun n order → Attempting begun (suc n) (p ∷ order)
  attempting_more begun n p order other attempts k f is =
      let (early, fresh) = attempts k f is in
      (omega arith, fresh_more (Helper k) f p order (λ till first. omega (arith, other k till)) fresh)

-- one more call
module _ {J O : Type 0} (size : ℕ) (h : List (Entry J O)) (st : Stage J O) (b : Plain J O) (order : List (Place J O)) (kept : Kept size h st b order) (e : Entry J O) where
  abbrev n : ℕ
  n = suc (length h)

  abbrev a : Answer J O
  a = e.reply.answer

  -- the operation that the call ends
  abbrev ending : Option (Operation J O)
  ending = ends n e.call a h

  -- it stands in the order
  abbrev Found : List (Place J O) → Type 0
  Found order' = (op : Operation J O) → ending ≡ Some op → (p : Place J O) × (In p order') × (Places op p)

  -- the place is that operation's, or that of the owner's operation under way
  abbrev Held : Place J O → Type 0
  Held p = ((op : Operation J O) × (ending ≡ Some op) × (Places op p)) ⊎ UnderWay (e ∷ h) p

  abbrev GoesOn : Type 0
  GoesOn = (p : Place J O) → In p order → UnderWay h p → Held p

  abbrev Next : Stage J O → Plain J O → Type 0
  Next st' b' = (more : List (Place J O)) × Kept size (e ∷ h) st' b' (more ++ order)

  abbrev SameOwner : Type 0
  SameOwner = owner_begun (e ∷ h) ≡ owner_begun h

  abbrev SameAttempts : Type 0
  SameAttempts = (k : ℕ) → attempt_begun k (e ∷ h) ≡ attempt_begun k h

  abbrev Meant : Place J O → Type 0
  Meant p = ((op : Operation J O) × (EndedIn op (e ∷ h)) × (Places op p)) ⊎ UnderWay (e ∷ h) p

  held_is_meant : (p : Place J O) → Held p → Meant p
  held_is_meant p (inl its) = let (op, is, at) = its in inl (op, inl is, at)
  held_is_meant p (inr goes) = inr goes

  meant_before : (p : Place J O) → (UnderWay h p → Held p) → ((op : Operation J O) × (EndedIn op h) × (Places op p)) ⊎ UnderWay h p → Meant p
  meant_before p held (inl its) = let (op, is, at) = its in inl (op, inr is, at)
  meant_before p held (inr goes) = held_is_meant p (held goes)

  all_found : (order' : List (Place J O)) → Found order' → ((p : Place J O) → In p order → In p order') → (op : Operation J O) → EndedIn op (e ∷ h) → (p : Place J O) × (In p order') × (Places op p)
  all_found order' found wider op (inl is) = found op is
  all_found order' found wider op (inr before) = let (p, among, its) = kept.all op before in (p, wider p among, its)

  -- a call that places nothing
  quiet : (st' : Stage J O) (b' : Plain J O) → b' ≡ b → Standing st' (owner_begun (e ∷ h)) n order → Attempting (λ k. attempt_begun k (e ∷ h)) n order → Found order → GoesOn → Next st' b'
  quiet st' b' same stands attempts found on = (
    [],
    record {
      along = rw same kept.along;
      rises = kept.rises;
      within = λ q among. later (length h) q (kept.within q among);
      all = all_found order found (λ p among. among);
      only = λ p among. meant_before p (on p among) (kept.only p among);
      owner = stands;
      attempts = attempts;
    },
  )

  -- a call that places an operation
  adds : (st' : Stage J O) (b' : Plain J O) (p : Place J O) → p.at ≡ n → p.first ≤ n → Fresh p.till p.first order → does b p.deed ≡ Some (record { answer = p.answer; board = b' }) → Standing st' (owner_begun (e ∷ h)) n (p ∷ order) → Attempting (λ k. attempt_begun k (e ∷ h)) n (p ∷ order) → Found (p ∷ order) → Held p → GoesOn → Next st' b'
  adds st' b' p now early fresh answers stands attempts found held on = (
    p ∷ [],
    record {
      along = (b, kept.along, answers);
      rises = (λ q among. omega (arith, (kept.within q among).at_most), (fresh, kept.rises));
      within = each (Within n) p order (omega arith) (λ q among. later (length h) q (kept.within q among));
      all = all_found (p ∷ order) found (λ q among. inr among);
      only = each Meant p order (held_is_meant p held) (λ q among. meant_before q (on q among) (kept.only q among));
      owner = stands;
      attempts = attempts;
    },
  )

  new_fresh : (till : Party) → Fresh till n order
  new_fresh till = new_is_fresh (length h) till order kept.within

  -- the call ends the operation of this place
  found_here : (p : Place J O) (op : Operation J O) → ending ≡ Some op → Places op p → Found (p ∷ order)
  found_here p op is its op' is' = let same : op ≡ op' = cc in (p, inl refl, rw same at its)

  goes_on_same : SameOwner → GoesOn
  goes_on_same same p among goes = inr (record { till = goes.till; begun = same ∙ goes.begun; after_first = goes.after_first })

  attempting_same : (p : Place J O) → SameAttempts → ((k : ℕ) → p.till ≡ Helper k → p.first ≡ n) → Attempting (λ k. attempt_begun k (e ∷ h)) n (p ∷ order)
  attempting_same p same other k f is = attempting_more (λ k. attempt_begun k h) (length h) p order other kept.attempts k f (sym (same k) ∙ is)

  -- an attempt under way was so before the call or begins with it
  abbrev AttemptsGo : Type 0
  AttemptsGo = (k f : ℕ) → attempt_begun k (e ∷ h) ≡ Some f → (attempt_begun k h ≡ Some f) ⊎ (f ≡ n)

  attempt_goes_on : (k f : ℕ) → (attempt_begun k h ≡ Some f) ⊎ (f ≡ n) → (f ≤ n) × Fresh (Helper k) f order
  attempt_goes_on k f (inl was) = let (early, fresh) = kept.attempts k f was in (omega arith, fresh)
  attempt_goes_on k f (inr is) = (omega arith, rw is (new_fresh (Helper k)))

  same_attempts_go : SameAttempts → AttemptsGo
  same_attempts_go same k f is = inl (sym (same k) ∙ is)

  abbrev Stood : Stage J O → Type 0
  Stood s = Standing s (owner_begun h) (length h) order

  -- the owner's operation stays as it was, and the call is no operation
  unchanged : (st' : Stage J O) (b' : Plain J O) → SameOwner → AttemptsGo → ending ≡ None → st' ≡ st → b' ≡ b → Next st' b'
  unchanged st' b' same attempts none stage same_board =
      rw stage
      (quiet st b' same_board
      (rw same (standing_later st (owner_begun h) (length h) order kept.owner))
      (λ k f is. attempt_goes_on k f (attempts k f is))
      (λ op is. cc)
      (goes_on_same same))

  -- and the call is an operation by itself
  by_itself : (till : Party) (deed : Deed J O) (st' : Stage J O) (b' : Plain J O) → SameOwner → SameAttempts → ending ≡ operation till n n deed a → st' ≡ st → does b deed ≡ Some (record { answer = a; board = b' }) → Next st' b'
  by_itself till deed st' b' same attempts is stage answers =
      let p : Place J O = record { till = till; first = n; at = n; deed = deed; answer = a } in
      let op : Operation J O = record { till = till; first = n; last = n; deed = deed; answer = a } in
      let its : Places op p = search arith in
      rw stage
      (adds st b' p refl (omega arith) (new_fresh till) answers
      (rw same (standing_more st (owner_begun h) (length h) p order (λ _. refl) kept.owner))
      (attempting_same p attempts (λ k _. refl))
      (found_here p op is its)
      (inl (op, is, its))
      (goes_on_same same))

  -- a refused call, with a test whether it is an operation
  refused : (till : Party) (deed : Deed J O) (test : Bool) (st' : Stage J O) (b' : Plain J O) (ev : Event J O) → SameOwner → SameAttempts → ending ≡ cond test (operation till n n deed a) None → st' ≡ st → ev ≡ cond test (places deed a) nothing → Happens b ev b' → Next st' b'
  refused till deed true st' b' ev same attempts is stage event happens =
      by_itself till deed st' b' same attempts is stage (rw event at happens)
  refused till deed false st' b' ev same attempts is stage event happens =
      unchanged st' b' same (same_attempts_go attempts) is stage (rw event at happens)

  -- an owner's operation begins, and stands at its first call
  begins_placed : (deed : Deed J O) (answer : Answer J O) (b' : Plain J O) → owner_begun h ≡ None → owner_begun (e ∷ h) ≡ Some (record { first = n; deed = deed }) → SameAttempts → ending ≡ None → does b deed ≡ Some (record { answer = answer; board = b' }) → Next (placed answer) b'
  begins_placed deed answer b' rest begun attempts none answers =
      let p : Place J O = record { till = Owner; first = n; at = n; deed = deed; answer = answer } in
      adds (placed answer) b' p refl (omega arith) (new_fresh Owner) answers (
        record { first = n; deed = deed },
        begun,
        omega arith,
        (p, inl refl, search arith),
        each (λ q. q.till ≡ Owner → q.first ≡ n → q.answer ≡ answer) p order (λ _ _. refl) (λ q among till first. absurd (new_fresh Owner q among till first)),
      )
      (attempting_same p attempts (λ k _. refl))
      (λ op is. cc)
      (inr (search arith))
      (λ p among goes. cc)

  -- a pop begins, and stands nowhere yet
  begins_unplaced : (b' : Plain J O) → owner_begun h ≡ None → owner_begun (e ∷ h) ≡ Some (record { first = n; deed = pops }) → SameAttempts → ending ≡ None → b' ≡ b → Next unplaced b'
  begins_unplaced b' rest begun attempts none same_board =
      quiet unplaced b' same_board (n, begun, omega arith, new_fresh Owner) (λ k f is. attempt_goes_on k f (same_attempts_go attempts k f is)) (λ op is. cc) (λ p among goes. cc)

  -- a pop under way is placed at this call, and goes on
  step_places : (answer : Answer J O) (b' : Plain J O) → Stood unplaced → SameOwner → SameAttempts → ending ≡ None → does b pops ≡ Some (record { answer = answer; board = b' }) → Next (placed answer) b'
  step_places answer b' stands same attempts none answers =
      let (f, is, early, fresh) = stands in
      let p : Place J O = record { till = Owner; first = f; at = n; deed = pops; answer = answer } in
      adds (placed answer) b' p refl (omega arith) fresh answers (
        record { first = f; deed = pops },
        same ∙ is,
        omega arith,
        (p, inl refl, search arith),
        each (λ q. q.till ≡ Owner → q.first ≡ f → q.answer ≡ answer) p order (λ _ _. refl) (λ q among till first. absurd (fresh q among till first)),
      )
      (attempting_same p attempts (λ k till. cc))
      (λ op is. cc)
      (inr (record { till = refl; begun = same ∙ is; after_first = omega arith }))
      (goes_on_same same)

  abbrev EndsBegun : Type 0
  EndsBegun = (g : Begun J O) → owner_begun h ≡ Some g → ending ≡ operation Owner g.first n g.deed a

  -- or ends there
  step_places_last : (b' : Plain J O) → Stood unplaced → owner_begun (e ∷ h) ≡ None → SameAttempts → EndsBegun → does b pops ≡ Some (record { answer = a; board = b' }) → Next resting b'
  step_places_last b' stands none attempts ends_begun answers =
      let (f, is, early, fresh) = stands in
      let p : Place J O = record { till = Owner; first = f; at = n; deed = pops; answer = a } in
      let op : Operation J O = record { till = Owner; first = f; last = n; deed = pops; answer = a } in
      let its : Places op p = search arith in
      let it_ends = ends_begun (record { first = f; deed = pops }) is in
      adds resting b' p refl (omega arith) fresh answers none
      (attempting_same p attempts (λ k till. cc))
      (found_here p op it_ends its)
      (inl (op, it_ends, its))
      (λ q among goes. let first : q.first ≡ f = ap (λ (g : Begun J O). g.first) (same_Some _ _ (sym goes.begun ∙ is)) in absurd (fresh q among goes.till first))

  -- the owner's operation stands already, and ends with the answer it stands with
  step_ends_placed : (b' : Plain J O) → Stood (placed a) → owner_begun (e ∷ h) ≡ None → SameAttempts → EndsBegun → b' ≡ b → Next resting b'
  step_ends_placed b' stands none attempts ends_begun same_board =
      let (g, is, early, there, same) = stands in
      let (p, among, stood) = there in
      let op : Operation J O = record { till = Owner; first = g.first; last = n; deed = g.deed; answer = a } in
      let it_ends = ends_begun g is in
      quiet resting b' same_board none (λ k f is. attempt_goes_on k f (same_attempts_go attempts k f is))
      (λ op' is'.
      let equal : op ≡ op' = cc (it_ends, is') in
      let its : Places op p = search (arith, kept.within p among) in
      (p, among, rw equal at its))
      (λ q q_among goes.
      let begun : record { first = q.first; deed = q.deed } ≡ g = cc goes.begun in
      let first : q.first ≡ g.first = ap (λ (x : Begun J O). x.first) begun in
      let deed : q.deed ≡ g.deed = ap (λ (x : Begun J O). x.deed) begun in
      let given : q.answer ≡ a = same q q_among goes.till first in
      inl (op, it_ends, search (arith, kept.within q q_among)))

  -- an attempt ends in TAKEN, and is placed there
  first_is_fresh : (k : ℕ) (o : Option ℕ) → attempt_begun k h ≡ o → (first_call n o ≤ n) × Fresh (Helper k) (first_call n o) order
  first_is_fresh k None is = (omega arith, new_fresh (Helper k))
  first_is_fresh k (Some f) is = let (early, fresh) = kept.attempts k f is in (omega arith, fresh)

  takes_placed : (k : ℕ) (b' : Plain J O) → SameOwner → ((j : ℕ) → attempt_begun j (e ∷ h) ≡ cond (eqb k j) None (attempt_begun j h)) → ending ≡ operation (Helper k) (first_call n (attempt_begun k h)) n (takes k) a → does b (takes k) ≡ Some (record { answer = a; board = b' }) → Next st b'
  takes_placed k b' same attempts is answers =
      let f : ℕ = first_call n (attempt_begun k h) in
      let (early, fresh) = first_is_fresh k (attempt_begun k h) refl in
      let p : Place J O = record { till = Helper k; first = f; at = n; deed = takes k; answer = a } in
      let op : Operation J O = record { till = Helper k; first = f; last = n; deed = takes k; answer = a } in
      let its : Places op p = search arith in
      adds st b' p refl early fresh answers
      (rw same (standing_more st (owner_begun h) (length h) p order (λ till. cc) kept.owner))
      (λ j f' begun.
      cond_both _ _ _ (λ (o : Option ℕ). o ≡ Some f' → (f' ≤ n) × Fresh (Helper j) f' (p ∷ order))
      (λ _ none. cc)
      (λ apart was.
      let (before, not_there) = kept.attempts j f' was in
      (omega arith, fresh_more (Helper j) f' p order (λ till _. let equal : k ≡ j = cc in eqb-false k j apart equal) not_there))
      (sym (attempts j) ∙ begun))
      (found_here p op is its)
      (inl (op, is, its))
      (goes_on_same same)

  module _ (st' : Stage J O) (b' : Plain J O) (ev : Event J O) (happens : Happens b ev b') where
    abbrev Then : Type 0
    Then = Next st' b'

    -- the owner's call begins this operation, or is one by itself
    record Starts (deed : Deed J O) (p : Progress) : Type 0 where
      owner : owner_begun (e ∷ h) ≡ begins p n deed (owner_begun h)
      attempts : SameAttempts
      last : ending ≡ alone Owner n deed a p

    -- what follows from the call and from how it went
    module _ (c : Call J O) (asks : e.call ≡ c) where
      owner_is : (p : Progress) → progress a ≡ p → owner_begun (e ∷ h) ≡ owner_after n c p (owner_begun h)
      owner_is p is = λ i. owner_after n (asks i) (is i) (owner_begun h)

      attempt_is : (k : ℕ) (p : Progress) → progress a ≡ p → attempt_begun k (e ∷ h) ≡ attempt_after k n c p (attempt_begun k h)
      attempt_is k p is = λ i. attempt_after k n (asks i) (is i) (attempt_begun k h)

      ending_is : ending ≡ ends n c a h
      ending_is = λ i. ends n (asks i) a h

      starts : (deed : Deed J O) → owner_after n c (progress a) (owner_begun h) ≡ begins (progress a) n deed (owner_begun h) → ((k : ℕ) → attempt_after k n c (progress a) (attempt_begun k h) ≡ attempt_begun k h) → ends n c a h ≡ alone Owner n deed a (progress a) → Starts deed (progress a)
      starts deed owner attempts last = record {
        owner = owner_is (progress a) refl ∙ owner;
        attempts = λ k. attempt_is k (progress a) refl ∙ attempts k;
        last = ending_is ∙ last;
      }

    -- it stands at its first call
    starts_placed : (deed : Deed J O) (answer : Answer J O) → Starts deed going → st ≡ resting → st' ≡ placed answer → ev ≡ places deed answer → Then
    starts_placed deed answer s rest stage event_is = rw stage (begins_placed deed answer b' (rw rest at kept.owner) s.owner s.attempts s.last (rw event_is at happens))

    -- or ends at once
    starts_ended : (deed : Deed J O) → Starts deed ended → st ≡ resting → st' ≡ resting → ev ≡ places deed a → Then
    starts_ended deed s rest stage event_is = by_itself Owner deed st' b' (s.owner ∙ sym (rw rest at kept.owner)) s.attempts s.last (stage ∙ sym rest) (rw event_is at happens)

    starts_refused : (deed : Deed J O) (r : Refusal) → Starts deed (barred r) → st' ≡ st → ev ≡ cond (is_operation r) (places deed a) nothing → Then
    starts_refused deed r s stage event_is = refused Owner deed (is_operation r) st' b' ev s.owner s.attempts s.last stage event_is happens

    push_kept : (job : J) (p : Progress) → Starts (pushes job) p → PushAllowed job a p st st' ev → Then
    push_kept job going s allowed = let (rest, stage, event_is) = allowed in starts_placed (pushes job) Pushed s rest stage event_is
    push_kept job ended s allowed = absurd allowed
    push_kept job (barred r) s allowed = let (stage, event_is) = allowed in starts_refused (pushes job) r s stage event_is

    pop_begins : Starts pops going → st ≡ resting → ((st' ≡ unplaced) × (ev ≡ nothing)) ⊎ ((job : J) × (st' ≡ placed (Work job)) × (ev ≡ places pops (Work job))) → Then
    pop_begins s rest (inl way) =
        let (stage, event_is) = way in
        rw stage (begins_unplaced b' (rw rest at kept.owner) s.owner s.attempts s.last (rw event_is at happens))
    pop_begins s rest (inr way) = let (job, stage, event_is) = way in starts_placed pops (Work job) s rest stage event_is

    pop_kept : (p : Progress) → Starts pops p → PopAllowed a p st st' ev → Then
    pop_kept going s allowed = let (rest, way) = allowed in pop_begins s rest way
    pop_kept ended s allowed = let (rest, stage, event_is) = allowed in starts_ended pops s rest stage event_is
    pop_kept (barred r) s allowed = let (stage, event_is) = allowed in starts_refused pops r s stage event_is

    retire_kept : (p : Progress) → Starts retires p → RetireAllowed a p st st' ev → Then
    retire_kept going s allowed = let (outcome, rest, stage, event_is) = allowed in starts_placed retires (Retired outcome) s rest stage event_is
    retire_kept ended s allowed = let (rest, stage, event_is) = allowed in starts_ended retires s rest stage event_is
    retire_kept (barred r) s allowed = let (stage, event_is) = allowed in starts_refused retires r s stage event_is

    module _ (asks : e.call ≡ OwnerStep) where
      step_ending : (p : Progress) → progress a ≡ p → ending ≡ step_ends n a p (owner_begun h)
      step_ending p is = ending_is OwnerStep asks ∙ ap (λ (q : Progress). step_ends n a q (owner_begun h)) is

      step_attempts : (p : Progress) → progress a ≡ p → SameAttempts
      step_attempts p is = λ k. attempt_is OwnerStep asks k p is

      step_goes : progress a ≡ going → ((st ≡ resting → ⊥) × (st' ≡ st) × (ev ≡ nothing)) ⊎ ((job : J) × (st ≡ unplaced) × (st' ≡ placed (Work job)) × (ev ≡ places pops (Work job))) → Then
      step_goes is (inl way) =
          let (some, stage, event_is) = way in
          unchanged st' b' (owner_is OwnerStep asks going is) (same_attempts_go (step_attempts going is)) (step_ending going is) stage (rw event_is at happens)
      step_goes is (inr way) =
          let (job, was, stage, event_is) = way in
          rw stage
          (step_places (Work job) b' (rw was at kept.owner) (owner_is OwnerStep asks going is) (step_attempts going is) (step_ending going is) (rw event_is at happens))

      ends_begun : progress a ≡ ended → EndsBegun
      ends_begun is g begun = step_ending ended is ∙ ap (step_ends n a ended) begun

      step_last : progress a ≡ ended → ((st ≡ placed a) × (st' ≡ resting) × (ev ≡ nothing)) ⊎ ((st ≡ unplaced) × (st' ≡ resting) × (ev ≡ places pops a)) → Then
      step_last is (inl way) =
          let (was, stage, event_is) = way in
          rw stage
          (step_ends_placed b' (rw was at kept.owner) (owner_is OwnerStep asks ended is) (step_attempts ended is) (ends_begun is) (rw event_is at happens))
      step_last is (inr way) =
          let (was, stage, event_is) = way in
          rw stage
          (step_places_last b' (rw was at kept.owner) (owner_is OwnerStep asks ended is) (step_attempts ended is) (ends_begun is) (rw event_is at happens))

      step_kept : (p : Progress) → progress a ≡ p → StepAllowed a p st st' ev → Then
      step_kept going is allowed = step_goes is allowed
      step_kept ended is allowed = step_last is allowed
      step_kept (barred r) is allowed =
          let (stage, event_is) = allowed in
          unchanged st' b' (owner_is OwnerStep asks (barred r) is) (same_attempts_go (step_attempts (barred r) is)) (step_ending (barred r) is) stage (rw event_is at happens)

    module _ (k : ℕ) (asks : e.call ≡ HelperStep k) (stage : st' ≡ st) where
      attempt_same_owner : SameOwner
      attempt_same_owner = owner_is (HelperStep k) asks (progress a) refl

      attempt_ending : (x : Answer J O) → a ≡ x → ending ≡ attempt_ends k n x (attempt_begun k h)
      attempt_ending x is = ending_is (HelperStep k) asks ∙ ap (λ (y : Answer J O). attempt_ends k n y (attempt_begun k h)) is

      goes_from : (p : Progress) (o : Option ℕ) (f : ℕ) → attempt_goes p n o ≡ Some f → (o ≡ Some f) ⊎ (f ≡ n)
      goes_from going None f is = inr cc
      goes_from going (Some first) f is = inl is
      goes_from ended o f is = cc
      goes_from (barred r) o f is = inl is

      attempts_go : AttemptsGo
      attempts_go j f is =
          cond_both _ _ _ (λ (o : Option ℕ). o ≡ Some f → (attempt_begun j h ≡ Some f) ⊎ (f ≡ n))
          (λ _ goes. goes_from (progress a) (attempt_begun j h) f goes)
          (λ _ was. inl was)
          (sym (attempt_is (HelperStep k) asks j (progress a) refl) ∙ is)

      attempt_kept : (x : Answer J O) → a ≡ x → AttemptAllowed k x ev → Then
      attempt_kept (Taken job) is allowed =
          rw stage
          (takes_placed k b' attempt_same_owner (λ j. attempt_is (HelperStep k) asks j ended (ap progress is))
          (attempt_ending (Taken job) is ∙ ap (operation (Helper k) (first_call n (attempt_begun k h)) n (takes k)) (sym is))
          (rw (allowed ∙ ap (places (takes k)) (sym is)) at happens))
      attempt_kept (Refused r) is allowed =
          refused (Helper k) (takes k) (is_operation r) st' b' ev attempt_same_owner
          (λ j. attempt_is (HelperStep k) asks j (barred r) (ap progress is) ∙ cond_both _ _ _ (λ (o : Option ℕ). o ≡ attempt_begun j h) (λ _. refl) (λ _. refl))
          (attempt_ending (Refused r) is ∙ ap (λ (y : Answer J O). cond (is_operation r) (operation (Helper k) n n (takes k) y) None) (sym is))
          stage
          (allowed ∙ ap (λ (y : Answer J O). cond (is_operation r) (places (takes k) y) nothing) (sym is))
          happens
      attempt_kept Pushed is allowed = absurd allowed
      attempt_kept (Work job) is allowed = absurd allowed
      attempt_kept Stolen is allowed = absurd allowed
      attempt_kept (Retired outcome) is allowed = absurd allowed
      attempt_kept Finished is allowed = absurd allowed
      attempt_kept x is allowed = unchanged st' b' attempt_same_owner attempts_go (attempt_ending x is) stage (rw allowed at happens)

    finish_kept : (k : ℕ) (outcome : O) → e.call ≡ Finish k outcome → st' ≡ st → (p : Progress) → progress a ≡ p → FinishAllowed k outcome a p ev → Then
    finish_kept k outcome asks stage going is allowed = absurd allowed
    finish_kept k outcome asks stage ended is allowed =
        let c : Call J O = Finish k outcome in
        by_itself (Helper k) (finishes k outcome) st' b' (owner_is c asks ended is) (λ j. attempt_is c asks j ended is) (ending_is c asks ∙ ap (alone (Helper k) n (finishes k outcome) a) is) stage (rw allowed at happens)
    finish_kept k outcome asks stage (barred r) is allowed =
        let c : Call J O = Finish k outcome in
        refused (Helper k) (finishes k outcome) (is_operation r) st' b' ev (owner_is c asks (barred r) is) (λ j. attempt_is c asks j (barred r) is) (ending_is c asks ∙ ap (alone (Helper k) n (finishes k outcome) a) is) stage allowed happens

    call_kept : (c : Call J O) → e.call ≡ c → Allowed c a st st' ev → Then
    call_kept (Push job) asks allowed = push_kept job (progress a) (starts (Push job) asks (pushes job) refl (λ _. refl) refl) allowed
    call_kept Pop asks allowed = pop_kept (progress a) (starts Pop asks pops refl (λ _. refl) refl) allowed
    call_kept Retire asks allowed = retire_kept (progress a) (starts Retire asks retires refl (λ _. refl) refl) allowed
    call_kept OwnerStep asks allowed = step_kept asks (progress a) refl allowed
    call_kept (HelperStep k) asks allowed = let (stage, way) = allowed in attempt_kept k asks stage a refl way
    call_kept (Finish k outcome) asks allowed = let (stage, way) = allowed in finish_kept k outcome asks stage (progress a) refl way
    call_kept Land asks allowed =
        let (stage, event_is) = allowed in
        unchanged st' b' (owner_is Land asks (progress a) refl) (same_attempts_go (λ k. attempt_is Land asks k (progress a) refl)) (ending_is Land asks) stage (rw event_is at happens)

pub kept_more : {J O : Type 0} (size : ℕ) (h : List (Entry J O)) (st st' : Stage J O) (b b' : Plain J O) (order : List (Place J O)) (e : Entry J O) (ev : Event J O) → Kept size h st b order → Allowed e.call e.reply.answer st st' ev → Happens b ev b' → (more : List (Place J O)) × Kept size (e ∷ h) st' b' (more ++ order)
kept_more size h st st' b b' order e ev kept allowed happens = call_kept size h st b order kept e st' b' ev happens e.call refl allowed
