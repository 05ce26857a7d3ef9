-- Who makes each call, and the words by which calls and parties are printed. Assumes nothing.
use Rattle.std.specs.Prelude.{ℕ, List, ◌++◌, codes, decimal}
use Rattle.calls.specs.declared.call.Call.{Call}
use Rattle.calls.specs.declared.call.Call.TheVariants.{Push, Pop, Retire, OwnerStep, HelperStep, Finish, Land}
use Rattle.calls.specs.declared.party.Party.{Party}
use Rattle.calls.specs.declared.party.Party.TheVariants.{Owner, Helper, Memory}

module _ {J O : Type 0} where
  abbrev pub party_of : Call J O → Party
  party_of (Push job) = Owner
  party_of Pop = Owner
  party_of Retire = Owner
  party_of OwnerStep = Owner
  party_of (HelperStep helper) = Helper helper
  party_of (Finish helper outcome) = Helper helper
  party_of Land = Memory

  abbrev pub name_of : Call J O → List ℕ
  name_of (Push job) = codes "push"
  name_of Pop = codes "pop"
  name_of Retire = codes "retire"
  name_of OwnerStep = codes "step"
  name_of (HelperStep helper) = codes "step"
  name_of (Finish helper outcome) = codes "finish"
  name_of Land = codes "land"

abbrev pub party_text : Party → List ℕ
party_text Owner = codes "O"
party_text (Helper number) = codes "H" ++ decimal number
party_text Memory = codes "M"
