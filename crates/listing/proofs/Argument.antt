-- A call that is no push and no finish has no argument. Assumes nothing.
use Rattle.std.proofs.Common.{◌≡◌, ℕ, [], refl}
use Rattle.calls.specs.declared.call.Call.{Call}
use Rattle.calls.specs.declared.call.Call.TheVariants.{Push, Pop, Retire, OwnerStep, HelperStep, Finish, Land}
use Rattle.jobs.specs.Form.{Form}
use Rattle.listing.specs.Lines.{argument}

pub no_argument : {J O : Type 0} (job : Form J) (outcome : Form O) (call : Call J O) → ((j : J) → call ≡ Push j → ⊥) → ((helper : ℕ) (o : O) → call ≡ Finish helper o → ⊥) → argument job outcome call ≡ []
no_argument job outcome (Push j) not_push not_finish = absurd (not_push j refl)
no_argument job outcome (Finish helper o) not_push not_finish = absurd (not_finish helper o refl)
no_argument job outcome Pop not_push not_finish = refl
no_argument job outcome Retire not_push not_finish = refl
no_argument job outcome OwnerStep not_push not_finish = refl
no_argument job outcome (HelperStep helper) not_push not_finish = refl
no_argument job outcome Land not_push not_finish = refl
