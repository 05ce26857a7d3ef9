-- The lines of a listing, to the byte. Assumes nothing.
use Rattle.std.specs.Prelude.{ℕ, List, [], ◌++◌, codes, decimal}
use Rattle.calls.specs.Calls.{party_of, party_text, name_of}
use Rattle.calls.specs.declared.call.Call.{Call}
use Rattle.calls.specs.declared.call.Call.TheVariants.{Push, Pop, Retire, OwnerStep, HelperStep, Finish, Land}
use Rattle.dayfile.specs.Words.{memory_word, job_word}
use Rattle.dayfile.specs.declared.settings.Settings.{Settings}
use Rattle.jobs.specs.Form.{Form}

-- as `board size 2 helpers 1 memory direct jobs labels`
abbrev pub board_line : Settings → List ℕ
board_line s =
    codes "board size " ++ (decimal s.size ++ (codes " helpers " ++ (decimal s.helpers ++ (codes " memory " ++ (memory_word s.memory ++ (codes " jobs " ++ job_word s.jobs))))))

module _ {J O : Type 0} (job : Form J) (outcome : Form O) where
  -- the job of a push and the outcome of a finish
  abbrev pub argument : Call J O → List ℕ
  argument (Push j) = codes " " ++ job.text j
  argument Pop = []
  argument Retire = []
  argument OwnerStep = []
  argument (HelperStep helper) = []
  argument (Finish helper o) = codes " " ++ outcome.text o
  argument Land = []

  -- as `1 O push labels 100 5`
  abbrev pub call_line : ℕ → Call J O → List ℕ
  call_line number call =
      decimal number ++ (codes " " ++ (party_text (party_of call) ++ (codes " " ++ (name_of call ++ argument call))))
