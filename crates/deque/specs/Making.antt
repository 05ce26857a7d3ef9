-- A deque on which nothing stands. Assumes nothing.
use Rattle.std.specs.Prelude.{ℕ, true, false, []}
use Rattle.memory.specs.Meaning.{Meaning}
use Rattle.model.specs.declared.owner.Owner.{Owner}
use Rattle.model.specs.declared.owner.Phase.TheVariants.{Idle}

-- no job is pushed, and all are stolen
abbrev pub new_owner : {J O : Type 0} → ℕ → Owner J O
new_owner size = record { size = size; head = 0; own_split = 0; own_flag = true; told = 0; phase = Idle }

abbrev pub nothing_shared : Meaning
nothing_shared = record { words = record { tail = 0; split = 0; flag = true; request = false }; waiting = [] }
