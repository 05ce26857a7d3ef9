-- How many calls of each kind there are, and how that is printed. Assumes nothing.
use Rattle.std.specs.Prelude.{ℕ, ◌+◌, List, ◌++◌, codes, decimal}
use Rattle.calls.specs.declared.call.Call.{Call}
use Rattle.calls.specs.declared.call.Call.TheVariants.{Push, Pop, Retire, OwnerStep, HelperStep, Finish, Land}
use Rattle.listing.specs.declared.counts.Counts.{Counts}

abbrev pub nothing_yet : Counts
nothing_yet = record { push = 0; pop = 0; retire = 0; owner_step = 0; helper_step = 0; finish = 0; land = 0 }

abbrev pub total_of : Counts → ℕ
total_of n = n.push + n.pop + n.retire + n.owner_step + n.helper_step + n.finish + n.land

-- one call more
abbrev pub tally : {J O : Type 0} → Call J O → Counts → Counts
tally (Push job) n = record n { push = n.push + 1 }
tally Pop n = record n { pop = n.pop + 1 }
tally Retire n = record n { retire = n.retire + 1 }
tally OwnerStep n = record n { owner_step = n.owner_step + 1 }
tally (HelperStep helper) n = record n { helper_step = n.helper_step + 1 }
tally (Finish helper outcome) n = record n { finish = n.finish + 1 }
tally Land n = record n { land = n.land + 1 }

-- as `3 calls: push 1, pop 1, retire 0`
abbrev pub closing_front : Counts → List ℕ
closing_front n =
    decimal (total_of n) ++ (codes " calls: push " ++ (decimal n.push ++ (codes ", pop " ++ (decimal n.pop ++ (codes ", retire " ++ decimal n.retire)))))

-- as `, owner step 1, helper step 0, finish 0, land 0`
abbrev pub closing_back : Counts → List ℕ
closing_back n =
    codes ", owner step " ++ (decimal n.owner_step ++ (codes ", helper step " ++ (decimal n.helper_step ++ (codes ", finish " ++ (decimal n.finish ++ (codes ", land " ++ decimal n.land))))))

-- the closing line, `3 calls: push 1, pop 1, retire 0, owner step 1, helper step 0, finish 0, land 0`
abbrev pub closing : Counts → List ℕ
closing n = closing_front n ++ closing_back n
