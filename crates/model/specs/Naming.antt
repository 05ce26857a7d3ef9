-- The number and the layer of each refusal, and the printed word of each access and answer. Assumes nothing.
use Rattle.std.specs.Prelude.{ℕ, List, codes}
use Rattle.calls.specs.declared.layer.Layer.{Layer}
use Rattle.calls.specs.declared.layer.Layer.TheVariants.{Board}
use Rattle.model.specs.declared.reply.Access.{Access}
use Rattle.model.specs.declared.reply.Access.TheVariants as access
use Rattle.model.specs.declared.reply.Answer.{Answer}
use Rattle.model.specs.declared.reply.Answer.TheVariants.{Going, Pushed, Work, Stolen, Retired, Taken, AllGone, NoShare, Changed, Finished, Refused}
use Rattle.model.specs.declared.reply.Refusal.{Refusal}
use Rattle.model.specs.declared.reply.Refusal.TheVariants.{WrongSize, WrongHelpers, WrongCells, UnknownHelper, Busy, NothingBegun, Full, Empty, NotTold, Unfinished, Holding, HoldsNone, Misread}

abbrev pub number : Refusal → ℕ
number WrongSize = 6
number WrongHelpers = 7
number WrongCells = 10
number UnknownHelper = 11
number Busy = 12
number NothingBegun = 13
number Full = 14
number Empty = 15
number NotTold = 16
number Unfinished = 17
number Holding = 18
number HoldsNone = 19
number Misread = 20

-- the number of the refusal that an answer gives, and 0 where it gives none
abbrev pub refusal_number : {J O : Type 0} → Answer J O → ℕ
refusal_number Going = 0
refusal_number Pushed = 0
refusal_number (Work job) = 0
refusal_number Stolen = 0
refusal_number (Retired outcome) = 0
refusal_number (Taken job) = 0
refusal_number AllGone = 0
refusal_number NoShare = 0
refusal_number Changed = 0
refusal_number Finished = 0
refusal_number (Refused refusal) = number refusal

abbrev pub layer_of : Refusal → Layer
layer_of refusal = Board

abbrev pub access_word : Access → List ℕ
access_word access.WritePair = codes "writepair"
access_word access.WriteSplit = codes "writesplit"
access_word access.WriteFlag = codes "writeflag"
access_word access.WriteRequest = codes "writereq"
access_word access.ReadPair = codes "readpair"
access_word access.ReadTail = codes "readtail"
access_word access.ReadRequest = codes "readreq"
access_word access.ReadFlag = codes "readflag"
access_word access.Fence = codes "fence"
access_word access.Swap = codes "swap"
access_word access.Push = codes "push"
access_word access.Pop = codes "pop"
access_word access.Retire = codes "retire"
access_word access.Step = codes "step"
access_word access.Finish = codes "finish"
access_word access.Land = codes "land"

-- the word of an answer, before its job, outcome or number
abbrev pub answer_word : {J O : Type 0} → Answer J O → List ℕ
answer_word Going = codes "-"
answer_word Pushed = codes "PUSHED"
answer_word (Work job) = codes "WORK"
answer_word Stolen = codes "STOLEN"
answer_word (Retired outcome) = codes "RETIRED"
answer_word (Taken job) = codes "TAKEN"
answer_word AllGone = codes "ALLGONE"
answer_word NoShare = codes "NOSHARE"
answer_word Changed = codes "CHANGED"
answer_word Finished = codes "FINISHED"
answer_word (Refused refusal) = codes "refused"
