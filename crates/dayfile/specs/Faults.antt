-- The number and the layer of each refusal of a day file, and how it is printed. Assumes nothing.
use Rattle.std.specs.Prelude.{ℕ, List, ◌++◌, codes, decimal}
use Rattle.calls.specs.declared.layer.Layer.{Layer}
use Rattle.calls.specs.declared.layer.Layer.TheVariants.{File}
use Rattle.jobs.specs.declared.fault.JobFault.{JobFault}
use Rattle.jobs.specs.declared.fault.JobFault.TheVariants as job
use Rattle.dayfile.specs.declared.fault.FileFault.{FileFault}
use Rattle.dayfile.specs.declared.fault.FileRefusal.{FileRefusal}
use Rattle.dayfile.specs.declared.fault.FileRefusal.TheVariants.{TooLong, CutShort, UnknownTag, OutOfOrder, WrongLength, WrongSize, WrongHelpers, UnknownKind, UnknownAction}

abbrev pub number_of : FileRefusal → ℕ
number_of TooLong = 1
number_of CutShort = 2
number_of UnknownTag = 3
number_of OutOfOrder = 4
number_of WrongLength = 5
number_of WrongSize = 6
number_of WrongHelpers = 7
number_of UnknownKind = 8
number_of UnknownAction = 9

abbrev pub layer_of : FileFault → Layer
layer_of fault = File

-- what a job's bytes get wrong, their file gets wrong
abbrev pub refusal_of : JobFault → FileRefusal
refusal_of job.WrongWidth = WrongLength
refusal_of job.UnknownAction = UnknownAction

-- as `refused 4 at 8`
abbrev pub refusal_line : FileFault → List ℕ
refusal_line fault = codes "refused " ++ (decimal (number_of fault.refusal) ++ (codes " at " ++ decimal fault.place))
