-- What can be read from a day's fault. Assumes nothing.
use Rattle.std.specs.Prelude.{ℕ, Some, None, Option}
use Rattle.calls.specs.declared.layer.Layer.{Layer}
use Rattle.dayfile.specs.Faults as file
use Rattle.line.specs.Lines as line
use Rattle.model.specs.Naming as board
use Rattle.runner.specs.declared.fault.DayFault.{DayFault}
use Rattle.runner.specs.declared.fault.DayFault.TheVariants.{File, Board, Line, NoMemory}

abbrev pub number_in : DayFault → Option ℕ
number_in (File fault) = Some (file.number_of fault.refusal)
number_in (Board met) = Some (board.number met.fault)
number_in (Line met) = Some (line.number_of met.fault)
number_in NoMemory = None

abbrev pub layer_in : DayFault → Option Layer
layer_in (File fault) = Some (file.layer_of fault)
layer_in (Board met) = Some (board.layer_of met.fault)
layer_in (Line met) = Some (line.layer_of met.fault)
layer_in NoMemory = None

-- the place of a refused record
abbrev pub place_in : DayFault → Option ℕ
place_in (File fault) = Some fault.place
place_in (Board met) = None
place_in (Line met) = None
place_in NoMemory = None

-- the call that met a fault of the board or of the writer of lines
abbrev pub call_in : DayFault → Option ℕ
call_in (File fault) = None
call_in (Board met) = Some met.call
call_in (Line met) = Some met.call
call_in NoMemory = None
