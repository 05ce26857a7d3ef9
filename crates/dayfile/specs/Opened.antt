-- What is left of a day file whose board's record has been read. Assumes nothing.
use Rattle.std.specs.Prelude.{length}
use Rattle.dayfile.specs.Holding.{Held, held}
use Rattle.dayfile.specs.Reading.{file_of, unread}
use Rattle.dayfile.specs.declared.day_file.DayFile.{DayFile}
use Rattle.jobs.specs.Form.{Form}

-- the calls that are still to be read, and how the file ends after them
abbrev pub left : {J O : Type 0} → Form J → Form O → DayFile → Held J O
left job outcome d = held job outcome (length (file_of d.reader)) d.reader.position (unread d.reader)
