use Rattle.std.proofs.Common.{true, rules}
use Rattle.std.proofs.lemmas.Result.{err_from_is_err_and}
use Rattle.dayfile.proofs.Opening.{board_read, board_refused, in_bounds, not_long}
use Rattle.dayfile.proofs.day_file.DayFile.open.Goals as goal

pub returns-in_err-settings : goal.returns-in_err-settings
returns-in_err-settings c =
    let turned = err_from_is_err_and c.from_residual.result c.from_residual.ensures.1 in
    let refused = board_refused c.args.bytes.now c.new-reader.result c.new-reader.ensures.file c.new-reader.ensures.start _ c.in_err-settings.ensures.answer in
    rw (turned.1, turned.2) (record { settings = refused.0; file = tt; past = tt; place = refused.1 })

pub returns-clause-settings : goal.returns-clause-settings
returns-clause-settings c =
    board_read c.args.bytes.now c.new-reader.result c.new-reader.ensures.file c.new-reader.ensures.start _ c.in_ok-settings.ensures.answer

pub invariant_of-result : goal.invariant_of-result
invariant_of-result c =
    let file = c.args.bytes.now in
    let settings = c.in_ok-settings.settings in
    let read = board_read file c.new-reader.result c.new-reader.ensures.file c.new-reader.ensures.start settings c.in_ok-settings.ensures.answer in
    let short = not_long file settings read in
    let bounds = in_bounds true file settings read in
    search rules
