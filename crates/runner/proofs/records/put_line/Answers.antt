use Rattle.std.proofs.Common.{vec_items, refl, rules}
use Rattle.line.specs.Lines.{line_of}
use Rattle.runner.proofs.Lines.{put_so}
use Rattle.runner.proofs.records.put_line.Goals as goal

pub returns : goal.returns
returns g c =
    let line = line_of g.J.Job.form g.J.Job.outcome c.args.number c.args.party c.args.reply.now in
    let wrote = c.write_line.ensures in
    record {
      puts = put_so (vec_items c.args.out.now) (vec_items c.extend_from_slice.new.self) _ c.write_line.new.buffer line c.in_ok-length.length c.in_ok-extend_from_slice.ensures.items refl wrote.buffer (let told = c.map_err.ensures.cases in search rules) wrote.fits;
    }
