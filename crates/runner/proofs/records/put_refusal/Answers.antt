use Rattle.std.proofs.Common.{vec_items}
use Rattle.dayfile.specs.Faults.{refusal_line}
use Rattle.text.specs.Content.{content}
use Rattle.runner.proofs.Lines.{text_put}
use Rattle.runner.proofs.records.put_refusal.Goals as goal

pub returns : goal.returns
returns c = record {
  puts = text_put (vec_items c.args.out.now) (vec_items c.extend_from_slice.new.self) c.as_bytes.result.now (content c.push.new.self) (content c.text-text.result) (refusal_line c.args.fault) c.in_ok-extend_from_slice.ensures.items c.as_bytes.ensures.content c.push.ensures.gains.text c.text-text.ensures.text c.text-text.ensures.short;
}
