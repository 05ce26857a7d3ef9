use Rattle.model.proofs.Keeping.{calls_have_one_reply, numbers_keep}
use Rattle.model.proofs.laws.law_of_calls.Goals as goal

pub returns : goal.returns
returns g c = record { one_reply = calls_have_one_reply; in_range = numbers_keep _ _ }
