use Rattle.attached_laws.proofs.Calls.{each_calls_attached}
use Rattle.attached_laws.proofs.turns_call_attached_filters.Goals as goal

pub returns : goal.returns
returns c = each_calls_attached
