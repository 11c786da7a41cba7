use Rattle.served_laws.proofs.Served.{each_adds_calls}
use Rattle.served_laws.proofs.turns_add_calls.Goals as goal

pub returns : goal.returns
returns c = each_adds_calls
