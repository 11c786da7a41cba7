use Rattle.served_laws.proofs.Served.{each_adds_logs}
use Rattle.served_laws.proofs.turns_add_logs.Goals as goal

pub returns : goal.returns
returns c = each_adds_logs
