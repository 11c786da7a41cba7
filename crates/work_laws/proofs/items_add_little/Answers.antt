use Rattle.work_laws.proofs.Additions.{each_status, each_ask}
use Rattle.work_laws.proofs.items_add_little.Goals as goal

pub returns : goal.returns
returns c = record { status = each_status; ask = each_ask }
