use Rattle.work_laws.proofs.Additions.{each_indication}
use Rattle.work_laws.proofs.indications_add_little.Goals as goal

pub returns : goal.returns
returns c = each_indication
