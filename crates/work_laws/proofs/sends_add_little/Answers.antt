use Rattle.work_laws.proofs.Additions.{each_send}
use Rattle.work_laws.proofs.sends_add_little.Goals as goal

pub returns : goal.returns
returns c = each_send
