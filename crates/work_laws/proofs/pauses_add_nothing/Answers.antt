use Rattle.work_laws.proofs.Additions.{each_pause, each_take}
use Rattle.work_laws.proofs.pauses_add_nothing.Goals as goal

pub returns : goal.returns
returns c = record { pause = each_pause; take = each_take }
