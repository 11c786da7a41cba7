use Rattle.pump_work.proofs.Firsts.{bindings_first}
use Rattle.pump_work.proofs.pumps.work_list.Goals as goal

pub work_bindings-requires-clause-first : goal.work_bindings-requires-clause-first
work_bindings-requires-clause-first g c = bindings_first c.requires.book c.requires.idle c.requires.first c.in-Bindings.is
