use Rattle.work_laws.proofs.Journals.{sound_pump}
use Rattle.work_laws.proofs.pumps_lower_work.Goals as goal

pub returns : goal.returns
returns c = sound_pump
