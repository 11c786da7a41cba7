use Rattle.work_laws.proofs.Journals.{sound_cancel}
use Rattle.work_laws.proofs.cancels_add_nothing.Goals as goal

pub returns : goal.returns
returns c = sound_cancel
