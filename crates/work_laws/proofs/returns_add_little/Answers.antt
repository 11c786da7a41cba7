use Rattle.work_laws.proofs.Journals.{sound_give_back, sound_done}
use Rattle.work_laws.proofs.returns_add_little.Goals as goal

pub returns : goal.returns
returns c = record { give_back = sound_give_back; done = sound_done }
