use Rattle.work_laws.proofs.Journals.{sound_drain, sound_still_drain}
use Rattle.work_laws.proofs.drains_lower_work.Goals as goal

pub returns : goal.returns
returns c = record { lowers = sound_drain; still = sound_still_drain }
