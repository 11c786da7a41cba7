use Rattle.work_laws.proofs.Journals.{sound_transmit, sound_drain_adds, sound_quiet_transmit}
use Rattle.work_laws.proofs.transmits_add_little.Goals as goal

pub returns : goal.returns
returns c = record { transmit = sound_transmit; drain = sound_drain_adds; quiet = sound_quiet_transmit }
