use Rattle.drain_laws.proofs.Pausing.{pause_begins}
use Rattle.drain_laws.proofs.accepted_pauses_begin.Goals as goal

pub returns : goal.returns
returns c = pause_begins
