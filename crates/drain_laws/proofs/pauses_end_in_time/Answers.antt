use Rattle.work_laws.proofs.InPlace.{all_in_place}
use Rattle.drain_laws.proofs.Pausing.{pauses_in_time}
use Rattle.drain_laws.proofs.pauses_end_in_time.Goals as goal

pub returns : goal.returns
returns c = pauses_in_time all_in_place
