use Rattle.work_laws.proofs.InPlace.{all_in_place}
use Rattle.drain_laws.proofs.Bounded.{drains_bounded}
use Rattle.drain_laws.proofs.drains_are_bounded.Goals as goal

pub returns : goal.returns
returns c = drains_bounded all_in_place
