use Rattle.work_laws.proofs.InPlace.{all_in_place}
use Rattle.work_laws.proofs.everything_stands_in_place.Goals as goal

pub returns : goal.returns
returns c = all_in_place
