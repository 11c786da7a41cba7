use Rattle.driver_choice.proofs.Standing.{takes_stand}
use Rattle.driver_choice.proofs.places.takers_stand.Goals as goal

pub returns : goal.returns
returns c = takes_stand
