use Rattle.place_laws.proofs.Turns.{lists_stand}
use Rattle.place_laws.proofs.lists_stand_in_place.Goals as goal

pub returns : goal.returns
returns c = lists_stand
