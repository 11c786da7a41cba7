use Rattle.serialization_laws.proofs.Overs.{all_are_done}
use Rattle.serialization_laws.proofs.requests_are_done.Goals as goal

pub returns : goal.returns
returns c = all_are_done
