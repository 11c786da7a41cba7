use Rattle.drain_laws.proofs.Rests.{lists_rest}
use Rattle.drain_laws.proofs.lists_rest.Goals as goal

pub returns : goal.returns
returns c = lists_rest
