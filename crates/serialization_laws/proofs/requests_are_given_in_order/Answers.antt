use Rattle.serialization_laws.proofs.Firsts.{all_are_given_first}
use Rattle.serialization_laws.proofs.requests_are_given_in_order.Goals as goal

pub returns : goal.returns
returns c = all_are_given_first
