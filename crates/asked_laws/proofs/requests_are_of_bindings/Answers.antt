use Rattle.asked_laws.proofs.Bound.{each_is_of_a_binding}
use Rattle.asked_laws.proofs.requests_are_of_bindings.Goals as goal

pub returns : goal.returns
returns c = each_is_of_a_binding
