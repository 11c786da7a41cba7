use Rattle.outstanding_laws.proofs.Turns.{each_is_passed}
use Rattle.outstanding_laws.proofs.lists_are_passed_on.Goals as goal

pub returns : goal.returns
returns c = each_is_passed
