use Rattle.outstanding_laws.proofs.Counts.{each_is_in_hand}
use Rattle.outstanding_laws.proofs.outstanding_is_in_hand.Goals as goal

pub returns : goal.returns
returns c = each_is_in_hand
