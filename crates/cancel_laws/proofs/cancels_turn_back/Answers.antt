use Rattle.cancel_laws.proofs.Cancels.{each_cancels}
use Rattle.cancel_laws.proofs.cancels_turn_back.Goals as goal

pub returns : goal.returns
returns c = each_cancels
