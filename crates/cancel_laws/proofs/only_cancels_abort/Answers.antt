use Rattle.cancel_laws.proofs.Cancels as Cancels
use Rattle.cancel_laws.proofs.only_cancels_abort.Goals as goal

pub returns : goal.returns
returns c = Cancels.only_cancels_abort
