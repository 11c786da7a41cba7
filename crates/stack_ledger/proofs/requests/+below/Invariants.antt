use Rattle.std.proofs.Common.{length}
use Rattle.stack_ledger.proofs.requests.+below.Given as goal

abbrev pub decreases-below : goal.decreases-below
decreases-below l = length l.order.now
