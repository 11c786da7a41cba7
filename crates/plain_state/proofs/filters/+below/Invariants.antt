use Rattle.std.proofs.Common.{length}
use Rattle.plain_state.proofs.filters.+below.Given as goal

abbrev pub decreases-below : goal.decreases-below
decreases-below l = length l.order.now
