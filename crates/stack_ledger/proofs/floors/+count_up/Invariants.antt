use Rattle.std.proofs.Common.{length}
use Rattle.stack_ledger.proofs.floors.+count_up.Given as goal

abbrev pub decreases-count_up : goal.decreases-count_up
decreases-count_up l = length l.filters.now
