use Rattle.std.proofs.Common.{length}
use Rattle.stack_ledger.proofs.floors.+count_down.Given as goal

abbrev pub decreases-count_down : goal.decreases-count_down
decreases-count_down l = length l.filters.now
