use Rattle.std.proofs.Common.{length}
use Rattle.stack_ledger.proofs.giving.+lowest_filter.Given as goal

abbrev pub decreases-lowest_filter : goal.decreases-lowest_filter
decreases-lowest_filter l = length l.filters.now
