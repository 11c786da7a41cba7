use Rattle.std.proofs.Common.{length}
use Rattle.plain_calls.proofs.drivers.+served_through_filters.Given as goal

abbrev pub decreases-served_through_filters : goal.decreases-served_through_filters
decreases-served_through_filters l = length l.drivers.now
