use Rattle.std.proofs.Common.{◌-◌}
use Rattle.drain_work.proofs.filters.+drain_filters.Given as goal

abbrev pub decreases-drain_filters : goal.decreases-drain_filters
decreases-drain_filters g l = l.count - l.index
