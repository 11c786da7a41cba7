use Rattle.std.proofs.Common.{◌-◌}
use Rattle.delivery_work.proofs.lending.+deliver_each.Given as goal

abbrev pub decreases-deliver_each : goal.decreases-deliver_each
decreases-deliver_each g l = l.many - l.first
