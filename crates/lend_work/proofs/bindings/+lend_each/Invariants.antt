use Rattle.std.proofs.Common.{◌-◌}
use Rattle.lend_work.proofs.bindings.+lend_each.Given as goal

abbrev pub decreases-lend_each : goal.decreases-lend_each
decreases-lend_each g l = l.many - l.from
