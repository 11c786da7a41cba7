use Rattle.std.proofs.Common.{◌-◌}
use Rattle.drain_work.proofs.bindings.+drain_bindings.Given as goal

abbrev pub decreases-drain_bindings : goal.decreases-drain_bindings
decreases-drain_bindings g l = l.count - l.binding
