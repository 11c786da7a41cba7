use Rattle.std.proofs.Common.{length}
use Rattle.plain_calls.proofs.drivers.+served_through_bindings.Given as goal

abbrev pub decreases-served_through_bindings : goal.decreases-served_through_bindings
decreases-served_through_bindings l = length l.drivers.now
