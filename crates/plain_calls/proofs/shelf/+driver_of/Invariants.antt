use Rattle.std.proofs.Common.{length}
use Rattle.plain_calls.proofs.shelf.+driver_of.Given as goal

abbrev pub decreases-driver_of : goal.decreases-driver_of
decreases-driver_of l = length l.drivers.now
