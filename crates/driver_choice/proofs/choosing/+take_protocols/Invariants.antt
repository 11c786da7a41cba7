use Rattle.std.proofs.Common.{length}
use Rattle.driver_choice.proofs.choosing.+take_protocols.Given as goal

abbrev pub decreases-take_protocols : goal.decreases-take_protocols
decreases-take_protocols g l = length l.setups.now
