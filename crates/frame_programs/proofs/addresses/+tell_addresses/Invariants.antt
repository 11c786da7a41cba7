use Rattle.std.proofs.Common.{length}
use Rattle.frame_programs.proofs.addresses.+tell_addresses.Given as goal

abbrev pub decreases-tell_addresses : goal.decreases-tell_addresses
decreases-tell_addresses l = length l.rules.now
