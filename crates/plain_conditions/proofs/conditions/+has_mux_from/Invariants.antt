use Rattle.std.proofs.Common.{length}
use Rattle.plain_conditions.proofs.conditions.+has_mux_from.Given as goal

abbrev pub decreases-has_mux_from : goal.decreases-has_mux_from
decreases-has_mux_from l = length l.setups.now
