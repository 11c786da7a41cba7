use Rattle.std.proofs.Common.{length}
use Rattle.plain_crosses.proofs.crosses.+first_mux.Given as goal

abbrev pub decreases-first_mux : goal.decreases-first_mux
decreases-first_mux l = length l.bindings.now
