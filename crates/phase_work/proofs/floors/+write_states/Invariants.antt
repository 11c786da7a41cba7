use Rattle.std.proofs.Common.{length}
use Rattle.phase_work.proofs.floors.+write_states.Given as goal

abbrev pub decreases-write_states : goal.decreases-write_states
decreases-write_states l = length l.states.now
