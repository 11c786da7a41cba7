use Rattle.std.proofs.Common.{length}
use Rattle.drain_examples.proofs.laws.+are_draining.Given as goal

abbrev pub decreases-are_draining : goal.decreases-are_draining
decreases-are_draining l = length l.turns.now
