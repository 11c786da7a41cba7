use Rattle.std.proofs.Common.{length}
use Rattle.drain_examples.proofs.laws.+pauses_and_drains.Given as goal

abbrev pub decreases-pauses_and_drains : goal.decreases-pauses_and_drains
decreases-pauses_and_drains l = length l.turns.now
