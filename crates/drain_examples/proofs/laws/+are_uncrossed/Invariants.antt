use Rattle.std.proofs.Common.{length}
use Rattle.drain_examples.proofs.laws.+are_uncrossed.Given as goal

abbrev pub decreases-are_uncrossed : goal.decreases-are_uncrossed
decreases-are_uncrossed l = length l.things.now
