use Rattle.std.proofs.Common.{length}
use Rattle.rewire_work.proofs.seats.+first_of_kind.Given as goal

abbrev pub decreases-first_of_kind : goal.decreases-first_of_kind
decreases-first_of_kind g l = length l.shelf.now
