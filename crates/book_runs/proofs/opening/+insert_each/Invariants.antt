use Rattle.std.proofs.Common.{length}
use Rattle.book_runs.proofs.opening.+insert_each.Given as goal

abbrev pub decreases-insert_each : goal.decreases-insert_each
decreases-insert_each g l = length l.filters.now
