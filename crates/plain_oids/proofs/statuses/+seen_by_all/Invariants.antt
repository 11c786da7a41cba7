use Rattle.std.proofs.Common.{length}
use Rattle.plain_oids.proofs.statuses.+seen_by_all.Given as goal

abbrev pub decreases-seen_by_all : goal.decreases-seen_by_all
decreases-seen_by_all l = length l.bindings.now
