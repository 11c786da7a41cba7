use Rattle.std.proofs.Common.{length}
use Rattle.plain_oids.proofs.requests.+filter_ids.Given as goal

abbrev pub decreases-filter_ids : goal.decreases-filter_ids
decreases-filter_ids l = length l.filters.now
