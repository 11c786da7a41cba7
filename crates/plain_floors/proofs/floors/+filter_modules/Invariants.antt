use Rattle.std.proofs.Common.{length}
use Rattle.plain_floors.proofs.floors.+filter_modules.Given as goal

abbrev pub decreases-filter_modules : goal.decreases-filter_modules
decreases-filter_modules l = length l.filters.now
