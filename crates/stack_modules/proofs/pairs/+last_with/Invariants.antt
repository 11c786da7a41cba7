use Rattle.std.proofs.Common.{length}
use Rattle.stack_modules.proofs.pairs.+last_with.Given as goal

abbrev pub decreases-last_with : goal.decreases-last_with
decreases-last_with l = length l.filters.now
