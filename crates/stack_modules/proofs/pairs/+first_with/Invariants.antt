use Rattle.std.proofs.Common.{length}
use Rattle.stack_modules.proofs.pairs.+first_with.Given as goal

abbrev pub decreases-first_with : goal.decreases-first_with
decreases-first_with l = length l.filters.now
