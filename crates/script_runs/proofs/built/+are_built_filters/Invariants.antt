use Rattle.std.proofs.Common.{length}
use Rattle.script_runs.proofs.built.+are_built_filters.Given as goal

abbrev pub decreases-are_built_filters : goal.decreases-are_built_filters
decreases-are_built_filters l = length l.filters.now
