use Rattle.std.proofs.Common.{All, map, length}
use Rattle.book_lemmas.specs.Stands.{IsResting}
use Rattle.sample_parts.proofs.rested_filters.Given as goal

abbrev pub invariant-loop-item : goal.invariant-loop-item
invariant-loop-item g l = All IsResting (map g.F.FilterCalls.state l.rested.items)

abbrev pub decreases-loop-item : goal.decreases-loop-item
decreases-loop-item g l = length l.those.items
