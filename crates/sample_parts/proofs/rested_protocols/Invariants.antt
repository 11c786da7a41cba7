use Rattle.std.proofs.Common.{All, map, length}
use Rattle.book_opening.specs.Opened.{IsClosedDriver}
use Rattle.sample_parts.proofs.rested_protocols.Given as goal

abbrev pub invariant-loop-item : goal.invariant-loop-item
invariant-loop-item g l = All IsClosedDriver (map g.P.ProtocolCalls.state l.rested.items)

abbrev pub decreases-loop-item : goal.decreases-loop-item
decreases-loop-item g l = length l.those.items
