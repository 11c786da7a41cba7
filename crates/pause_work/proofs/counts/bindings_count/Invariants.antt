use Rattle.std.proofs.Common.{◌≡◌, sum_by}
use Rattle.book_parts.specs.Parts.{held_of}
use Rattle.phase_work.specs.Written.{bindings_from}
use Rattle.pause_work.specs.Hands.{hand_count}
use Rattle.pause_work.proofs.counts.bindings_count.Given as goal

abbrev pub invariant-loop-binding : goal.invariant-loop-binding
invariant-loop-binding g l =
    l.total ≡ sum_by (hand_count (held_of g.M.MiniportCalls.state g.P.ProtocolCalls.state g.F.FilterCalls.state l.book)) (bindings_from 0 l.binding)
