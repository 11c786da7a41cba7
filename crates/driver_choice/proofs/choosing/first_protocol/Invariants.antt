use Rattle.std.proofs.Common.{◌≡◌, map, drop}
use Rattle.std.specs.Prelude.{position}
use Rattle.std.specs.List.{position_from}
use Rattle.driver_choice.specs.Chosen.{is_protocol}
use Rattle.driver_choice.proofs.choosing.first_protocol.Given as goal

abbrev pub invariant-loop-i : goal.invariant-loop-i
invariant-loop-i g l =
    position (is_protocol l.kind) (map g.P.ProtocolCalls.state l.protocols)
    ≡ position_from (is_protocol l.kind) l.i (drop l.i (map g.P.ProtocolCalls.state l.protocols))
