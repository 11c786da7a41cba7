use Rattle.std.proofs.Common.{◌≡◌, ◌≤◌, map, take, count_by}
use Rattle.driver_choice.specs.Chosen.{is_protocol}
use Rattle.driver_choice.proofs.choosing.count_protocols.Given as goal

abbrev pub invariant-loop-protocol : goal.invariant-loop-protocol
invariant-loop-protocol g l = record {
  counted : l.count ≡ count_by (is_protocol l.kind) (take l.protocol-index (map g.P.ProtocolCalls.state l.protocols));
  few : l.count ≤ l.protocol-index;
}
