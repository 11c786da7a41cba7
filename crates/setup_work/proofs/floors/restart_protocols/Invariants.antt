use Rattle.std.proofs.Common.{◌≡◌, map, length}
use Rattle.setup_work.proofs.floors.restart_protocols.Given as goal

abbrev pub invariant-loop-i : goal.invariant-loop-i
invariant-loop-i g l = record {
  count : length l.protocols.items ≡ length l.initial.protocols.items;
  same : map g.P.ProtocolCalls.state l.protocols.items ≡ map g.P.ProtocolCalls.state l.initial.protocols.items;
}
