use Rattle.std.proofs.Common.{◌≡◌, ◌≤◌, map, length}
use Rattle.status_work.specs.Told.{heard_by_first, seen_by_first}
use Rattle.status_work.proofs.bindings.tell_all.Given as goal

abbrev pub invariant-loop-binding : goal.invariant-loop-binding
invariant-loop-binding g l = record {
  low : l.binding ≤ l.many;
  count : length l.protocols.items ≡ length l.initial.protocols.items;
  states : map g.P.ProtocolCalls.state l.protocols.items ≡ heard_by_first l.binding (map g.P.ProtocolCalls.state l.initial.protocols.items);
  tray : l.tray ≡ seen_by_first l.binding l.status.number l.initial.tray;
}
