use Rattle.std.proofs.Common.{◌≡◌, ◌≤◌, map, length}
use Rattle.std.specs.List.{AllWithin}
use Rattle.delivery_work.specs.Desks.{CanTake}
use Rattle.delivery_work.proofs.rooming.rooms_in.Given as goal

abbrev pub invariant-loop-i : goal.invariant-loop-i
invariant-loop-i g l = record {
  count : length l.protocols.items ≡ length l.initial.protocols.items;
  states : map g.P.ProtocolCalls.state l.protocols.items ≡ map g.P.ProtocolCalls.state l.initial.protocols.items;
  rooms : AllWithin (λ r. 1 ≤ r) (map g.P.ProtocolCalls.room l.protocols.items) 0 l.i;
  counts : AllWithin CanTake (map g.P.ProtocolCalls.state l.protocols.items) 0 l.i;
}
