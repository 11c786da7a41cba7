use Rattle.std.proofs.Common.{map}
use Rattle.std.specs.List.{AllWithin}
use Rattle.status_work.specs.Rooms.{CanHear}
use Rattle.status_work.proofs.bindings.room_in.Given as goal

abbrev pub invariant-loop-protocol : goal.invariant-loop-protocol
invariant-loop-protocol g l = AllWithin CanHear (map g.P.ProtocolCalls.state l.protocols) 0 l.protocol-index
