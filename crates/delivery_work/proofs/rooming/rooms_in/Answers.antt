use Rattle.std.proofs.Common.{◌≤◌, map, ◌∙◌, length-set, arith}
use Rattle.std.proofs.Math.Seq.{map-set}
use Rattle.std.proofs.lemmas.List.{length-map}
use Rattle.binding_work.proofs.Owned.{same_at}
use Rattle.delivery_work.specs.Desks.{CanTake}
use Rattle.delivery_work.proofs.Placed.{one_more_so}
use Rattle.delivery_work.proofs.rooming.rooms_in.Goals as goal

pub returns-in_err-room_in-clause-states : goal.returns-in_err-room_in-clause-states
returns-in_err-room_in-clause-states g c =
    same_at g.P.ProtocolCalls.state c.loop-i.protocols.items c.loop-i.i c.index_mut.result.now c.room_in.new.protocol c.index_mut.ensures.value c.room_in.ensures.state ∙ c.loop-i.invariant.states

pub loop-i-preserved : goal.loop-i-preserved
loop-i-preserved g c =
    let rooms = length-map c.loop-i.protocols.items g.P.ProtocolCalls.room in
    let states = length-map c.loop-i.protocols.items g.P.ProtocolCalls.state in
    record {
      count = length-set c.loop-i.protocols.items c.loop-i.i c.room_in.new.protocol ∙ c.loop-i.invariant.count;
      states = same_at g.P.ProtocolCalls.state c.loop-i.protocols.items c.loop-i.i c.index_mut.result.now c.room_in.new.protocol c.index_mut.ensures.value c.room_in.ensures.state ∙ c.loop-i.invariant.states;
      rooms = one_more_so (λ r. 1 ≤ r) (map g.P.ProtocolCalls.room c.loop-i.protocols.items) _ c.loop-i.i (g.P.ProtocolCalls.room c.room_in.new.protocol) c.loop-i.invariant.rooms
          (map-set g.P.ProtocolCalls.room c.loop-i.protocols.items c.loop-i.i c.room_in.new.protocol) (omega (arith, rooms, c.loop-i-test.true, c.len-i-end.ensures, c.loop-i.invariant.count)) c.in_ok-room_in.ensures.room;
      counts = one_more_so CanTake (map g.P.ProtocolCalls.state c.loop-i.protocols.items) _ c.loop-i.i (g.P.ProtocolCalls.state c.room_in.new.protocol) c.loop-i.invariant.counts
          (map-set g.P.ProtocolCalls.state c.loop-i.protocols.items c.loop-i.i c.room_in.new.protocol) (omega (arith, states, c.loop-i-test.true, c.len-i-end.ensures, c.loop-i.invariant.count)) c.in_ok-room_in.ensures.count;
    }
