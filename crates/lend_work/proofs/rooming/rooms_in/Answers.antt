use Rattle.std.proofs.Common.{◌≤◌, map, ◌∙◌, length-set, arith}
use Rattle.std.proofs.Math.Seq.{map-set}
use Rattle.std.proofs.lemmas.List.{length-map}
use Rattle.binding_work.proofs.Owned.{same_at}
use Rattle.lend_work.specs.Lends.{CanVisit}
use Rattle.delivery_work.proofs.Placed.{one_more_so}
use Rattle.lend_work.proofs.rooming.rooms_in.Goals as goal

pub returns-in_err-room_in-clause-states : goal.returns-in_err-room_in-clause-states
returns-in_err-room_in-clause-states g c =
    same_at g.F.FilterCalls.state c.loop-i.filters.items c.loop-i.i c.index_mut.result.now c.room_in.new.filter c.index_mut.ensures.value c.room_in.ensures.state ∙ c.loop-i.invariant.states

pub loop-i-preserved : goal.loop-i-preserved
loop-i-preserved g c =
    let rooms = length-map c.loop-i.filters.items g.F.FilterCalls.room in
    let states = length-map c.loop-i.filters.items g.F.FilterCalls.state in
    record {
      count = length-set c.loop-i.filters.items c.loop-i.i c.room_in.new.filter ∙ c.loop-i.invariant.count;
      states = same_at g.F.FilterCalls.state c.loop-i.filters.items c.loop-i.i c.index_mut.result.now c.room_in.new.filter c.index_mut.ensures.value c.room_in.ensures.state ∙ c.loop-i.invariant.states;
      rooms = one_more_so (λ r. 1 ≤ r) (map g.F.FilterCalls.room c.loop-i.filters.items) _ c.loop-i.i (g.F.FilterCalls.room c.room_in.new.filter) c.loop-i.invariant.rooms
          (map-set g.F.FilterCalls.room c.loop-i.filters.items c.loop-i.i c.room_in.new.filter) (omega (arith, rooms, c.loop-i-test.true, c.len-i-end.ensures, c.loop-i.invariant.count)) c.in_ok-room_in.ensures.room;
      counts = one_more_so CanVisit (map g.F.FilterCalls.state c.loop-i.filters.items) _ c.loop-i.i (g.F.FilterCalls.state c.room_in.new.filter) c.loop-i.invariant.counts
          (map-set g.F.FilterCalls.state c.loop-i.filters.items c.loop-i.i c.room_in.new.filter) (omega (arith, states, c.loop-i-test.true, c.len-i-end.ensures, c.loop-i.invariant.count)) c.in_ok-room_in.ensures.count;
    }
