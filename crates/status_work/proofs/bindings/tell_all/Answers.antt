use Rattle.std.proofs.Common.{length-set, ◌∙◌, ap, arith}
use Rattle.std.proofs.lemmas.List.{length-map}
use Rattle.driver_tray.specs.Tray.{TrayView}
use Rattle.status_work.proofs.Heard.{seen_rows, can_hear, hears, sees}
use Rattle.status_work.proofs.bindings.tell_all.Goals as goal

pub see-requires : goal.see-requires
see-requires g c =
    let left = seen_rows c.loop-binding.binding c.args.status.number c.args.tray.now in
    let same = ap (λ (t : TrayView). t.room.rows) c.loop-binding.invariant.tray in
    omega (arith, c.requires.room, left, same, c.loop-binding-test.true)

pub status-requires : goal.status-requires
status-requires g c =
    let many = length-map c.args.protocols.now.items g.P.ProtocolCalls.state in
    can_hear g.P.ProtocolCalls.state c.loop-binding.protocols.items c.loop-binding.binding c.index_mut.result.now _ c.loop-binding.invariant.states c.requires.counts c.index_mut.ensures.value
    (omega (arith, c.loop-binding-test.true, c.requires.all, c.loop-binding.invariant.count)) (omega (arith, many, c.loop-binding-test.true, c.requires.all))

pub loop-binding-preserved : goal.loop-binding-preserved
loop-binding-preserved g c = record {
  low = omega (arith, c.loop-binding-test.true);
  count = length-set c.loop-binding.protocols.items c.loop-binding.binding c.status.new.self ∙ c.loop-binding.invariant.count;
  states = hears g.P.ProtocolCalls.state c.loop-binding.protocols.items c.loop-binding.binding c.index_mut.result.now c.status.new.self _ c.loop-binding.invariant.states c.index_mut.ensures.value
      (omega (arith, c.loop-binding-test.true, c.requires.all, c.loop-binding.invariant.count)) c.status.ensures.same;
  tray = c.see.ensures ∙ sees c.args.status.number c.loop-binding.binding c.args.tray.now c.loop-binding.tray c.loop-binding.invariant.tray;
}
