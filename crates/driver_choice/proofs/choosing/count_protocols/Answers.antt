use Rattle.std.proofs.Common.{arith, sym, ◌∙◌}
use Rattle.driver_choice.proofs.Choice.{viewed_yes, viewed_not, counted_all}
use Rattle.driver_choice.proofs.choosing.count_protocols.Goals as goal
use Rattle.driver_choice.proofs.choosing.count_protocols.Goals.{then-is_protocol, else-is_protocol}

pub loop-protocol-preserved : goal.loop-protocol-preserved
loop-protocol-preserved g c = elim c.if-is_protocol.branch [
  | then-is_protocol w ↦ record {
    counted = viewed_yes _ _ _ _ _ _ _ c.loop-protocol-test.true c.protocol-item.is (sym c.is_protocol.ensures ∙ w.if-is_protocol.true) c.loop-protocol.invariant.counted w.count-is;
    few = omega arith;
  }
  | else-is_protocol w ↦ record {
    counted = viewed_not _ _ _ _ _ _ _ c.loop-protocol-test.true c.protocol-item.is (sym c.is_protocol.ensures ∙ w.if-is_protocol.false) c.loop-protocol.invariant.counted w.count-is;
    few = omega arith;
  }
]

pub returns : goal.returns
returns g c = c.loop-protocol.invariant.counted ∙ counted_all _ _ _ _ c.loop-protocol-test.false
