use Rattle.std.proofs.Common.{arith, sym, ◌∙◌}
use Rattle.driver_choice.proofs.Choice.{counted_yes, counted_not}
use Rattle.driver_choice.proofs.choosing.count_bindings.Goals as goal
use Rattle.driver_choice.proofs.choosing.count_bindings.Goals.{then-is_for, else-is_for}

pub loop-setup-preserved : goal.loop-setup-preserved
loop-setup-preserved c = elim c.if-is_for.branch [
  | then-is_for w ↦ record {
    counted = counted_yes _ _ _ _ _ _ c.loop-setup-test.true (sym c.is_for.ensures ∙ w.if-is_for.true) c.loop-setup.invariant.counted w.count-is;
    few = omega arith;
  }
  | else-is_for w ↦ record {
    counted = counted_not _ _ _ _ _ _ c.loop-setup-test.true (sym c.is_for.ensures ∙ w.if-is_for.false) c.loop-setup.invariant.counted w.count-is;
    few = omega arith;
  }
]
