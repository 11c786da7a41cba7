use Rattle.std.proofs.Common.{rules}
use Rattle.lane_orders.proofs.Moves.{along_more}
use Rattle.lane_orders.proofs.orders.push_order.Goals as goal

pub loop-lane-preserved : goal.loop-lane-preserved
loop-lane-preserved c = along_more _ _ c.loop-lane.lane-index 0 _ _ _ _ _ _ (search rules) c.loop-lane.invariant c.in_ok-push_next.ensures
