use Rattle.std.proofs.Common.{rules}
use Rattle.lane_orders.proofs.Moves.{adds_lane}
use Rattle.lane_orders.proofs.orders.push_lanes.Goals as goal

pub loop-lane-preserved : goal.loop-lane-preserved
loop-lane-preserved c = record {
  made = λ rest h. adds_lane c.args.calls.now c.args.nexts.now _ _ _ c.loop-lane.lane _ rest (search rules) (search rules) c.in_ok-push_rest.ensures h (c.loop-lane.invariant.made rest h);
}
