use Rattle.std.proofs.Common.{rules}
use Rattle.lane_orders.proofs.Moves.{adds_all}
use Rattle.lane_orders.proofs.orders.push_all.Goals as goal

pub returns : goal.returns
returns c = adds_all _ _ _ _ _ _ _ c.requires.left c.in_ok-push_order.ensures (search rules) c.in_ok-push_lanes.ensures
