use Rattle.std.proofs.Common.{rules}
use Rattle.lane_orders.proofs.Moves.{in_order, left_at_first}
use Rattle.lane_orders.proofs.orders.in_order.Goals as goal

pub push_all-requires-clause-left : goal.push_all-requires-clause-left
push_all-requires-clause-left c = left_at_first c.args.lanes _ _ (search rules) c.requires

pub returns : goal.returns
returns c = in_order c.args.lanes c.args.order.now c.args.calls.now c.as_mut_slice.result.now c.in_ok-made.made.items _ (search rules) (search rules) c.in_ok-push_all.ensures
