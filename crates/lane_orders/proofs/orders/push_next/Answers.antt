use Rattle.std.proofs.Common.{rules}
use Rattle.lane_orders.proofs.Moves.{stays_past, stays_done, moves_made, map_pushed}
use Rattle.lane_orders.proofs.orders.push_next.Goals as goal

pub returns-then-lane-nexts : goal.returns-then-lane-nexts
returns-then-lane-nexts c = stays_past _ _ _ _ c.requires (search rules)

pub returns-in_ok-push : goal.returns-in_ok-push
returns-in_ok-push c = moves_made _ _ _ _ _ c.place_of-at.result _ c.index-calls-at.result c.requires (search rules) (search rules) (search rules) c.place_of-at.ensures.first (search rules) (c.place_of-at.ensures.own c.index-calls-at.result (search rules)) (map_pushed _ _ _ c.in_ok-push.ensures.items)

pub returns-else-at-calls : goal.returns-else-at-calls
returns-else-at-calls c = stays_done _ _ _ _ c.place_of-at.result _ c.requires (search rules) (search rules) (search rules) c.place_of-at.ensures.first
