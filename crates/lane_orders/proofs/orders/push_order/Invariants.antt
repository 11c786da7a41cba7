use Rattle.std.proofs.Common.{map, take}
use Rattle.lane_orders.specs.Nexts.{MovesAlong}
use Rattle.lane_orders.proofs.orders.push_order.Given as goal

abbrev pub invariant-loop-lane : goal.invariant-loop-lane
invariant-loop-lane l =
    MovesAlong l.calls (take l.lane-index l.order) l.initial.nexts (map (λ c. c.now) l.initial.made.items) l.nexts (map (λ c. c.now) l.made.items)
