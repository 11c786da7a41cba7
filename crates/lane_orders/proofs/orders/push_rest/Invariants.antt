use Rattle.std.proofs.Common.{◌≡◌, ◌++◌, map, take, drop}
use Rattle.lane_orders.specs.Orders.{calls_of}
use Rattle.lane_orders.proofs.orders.push_rest.Given as goal

abbrev pub invariant-loop-call : goal.invariant-loop-call
invariant-loop-call l =
    map (λ c. c.now) l.made.items ≡ map (λ c. c.now) l.initial.made.items ++ calls_of l.lane (take l.call-index (drop l.next l.calls))
