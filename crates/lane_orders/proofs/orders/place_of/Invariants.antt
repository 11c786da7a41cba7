use Rattle.std.proofs.Common.{◌≡◌, ◌≤◌, ◌-◌, length, drop}
use Rattle.lane_orders.specs.Orders.{calls_of}
use Rattle.lane_orders.proofs.orders.place_of.Given as goal

abbrev pub invariant-loop-at : goal.invariant-loop-at
invariant-loop-at l = record {
  within : l.at ≤ length l.calls;
  first : calls_of l.lane (drop l.at l.calls) ≡ calls_of l.lane (drop l.from l.calls);
}

abbrev pub decreases-loop-at : goal.decreases-loop-at
decreases-loop-at l = length l.calls - l.at
