use Rattle.std.proofs.Common.{◌≡◌, ◌++◌, List, map}
use Rattle.script_types.specs.declared.Call.{Call}
use Rattle.lane_orders.specs.Orders.{lane_by_lane}
use Rattle.lane_orders.specs.Nexts.{Leaves}
use Rattle.lane_orders.proofs.orders.push_lanes.Given as goal

abbrev pub invariant-loop-lane : goal.invariant-loop-lane
invariant-loop-lane l = record {
  made : (rest : List Call) → Leaves l.calls l.nexts rest → map (λ c. c.now) l.made.items ≡ map (λ c. c.now) l.initial.made.items ++ lane_by_lane l.lane rest;
}
