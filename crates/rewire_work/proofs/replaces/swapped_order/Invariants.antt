use Rattle.std.proofs.Common.{◌≡◌, map, take}
use Rattle.stack_rules.specs.Rewires.{swapped}
use Rattle.rewire_work.proofs.replaces.swapped_order.Given as goal

abbrev pub invariant-loop-f : goal.invariant-loop-f
invariant-loop-f l = l.other.items ≡ map (swapped l.old l.new) (take l.f-index l.order)
