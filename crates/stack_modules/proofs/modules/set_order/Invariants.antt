use Rattle.std.proofs.Common.{◌≡◌, take}
use Rattle.std.specs.Vec.{vec_capacity, vec_len}
use Rattle.stack_modules.proofs.modules.set_order.Given as goal

abbrev pub invariant-loop-f : goal.invariant-loop-f
invariant-loop-f l = (l.order.items ≡ take l.f-index l.filters) × ((vec_len l.order ≡ l.f-index) × (vec_capacity l.order ≡ vec_capacity l.initial.order))
