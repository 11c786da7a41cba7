use Rattle.std.proofs.Common.{◌≡◌, ◌+◌, drop}
use Rattle.stack_rules.specs.Places.{above}
use Rattle.stack_modules.proofs.pairs.above.Given as goal

abbrev pub invariant-loop-i : goal.invariant-loop-i
invariant-loop-i l = above l.f l.order ≡ l.i + above l.f (drop l.i l.order)
