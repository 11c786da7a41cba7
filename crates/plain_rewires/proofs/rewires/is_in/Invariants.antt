use Rattle.std.proofs.Common.{◌≡◌, drop}
use Rattle.stack_rules.specs.Rewires.{is_in}
use Rattle.plain_rewires.proofs.rewires.is_in.Given as goal

abbrev pub invariant-loop-g : goal.invariant-loop-g
invariant-loop-g l = is_in l.f l.order ≡ is_in l.f (drop l.g-index l.order)
