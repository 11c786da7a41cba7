use Rattle.std.proofs.Common.{◌≡◌, drop}
use Rattle.stack_rules.specs.Net.{attached}
use Rattle.stack_modules.proofs.filters.attached.Given as goal

abbrev pub invariant-loop-a : goal.invariant-loop-a
invariant-loop-a l = attached l.f l.entries ≡ attached l.f (drop l.a-index l.entries)
