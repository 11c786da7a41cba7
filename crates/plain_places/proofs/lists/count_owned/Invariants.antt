use Rattle.std.proofs.Common.{◌≡◌, ◌≤◌, ◌+◌, drop, count_by}
use Rattle.stack_rules.specs.Net.{lists}
use Rattle.stack_rules.specs.Tests.{same_module}
use Rattle.plain_places.proofs.lists.count_owned.Given as goal

abbrev pub invariant-loop-t : goal.invariant-loop-t
invariant-loop-t l = (count_by (λ x. same_module x.owner l.m) (lists l.things) ≡ l.n + count_by (λ x. same_module x.owner l.m) (lists (drop l.t-index l.things))) × (l.n ≤ l.t-index)
