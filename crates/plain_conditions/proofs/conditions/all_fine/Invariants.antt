use Rattle.std.proofs.Common.{◌≡◌, drop}
use Rattle.std.specs.List.{list_all}
use Rattle.stack_rules.specs.Conditions.{is_fine_test}
use Rattle.plain_conditions.proofs.conditions.all_fine.Given as goal

abbrev pub invariant-loop-r : goal.invariant-loop-r
invariant-loop-r l = list_all (λ r. is_fine_test r.test) l.rules ≡ list_all (λ r. is_fine_test r.test) (drop l.r-index l.rules)
