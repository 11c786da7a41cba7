use Rattle.std.proofs.Common.{◌≡◌, ◌++◌, drop, filter}
use Rattle.stack_rules.specs.Net.{lists}
use Rattle.stack_rules.specs.Places.{is_kept_by}
use Rattle.plain_places.proofs.lists.kept_in.Given as goal

abbrev pub invariant-loop-t : goal.invariant-loop-t
invariant-loop-t l = filter (λ x. is_kept_by l.m x.stand) (lists l.things) ≡ l.kept.items ++ filter (λ x. is_kept_by l.m x.stand) (lists (drop l.t-index l.things))
