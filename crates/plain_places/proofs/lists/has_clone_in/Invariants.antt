use Rattle.std.proofs.Common.{◌≡◌, drop}
use Rattle.std.specs.List.{list_any}
use Rattle.stack_rules.specs.Net.{lists}
use Rattle.stack_rules.specs.Places.{is_clone_of}
use Rattle.plain_places.proofs.lists.has_clone_in.Given as goal

abbrev pub invariant-loop-t : goal.invariant-loop-t
invariant-loop-t l = list_any (λ x. is_clone_of l.n x.origin) (lists l.things) ≡ list_any (λ x. is_clone_of l.n x.origin) (lists (drop l.t-index l.things))
