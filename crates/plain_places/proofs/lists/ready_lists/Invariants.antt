use Rattle.std.proofs.Common.{◌≡◌, not, filter}
use Rattle.stack_rules.specs.Places.{is_waiting}
use Rattle.plain_places.proofs.lists.ready_lists.Given as goal

abbrev pub invariant-loop-l : goal.invariant-loop-l
invariant-loop-l l = l.ready.items ≡ filter (λ x. not (is_waiting l.net x)) l.yielded
