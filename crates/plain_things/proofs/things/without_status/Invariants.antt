use Rattle.std.proofs.Common.{◌≡◌, not, filter}
use Rattle.stack_rules.specs.Net.{is_status}
use Rattle.plain_things.proofs.things.without_status.Given as goal

abbrev pub invariant-loop-t : goal.invariant-loop-t
invariant-loop-t l = l.after.items ≡ filter (λ t. not (is_status l.n t)) l.yielded
