use Rattle.std.proofs.Common.{◌≡◌, not, filter}
use Rattle.stack_rules.specs.Net.{is_answer_to}
use Rattle.plain_things.proofs.things.without_answers.Given as goal

abbrev pub invariant-loop-t : goal.invariant-loop-t
invariant-loop-t l = l.after.items ≡ filter (λ t. not (is_answer_to l.parent t)) l.yielded
