use Rattle.std.proofs.Common.{◌≡◌, drop, find}
use Rattle.stack_rules.specs.Net.{lists}
use Rattle.stack_rules.specs.Crosses.{is_in_message}
use Rattle.plain_crosses.proofs.crosses.list_in_message.Given as goal

abbrev pub invariant-loop-t : goal.invariant-loop-t
invariant-loop-t l = find (λ x. is_in_message l.n x.crossed) (lists l.things) ≡ find (λ x. is_in_message l.n x.crossed) (lists (drop l.t-index l.things))
