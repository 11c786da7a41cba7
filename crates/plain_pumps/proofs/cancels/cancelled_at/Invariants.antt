use Rattle.std.proofs.Common.{◌≡◌, filter}
use Rattle.stack_rules.specs.Cancels.{is_named}
use Rattle.plain_pumps.proofs.cancels.cancelled_at.Given as goal

abbrev pub invariant-loop-l : goal.invariant-loop-l
invariant-loop-l l = l.named.items ≡ filter (is_named l.id) l.yielded
