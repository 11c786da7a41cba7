use Rattle.std.proofs.Common.{◌≡◌, filter}
use Rattle.stack_rules.specs.Targets.{has_receive}
use Rattle.plain_receives.proofs.receives.receiving_from_below.Given as goal

abbrev pub invariant-loop-f : goal.invariant-loop-f
invariant-loop-f l = l.filters.items ≡ filter (has_receive l.net.modules) l.yielded
