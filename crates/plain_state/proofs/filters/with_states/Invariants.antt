use Rattle.std.proofs.Common.{◌≡◌, map}
use Rattle.stack_rules.specs.Net.{with_state}
use Rattle.plain_state.proofs.filters.with_states.Given as goal

abbrev pub invariant-loop-a : goal.invariant-loop-a
invariant-loop-a l = l.after.items ≡ map (with_state l.f l.s) l.yielded
