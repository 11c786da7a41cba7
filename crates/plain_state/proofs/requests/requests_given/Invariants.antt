use Rattle.std.proofs.Common.{◌≡◌, map}
use Rattle.stack_rules.specs.Net.{given_to}
use Rattle.plain_state.proofs.requests.requests_given.Given as goal

abbrev pub invariant-loop-r : goal.invariant-loop-r
invariant-loop-r l = l.after.items ≡ map (given_to l.n l.m) l.yielded
