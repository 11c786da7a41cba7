use Rattle.std.proofs.Common.{◌≡◌, ◌++◌}
use Rattle.plain_calls.proofs.calls.calls_and.Given as goal

abbrev pub invariant-loop-call : goal.invariant-loop-call
invariant-loop-call l = l.all.items ≡ l.fn.first.items ++ l.yielded
