use Rattle.std.proofs.Common.{◌≡◌, ◌++◌}
use Rattle.plain_calls.proofs.logs.log_and.Given as goal

abbrev pub invariant-loop-frames : goal.invariant-loop-frames
invariant-loop-frames l = l.all.items ≡ l.fn.first.items ++ l.yielded
