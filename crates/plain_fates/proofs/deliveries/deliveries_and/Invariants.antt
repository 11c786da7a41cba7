use Rattle.std.proofs.Common.{◌≡◌, ◌++◌}
use Rattle.plain_fates.proofs.deliveries.deliveries_and.Given as goal

abbrev pub invariant-loop-delivery : goal.invariant-loop-delivery
invariant-loop-delivery l = l.all.items ≡ l.fn.first.items ++ l.yielded
