use Rattle.std.proofs.Common.{◌-◌}
use Rattle.delivery_work.proofs.taking.+next_taker.Given as goal

abbrev pub decreases-next_taker : goal.decreases-next_taker
decreases-next_taker l = l.many - l.from
