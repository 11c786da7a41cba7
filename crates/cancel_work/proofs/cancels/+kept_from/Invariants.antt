use Rattle.std.proofs.Common.{◌-◌}
use Rattle.cancel_work.proofs.cancels.+kept_from.Given as goal

abbrev pub decreases-kept_from : goal.decreases-kept_from
decreases-kept_from g l = l.count - l.index
