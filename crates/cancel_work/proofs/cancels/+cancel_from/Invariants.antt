use Rattle.std.proofs.Common.{◌-◌}
use Rattle.cancel_work.proofs.cancels.+cancel_from.Given as goal

abbrev pub decreases-cancel_from : goal.decreases-cancel_from
decreases-cancel_from g l = l.count - l.index
