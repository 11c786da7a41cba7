use Rattle.std.proofs.Common.{◌-◌, length}
use Rattle.halt_work.proofs.drivers.+close_from.Given as goal

abbrev pub decreases-close_from : goal.decreases-close_from
decreases-close_from g l = length l.protocols.now.items - l.from
