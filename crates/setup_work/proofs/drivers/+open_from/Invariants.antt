use Rattle.std.proofs.Common.{◌-◌, length}
use Rattle.setup_work.proofs.drivers.+open_from.Given as goal

abbrev pub decreases-open_from : goal.decreases-open_from
decreases-open_from g l = length l.protocols.now.items - l.from
