use Rattle.std.proofs.Common.{◌-◌, length}
use Rattle.halt_work.proofs.rows.+write_detached.Given as goal

abbrev pub decreases-write_detached : goal.decreases-write_detached
decreases-write_detached l = length l.tray.now.net.modules.order - l.from
