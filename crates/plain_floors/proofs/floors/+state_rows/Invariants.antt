use Rattle.std.proofs.Common.{length}
use Rattle.plain_floors.proofs.floors.+state_rows.Given as goal

abbrev pub decreases-state_rows : goal.decreases-state_rows
decreases-state_rows l = length l.modules.now
