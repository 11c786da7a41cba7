use Rattle.std.proofs.Common.{length}
use Rattle.plain_carried.proofs.configs.+config_in_rows.Given as goal

abbrev pub decreases-config_in_rows : goal.decreases-config_in_rows
decreases-config_in_rows l = length l.rows.now
