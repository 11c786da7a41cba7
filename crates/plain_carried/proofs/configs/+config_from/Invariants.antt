use Rattle.std.proofs.Common.{length}
use Rattle.plain_carried.proofs.configs.+config_from.Given as goal

abbrev pub decreases-config_from : goal.decreases-config_from
decreases-config_from l = length l.turns.now
