use Rattle.std.proofs.Common.{length}
use Rattle.plain_programs.proofs.rules.+applied_items.Given as goal

abbrev pub decreases-applied_items : goal.decreases-applied_items
decreases-applied_items l = length l.frames.now
