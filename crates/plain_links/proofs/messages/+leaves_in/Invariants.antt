use Rattle.std.proofs.Common.{length}
use Rattle.plain_links.proofs.messages.+leaves_in.Given as goal

abbrev pub decreases-leaves_in : goal.decreases-leaves_in
decreases-leaves_in l = length l.rows.now
