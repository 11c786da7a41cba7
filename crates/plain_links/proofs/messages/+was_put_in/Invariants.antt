use Rattle.std.proofs.Common.{length}
use Rattle.plain_links.proofs.messages.+was_put_in.Given as goal

abbrev pub decreases-was_put_in : goal.decreases-was_put_in
decreases-was_put_in l = length l.turns.now
