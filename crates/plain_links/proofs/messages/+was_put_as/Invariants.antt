use Rattle.std.proofs.Common.{length}
use Rattle.plain_links.proofs.messages.+was_put_as.Given as goal

abbrev pub decreases-was_put_as : goal.decreases-was_put_as
decreases-was_put_as l = length l.journals.now
