use Rattle.std.proofs.Common.{length}
use Rattle.plain_links.proofs.messages.+leaves_journal.Given as goal

abbrev pub decreases-leaves_journal : goal.decreases-leaves_journal
decreases-leaves_journal l = length l.turns.now
