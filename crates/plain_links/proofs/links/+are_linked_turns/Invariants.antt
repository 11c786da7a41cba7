use Rattle.std.proofs.Common.{length}
use Rattle.plain_links.proofs.links.+are_linked_turns.Given as goal

abbrev pub decreases-are_linked_turns : goal.decreases-are_linked_turns
decreases-are_linked_turns l = length l.turns.now
