use Rattle.std.proofs.Common.{length}
use Rattle.plain_links.proofs.links.+are_linked_from.Given as goal

abbrev pub decreases-are_linked_from : goal.decreases-are_linked_from
decreases-are_linked_from l = length l.others.now
