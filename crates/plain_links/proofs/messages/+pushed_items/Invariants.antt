use Rattle.std.proofs.Common.{length}
use Rattle.plain_links.proofs.messages.+pushed_items.Given as goal

abbrev pub decreases-pushed_items : goal.decreases-pushed_items
decreases-pushed_items l = length l.frames.now
