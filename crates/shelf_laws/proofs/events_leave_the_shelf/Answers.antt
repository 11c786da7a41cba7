use Rattle.shelf_laws.proofs.Leaving.{each_leaves}
use Rattle.shelf_laws.proofs.events_leave_the_shelf.Goals as goal

pub returns : goal.returns
returns c = each_leaves
