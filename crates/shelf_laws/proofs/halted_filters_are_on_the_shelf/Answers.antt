use Rattle.shelf_laws.proofs.Rested.{each_is_on_shelf}
use Rattle.shelf_laws.proofs.halted_filters_are_on_the_shelf.Goals as goal

pub returns : goal.returns
returns c = each_is_on_shelf
