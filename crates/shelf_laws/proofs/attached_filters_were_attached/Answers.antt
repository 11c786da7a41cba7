use Rattle.shelf_laws.proofs.Was.{each_was}
use Rattle.shelf_laws.proofs.attached_filters_were_attached.Goals as goal

pub returns : goal.returns
returns c = each_was
