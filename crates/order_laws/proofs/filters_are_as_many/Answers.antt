use Rattle.order_laws.proofs.Attached.{each_is_as_many}
use Rattle.order_laws.proofs.filters_are_as_many.Goals as goal

pub returns : goal.returns
returns c = each_is_as_many
