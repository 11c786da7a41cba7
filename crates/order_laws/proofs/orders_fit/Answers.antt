use Rattle.order_laws.proofs.Bounds.{each_order_fits}
use Rattle.order_laws.proofs.orders_fit.Goals as goal

pub returns : goal.returns
returns c = each_order_fits
