use Rattle.std.proofs.Common.{ap, arith, length}
use Rattle.setup_work.proofs.Positions.{filter_below_at, top_below}
use Rattle.setup_work.proofs.floors.floor_at.Goals as goal

pub returns-then-from_below-order-clause-modules : goal.returns-then-from_below-order-clause-modules
returns-then-from_below-order-clause-modules c =
    top_below c.args.tray.now.net.modules c.args.from_below c.args.bindings c.requires.within (omega (arith, c.if-from_below-order.true, ap length c.order-order.ensures)) c.requires.bindings

pub returns-clause-modules : goal.returns-clause-modules
returns-clause-modules c =
    filter_below_at c.args.tray.now.net.modules c.order-order.result.now c.args.from_below c.order-order.ensures c.requires.within (omega (arith, c.if-from_below-eq0.false)) (omega (arith, c.if-from_below-order.false))
