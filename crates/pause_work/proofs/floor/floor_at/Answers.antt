use Rattle.std.proofs.Common.{◌≤◌, ◌<◌, ◌-◌, ◌^◌, length, slice_index_or, sym, ap, subst, arith}
use Rattle.pause_work.specs.declared.floor.Floor.TheVariants as floor
use Rattle.pause_work.specs.Positions.{IsAt}
use Rattle.pause_work.proofs.Places.{at_bindings, at_filter}
use Rattle.pause_work.proofs.floor.floor_at.Goals as goal

pub returns-then-position-eq0 : goal.returns-then-position-eq0
returns-then-position-eq0 c =
    let ms = c.args.tray.now.net.modules in
    subst (λ i. IsAt ms i (floor.Bindings c.args.bindings)) (sym c.if-position-eq0.true) (at_bindings ms c.args.bindings c.requires.bindings)

pub returns-then-position-order : goal.returns-then-position-order
returns-then-position-order c =
    let ms = c.args.tray.now.net.modules in
    let small : c.args.tray.now.net.next.filter < 2 ^ 64 = omega (arith, c.next_filter-next.ensures) in
    let within : c.args.position ≤ length ms.order = omega (arith, ap length c.order-order.ensures, c.if-position-order.true) in
    at_filter ms c.args.position _ c.args.tray.now.net.next.filter c.requires.below small c.if-position-eq0.false within
    (ap (λ xs. slice_index_or xs (c.args.position - 1) 0) c.order-order.ensures)
