use Rattle.std.proofs.Common.{◌≤◌, ◌<◌, ap, sym, subst, arith, length, slice_index_or}
use Rattle.halt_work.specs.Halted.{AreNumbers}
use Rattle.halt_work.proofs.Wrote.{detached_on, none_detached, order_kept, room_kept, number_at}
use Rattle.halt_work.proofs.rows.+write_detached.Goals as goal

pub returns-then-from-order : goal.returns-then-from-order
returns-then-from-order t c =
    let same = ap length c.order-order.ensures in
    let past : length c.args.tray.now.net.modules.order ≤ c.args.from = omega (arith, c.if-from-order.true, same) in
    none_detached c.args.tray.now c.args.from past

pub write_phase-requires-clause-filter : goal.write_phase-requires-clause-filter
write_phase-requires-clause-filter t c =
    let same = ap length c.order-order.ensures in
    let within : c.args.from < length c.args.tray.now.net.modules.order = omega (arith, c.if-from-order.false, same) in
    number_at c.args.tray.now.net.modules.order c.args.from _ c.requires.numbers within (ap (λ fs. slice_index_or fs c.args.from 0) c.order-order.ensures)

pub write_phase-requires-clause-room : goal.write_phase-requires-clause-room
write_phase-requires-clause-room t c =
    let same = ap length c.order-order.ensures in
    let within : c.args.from < length c.args.tray.now.net.modules.order = omega (arith, c.if-from-order.false, same) in
    let room = c.requires.room in
    omega (arith, within, room)

pub write_detached-requires : goal.write_detached-requires
write_detached-requires t c =
    let same = ap length c.order-order.ensures in
    let within : c.args.from < length c.args.tray.now.net.modules.order = omega (arith, c.if-from-order.false, same) in
    let kept = order_kept c.args.tray.now _ _ c.write_phase.ensures in
    let long = ap length kept in (
      omega (arith, within, long),
      (subst AreNumbers (sym kept) c.requires.numbers, (omega (arith, within, long), room_kept c.args.tray.now _ _ c.args.from within c.requires.room c.write_phase.ensures)),
    )

pub returns : goal.returns
returns t c =
    let same = ap length c.order-order.ensures in
    let within : c.args.from < length c.args.tray.now.net.modules.order = omega (arith, c.if-from-order.false, same) in
    detached_on c.args.tray.now _ _ c.args.from _ within (ap (λ fs. slice_index_or fs c.args.from 0) c.order-order.ensures) c.write_phase.ensures c.write_detached.ensures
