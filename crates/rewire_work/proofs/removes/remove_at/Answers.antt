use Rattle.std.proofs.Common.{◌<◌, ap, sym, subst, ◌∙◌, arith, map, length}
use Rattle.std.proofs.lemmas.List.{length-map}
use Rattle.order_laws.proofs.Lists.{length-but}
use Rattle.book_lemmas.specs.Views.{BookView, seat_of}
use Rattle.book_parts.specs.Parts.{view_of}
use Rattle.driver_tray.specs.Tray.{TrayView}
use Rattle.rewire_work.proofs.Made.{made_removes}
use Rattle.rewire_work.proofs.Orders.{in_below}
use Rattle.rewire_work.proofs.Removed.{is_sitting, keeps_none}
use Rattle.rewire_work.proofs.Sitting.{no_place}
use Rattle.rewire_work.proofs.removes.remove_at.Goals as goal

pub unreachable-requires : goal.unreachable-requires
unreachable-requires g c =
    let old : BookView = view_of g.M.MiniportCalls.state g.P.ProtocolCalls.state g.F.FilterCalls.state c.args.book.now in
    let sit = is_sitting old c.args.f c.requires.book c.requires.rest c.requires.there in
    no_place sit.place (seat_of old.held.seats c.args.f) (ap (λ ss. seat_of ss c.args.f) (sym c.as_slice.ensures.value) ∙ sym c.place_of.ensures ∙ c.in_default.is) sit.seat

pub detach_at-requires-clause-place : goal.detach_at-requires-clause-place
detach_at-requires-clause-place g c =
    subst (λ n. c.in-Some.place < n) (length-map c.args.book.now.filters.items g.F.FilterCalls.state)
    (c.requires.book.stands.places c.args.f c.in-Some.place (ap (λ ss. seat_of ss c.args.f) (sym c.as_slice.ensures.value) ∙ sym c.place_of.ensures ∙ c.in-Some.is)).driver

pub detach_at-requires-clause-kept : goal.detach_at-requires-clause-kept
detach_at-requires-clause-kept g c =
    keeps_none (view_of g.M.MiniportCalls.state g.P.ProtocolCalls.state g.F.FilterCalls.state c.args.book.now) c.args.f c.in-Some.place c.requires.book c.requires.rest
    (ap (λ ss. seat_of ss c.args.f) (sym c.as_slice.ensures.value) ∙ sym c.place_of.ensures ∙ c.in-Some.is)

pub write_phase-requires-clause-filter : goal.write_phase-requires-clause-filter
write_phase-requires-clause-filter g c =
    let small = in_below c.args.f c.args.book.now.tray.net.next.filter c.args.book.now.tray.net.modules.order c.requires.rest.wired.below c.requires.there in
    let low = c.requires.filter in
    omega (arith, small, low)

pub write_phase-requires-clause-room : goal.write_phase-requires-clause-room
write_phase-requires-clause-room g c = let rows = c.requires.ready.rows in omega (arith, rows)

pub write_order-requires-clause-number : goal.write_order-requires-clause-number
write_order-requires-clause-number g c =
    let same = ap (λ (t : TrayView). t.net.modules.config) c.write_phase.ensures in
    let low = c.requires.config in
    omega (arith, same, low)

pub write_order-requires-clause-few : goal.write_order-requires-clause-few
write_order-requires-clause-few g c =
    let few = c.requires.rest.few in
    omega (arith, few, ap length c.requires.order, length-but c.args.f c.args.book.now.tray.net.modules.order)

pub write_order-requires-clause-filters : goal.write_order-requires-clause-filters
write_order-requires-clause-filters g c =
    let few = c.requires.rest.few in
    let filters = c.requires.ready.filters in
    let same = ap (λ (t : TrayView). t.room.filters) c.write_phase.ensures in
    omega (arith, few, filters, same, ap length c.requires.order, length-but c.args.f c.args.book.now.tray.net.modules.order)

pub write_order-requires-clause-room : goal.write_order-requires-clause-room
write_order-requires-clause-room g c =
    let rows = c.requires.ready.rows in
    let same = ap (λ (t : TrayView). t.room.rows) c.write_phase.ensures in
    omega (arith, rows, same)

pub returns : goal.returns
returns g c =
    let old : BookView = view_of g.M.MiniportCalls.state g.P.ProtocolCalls.state g.F.FilterCalls.state c.args.book.now in
    made_removes old c.args.f c.in-Some.place c.write_phase.new.self c.write_order.new.tray c.args.order.now (map g.F.FilterCalls.state c.detach_at.new.filters.items) c.rise.new.seats.items c.rise.new.shelf.items
    (ap (λ ss. seat_of ss c.args.f) (sym c.as_slice.ensures.value) ∙ sym c.place_of.ensures ∙ c.in-Some.is) c.write_phase.ensures c.write_order.ensures c.requires.order c.detach_at.ensures c.rise.ensures.seats c.rise.ensures.shelf
