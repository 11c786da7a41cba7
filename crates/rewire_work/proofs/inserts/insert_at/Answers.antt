use Rattle.std.proofs.Common.{◌+◌, ◌-◌, ◌≤◌, ap, sym, subst, refl, ◌∙◌, arith, map, length}
use Rattle.std.specs.List.{insert}
use Rattle.book_lemmas.specs.Views.{BookView, filter_at, seat_of}
use Rattle.book_parts.specs.Parts.{view_of}
use Rattle.driver_tray.specs.Tray.{TrayView}
use Rattle.driver_views.specs.States.{FilterState}
use Rattle.std.proofs.Common.{Some, List}
use Rattle.rewire_work.specs.Seated.{balks, set_up, pool_for, attaching}
use Rattle.rewire_work.proofs.Fitting.{position_above, position_within, longer_fits, few_attached, may_attach, driver_there, pool_there}
use Rattle.rewire_work.proofs.Made.{made_inserts}
use Rattle.rewire_work.proofs.inserts.insert_at.Goals as goal

pub longer_order-requires-clause-above : goal.longer_order-requires-clause-above
longer_order-requires-clause-above g c = position_above c.args.book.now.tray.net c.args.position c.requires.quiet

pub longer_order-requires-clause-within : goal.longer_order-requires-clause-within
longer_order-requires-clause-within g c = subst (λ xs. c.args.position ≤ length xs + 1) (sym c.order.ensures) (position_within c.args.book.now.tray.net c.args.position c.requires.quiet)

pub attach_at-requires-clause-place : goal.attach_at-requires-clause-place
attach_at-requires-clause-place g c =
    driver_there g.F.FilterCalls.state c.args.book.now.filters.items (view_of g.M.MiniportCalls.state g.P.ProtocolCalls.state g.F.FilterCalls.state c.args.book.now) c.args.kind c.args.place c.requires.book refl c.requires.place

pub attach_at-requires-clause-may : goal.attach_at-requires-clause-may
attach_at-requires-clause-may g c = may_attach (view_of g.M.MiniportCalls.state g.P.ProtocolCalls.state g.F.FilterCalls.state c.args.book.now) c.args.kind c.args.place c.requires.book c.requires.place

pub seat-requires-clause-place : goal.seat-requires-clause-place
seat-requires-clause-place g c = pool_there (view_of g.M.MiniportCalls.state g.P.ProtocolCalls.state g.F.FilterCalls.state c.args.book.now) c.args.kind c.args.place c.requires.book c.requires.place

pub tell_inserted-requires-clause-few : goal.tell_inserted-requires-clause-few
tell_inserted-requires-clause-few g c = few_attached c.args.book.now.tray.net c.requires.rest

pub write_attached-requires-clause-number : goal.write_attached-requires-clause-number
write_attached-requires-clause-number g c = let low = c.in-Some.ensures.low in omega (arith, low)

pub write_attached-requires-clause-room : goal.write_attached-requires-clause-room
write_attached-requires-clause-room g c = let rows = c.requires.ready.rows in omega (arith, rows, ap (λ (t : TrayView). t.room.rows) c.tell_inserted.ensures)

pub write_order-requires-clause-number : goal.write_order-requires-clause-number
write_order-requires-clause-number g c =
    let low = c.in-Some.ensures.config in
    let same = ap (λ (t : TrayView). t.net.modules.config) (c.write_attached.ensures ∙ ap (λ t. attaching t c.in-Some.f) c.tell_inserted.ensures) in
    omega (arith, low, same)

pub write_order-requires-clause-few : goal.write_order-requires-clause-few
write_order-requires-clause-few g c =
    longer_fits c.args.book.now.tray.net c.args.position c.in-Some.f c.deref.result.now c.requires.rest c.requires.quiet
    (c.deref.ensures.value ∙ c.in_ok-order.ensures ∙ ap (λ xs. insert xs (c.args.position - 1) c.in-Some.f) c.order.ensures)

pub write_order-requires-clause-filters : goal.write_order-requires-clause-filters
write_order-requires-clause-filters g c =
    let few = longer_fits c.args.book.now.tray.net c.args.position c.in-Some.f c.deref.result.now c.requires.rest c.requires.quiet
    (c.deref.ensures.value ∙ c.in_ok-order.ensures ∙ ap (λ xs. insert xs (c.args.position - 1) c.in-Some.f) c.order.ensures) in
    let same = ap (λ (t : TrayView). t.room.filters) (c.write_attached.ensures ∙ ap (λ t. attaching t c.in-Some.f) c.tell_inserted.ensures) in
    let filters = c.requires.ready.filters in
    omega (arith, few, same, filters)

pub write_order-requires-clause-room : goal.write_order-requires-clause-room
write_order-requires-clause-room g c =
    let same = ap (λ (t : TrayView). t.room.rows) (c.write_attached.ensures ∙ ap (λ t. attaching t c.in-Some.f) c.tell_inserted.ensures) in
    let rows = c.requires.ready.rows in
    omega (arith, same, rows)

pub returns-in-Ok-clause-done : goal.returns-in-Ok-clause-done
returns-in-Ok-clause-done g c =
    let old : BookView = view_of g.M.MiniportCalls.state g.P.ProtocolCalls.state g.F.FilterCalls.state c.args.book.now in
    let copy_is = c.in_ok-copy.ensures ∙ c.setup.ensures in
    made_inserts old c.args.kind c.args.position _ c.args.place c.in-Some.f c.tell_inserted.new.self c.write_attached.new.tray c.write_order.new.tray c.deref.result.now
    (map g.F.FilterCalls.state c.attach_at.new.filters.items) c.seat.new.pools.items c.seat.new.seats.items c.take_off.new.shelf.items c.in_ok-pool.pool
    c.in-Some.ensures.number (ap (λ ss. seat_of ss c.in-Some.f) (sym c.as_slice.ensures.value) ∙ c.in-Some.ensures.free) c.tell_inserted.ensures c.write_attached.ensures c.write_order.ensures
    (c.deref.ensures.value ∙ c.in_ok-order.ensures ∙ ap (λ xs. insert xs (c.args.position - 1) c.in-Some.f) c.order.ensures)
    c.attach_at.ensures.filters (c.in-Ok.ensures.attached ∙ ap (set_up (filter_at old.held.filters (Some c.args.place))) copy_is)
    c.seat.ensures.pools (c.in_ok-pool.ensures ∙ ap pool_for copy_is) c.seat.ensures.seats c.take_off.ensures.places

pub returns-in-Err-Refused-clause-done : goal.returns-in-Err-Refused-clause-done
returns-in-Err-Refused-clause-done g c =
    let old : BookView = view_of g.M.MiniportCalls.state g.P.ProtocolCalls.state g.F.FilterCalls.state c.args.book.now in
    balks (filter_at (map g.F.FilterCalls.state c.attach_at.new.filters.items) (Some c.args.place)) refl refl
    (c.in-Err-Refused.ensures.refused c.in-Err-Refused.field-0-is)
    (ap (λ (x : List FilterState). record old.held { filters = x }) c.attach_at.ensures.filters)

pub returns-clause-memory : goal.returns-clause-memory
returns-clause-memory g c =
    let old : BookView = view_of g.M.MiniportCalls.state g.P.ProtocolCalls.state g.F.FilterCalls.state c.args.book.now in
    let of_filters : List FilterState → BookView = λ x. record { tray = old.tray; held = record old.held { filters = x } } in
    ap of_filters (c.in-Err-Memory.ensures.memory c.in-Err-Memory.field-0-is)
