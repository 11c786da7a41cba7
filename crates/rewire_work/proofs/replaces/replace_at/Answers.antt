use Rattle.std.proofs.Common.{ap, sym, refl, ◌∙◌, arith, map, length, Some, List}
use Rattle.std.proofs.lemmas.List.{length-map}
use Rattle.ndis_base.specs.declared.ModuleId.TheVariants.{Filter}
use Rattle.ndis_base.specs.declared.ModuleState.TheVariants as state
use Rattle.stack_rules.specs.Pauses.{state_row}
use Rattle.stack_rules.specs.Rewires.{swapped}
use Rattle.book_lemmas.specs.Views.{BookView, filter_at, seat_of}
use Rattle.book_parts.specs.Parts.{view_of}
use Rattle.driver_tray.specs.Tray.{TrayView, written}
use Rattle.driver_views.specs.States.{FilterState}
use Rattle.rewire_work.specs.Seated.{declines, set_up, pool_for, attaching}
use Rattle.rewire_work.proofs.Causes.{is_there}
use Rattle.rewire_work.proofs.Fitting.{few_attached, may_attach, driver_there, pool_there}
use Rattle.rewire_work.proofs.Inserted.{is_first}
use Rattle.rewire_work.proofs.MadeToo.{made_replaces, goes_there, goes_empty}
use Rattle.rewire_work.proofs.Orders.{in_below}
use Rattle.rewire_work.proofs.Removed.{is_sitting}
use Rattle.rewire_work.proofs.Sitting.{no_place}
use Rattle.rewire_work.proofs.replaces.replace_at.Goals as goal

pub unreachable-requires : goal.unreachable-requires
unreachable-requires g c =
    let old : BookView = view_of g.M.MiniportCalls.state g.P.ProtocolCalls.state g.F.FilterCalls.state c.args.book.now in
    let sit = is_sitting old c.args.filter c.requires.book c.requires.rest (is_there old.tray.net c.args.filter c.requires.quiet) in
    no_place sit.place (seat_of old.held.seats c.args.filter) (ap (λ ss. seat_of ss c.args.filter) (sym c.as_slice-2.ensures.value) ∙ sym c.place_of.ensures ∙ c.in_default-place_of.is) sit.seat

pub attach_at-requires-clause-place : goal.attach_at-requires-clause-place
attach_at-requires-clause-place g c =
    driver_there g.F.FilterCalls.state c.args.book.now.filters.items (view_of g.M.MiniportCalls.state g.P.ProtocolCalls.state g.F.FilterCalls.state c.args.book.now) c.args.kind c.args.place c.requires.book refl c.requires.place

pub attach_at-requires-clause-may : goal.attach_at-requires-clause-may
attach_at-requires-clause-may g c = may_attach (view_of g.M.MiniportCalls.state g.P.ProtocolCalls.state g.F.FilterCalls.state c.args.book.now) c.args.kind c.args.place c.requires.book c.requires.place

pub seat-requires-clause-place : goal.seat-requires-clause-place
seat-requires-clause-place g c = pool_there (view_of g.M.MiniportCalls.state g.P.ProtocolCalls.state g.F.FilterCalls.state c.args.book.now) c.args.kind c.args.place c.requires.book c.requires.place

pub detach_at-requires-clause-place : goal.detach_at-requires-clause-place
detach_at-requires-clause-place g c =
    goes_there g.F.FilterCalls.state c.attach_at.new.filters.items (view_of g.M.MiniportCalls.state g.P.ProtocolCalls.state g.F.FilterCalls.state c.args.book.now) c.args.filter c.in-Some-place_of.old c.args.place _ c.requires.book c.attach_at.ensures.filters
    (ap (λ ss. seat_of ss c.args.filter) (sym c.as_slice-2.ensures.value) ∙ sym c.place_of.ensures ∙ c.in-Some-place_of.is)

pub detach_at-requires-clause-kept : goal.detach_at-requires-clause-kept
detach_at-requires-clause-kept g c =
    let old : BookView = view_of g.M.MiniportCalls.state g.P.ProtocolCalls.state g.F.FilterCalls.state c.args.book.now in
    goes_empty old c.args.kind c.args.filter c.in-Some-place_of.old c.args.place _ (map g.F.FilterCalls.state c.attach_at.new.filters.items) c.requires.book c.requires.rest (is_first old c.args.kind c.args.place c.requires.book c.requires.place) c.attach_at.ensures.filters
    (ap (λ ss. seat_of ss c.args.filter) (sym c.as_slice-2.ensures.value) ∙ sym c.place_of.ensures ∙ c.in-Some-place_of.is)

pub tell_replaced-requires-clause-few : goal.tell_replaced-requires-clause-few
tell_replaced-requires-clause-few g c = few_attached c.args.book.now.tray.net c.requires.rest

pub write_phase-requires-clause-filter : goal.write_phase-requires-clause-filter
write_phase-requires-clause-filter g c =
    let small = in_below c.args.filter c.args.book.now.tray.net.next.filter c.args.book.now.tray.net.modules.order c.requires.rest.wired.below (is_there c.args.book.now.tray.net c.args.filter c.requires.quiet) in
    let low = c.in-Some.ensures.low in
    let number = c.in-Some.ensures.number in
    omega (arith, small, low, number)

pub write_phase-requires-clause-room : goal.write_phase-requires-clause-room
write_phase-requires-clause-room g c = let rows = c.requires.ready.rows in omega (arith, rows, ap (λ (t : TrayView). t.room.rows) c.tell_replaced.ensures)

pub write_attached-requires-clause-number : goal.write_attached-requires-clause-number
write_attached-requires-clause-number g c = let low = c.in-Some.ensures.low in omega (arith, low)

pub write_attached-requires-clause-room : goal.write_attached-requires-clause-room
write_attached-requires-clause-room g c =
    let rows = c.requires.ready.rows in
    let same = ap (λ (t : TrayView). t.room.rows) (c.write_phase.ensures ∙ ap (λ t. written t (state_row state.Detached (Filter c.args.filter))) c.tell_replaced.ensures) in
    omega (arith, rows, same)

pub write_order-requires-clause-number : goal.write_order-requires-clause-number
write_order-requires-clause-number g c =
    let low = c.in-Some.ensures.config in
    let same = ap (λ (t : TrayView). t.net.modules.config) (c.write_attached.ensures ∙ ap (λ t. attaching t c.in-Some.new) (c.write_phase.ensures ∙ ap (λ t. written t (state_row state.Detached (Filter c.args.filter))) c.tell_replaced.ensures)) in
    omega (arith, low, same)

pub write_order-requires-clause-few : goal.write_order-requires-clause-few
write_order-requires-clause-few g c =
    let few = c.requires.rest.few in
    omega (arith, few, ap length (c.deref.ensures.value ∙ c.in_ok-order.ensures ∙ ap (map (swapped c.args.filter c.in-Some.new)) c.order.ensures), length-map c.args.book.now.tray.net.modules.order (swapped c.args.filter c.in-Some.new))

pub write_order-requires-clause-filters : goal.write_order-requires-clause-filters
write_order-requires-clause-filters g c =
    let few = c.requires.rest.few in
    let filters = c.requires.ready.filters in
    let same = ap (λ (t : TrayView). t.room.filters) (c.write_attached.ensures ∙ ap (λ t. attaching t c.in-Some.new) (c.write_phase.ensures ∙ ap (λ t. written t (state_row state.Detached (Filter c.args.filter))) c.tell_replaced.ensures)) in
    omega (arith, few, filters, same, ap length (c.deref.ensures.value ∙ c.in_ok-order.ensures ∙ ap (map (swapped c.args.filter c.in-Some.new)) c.order.ensures), length-map c.args.book.now.tray.net.modules.order (swapped c.args.filter c.in-Some.new))

pub write_order-requires-clause-room : goal.write_order-requires-clause-room
write_order-requires-clause-room g c =
    let rows = c.requires.ready.rows in
    let same = ap (λ (t : TrayView). t.room.rows) (c.write_attached.ensures ∙ ap (λ t. attaching t c.in-Some.new) (c.write_phase.ensures ∙ ap (λ t. written t (state_row state.Detached (Filter c.args.filter))) c.tell_replaced.ensures)) in
    omega (arith, rows, same)

pub returns-in-Ok-clause-done : goal.returns-in-Ok-clause-done
returns-in-Ok-clause-done g c =
    let old : BookView = view_of g.M.MiniportCalls.state g.P.ProtocolCalls.state g.F.FilterCalls.state c.args.book.now in
    let copy_is = c.in_ok-copy.ensures ∙ c.setup.ensures in
    made_replaces old c.args.kind _ c.args.place c.args.filter c.in-Some-place_of.old c.in-Some.new c.tell_replaced.new.self c.write_phase.new.self c.write_attached.new.tray c.write_order.new.tray c.deref.result.now
    (map g.F.FilterCalls.state c.attach_at.new.filters.items) (map g.F.FilterCalls.state c.detach_at.new.filters.items) c.seat.new.pools.items c.seat.new.seats.items c.rise.new.seats.items c.take_off.new.shelf.items c.rise.new.shelf.items c.in_ok-pool.pool
    c.in-Some.ensures.number (ap (λ ss. seat_of ss c.in-Some.new) (sym c.as_slice.ensures.value) ∙ c.in-Some.ensures.free)
    (ap (λ ss. seat_of ss c.args.filter) (sym c.as_slice-2.ensures.value) ∙ sym c.place_of.ensures ∙ c.in-Some-place_of.is)
    c.tell_replaced.ensures c.write_phase.ensures c.write_attached.ensures c.write_order.ensures
    (c.deref.ensures.value ∙ c.in_ok-order.ensures ∙ ap (map (swapped c.args.filter c.in-Some.new)) c.order.ensures)
    c.attach_at.ensures.filters (c.in-Ok.ensures.attached ∙ ap (set_up (filter_at old.held.filters (Some c.args.place))) copy_is)
    c.seat.ensures.pools (c.in_ok-pool.ensures ∙ ap pool_for copy_is) c.seat.ensures.seats c.take_off.ensures.places c.detach_at.ensures c.rise.ensures.seats c.rise.ensures.shelf

pub returns-in-Err-Refused-clause-done : goal.returns-in-Err-Refused-clause-done
returns-in-Err-Refused-clause-done g c =
    let old : BookView = view_of g.M.MiniportCalls.state g.P.ProtocolCalls.state g.F.FilterCalls.state c.args.book.now in
    declines (filter_at (map g.F.FilterCalls.state c.attach_at.new.filters.items) (Some c.args.place)) refl refl
    (c.in-Err-Refused.ensures.refused c.in-Err-Refused.field-0-is)
    (ap (λ (x : List FilterState). record old.held { filters = x }) c.attach_at.ensures.filters)

pub returns-clause-memory : goal.returns-clause-memory
returns-clause-memory g c =
    let old : BookView = view_of g.M.MiniportCalls.state g.P.ProtocolCalls.state g.F.FilterCalls.state c.args.book.now in
    let of_filters : List FilterState → BookView = λ x. record { tray = old.tray; held = record old.held { filters = x } } in
    ap of_filters (c.in-Err-Memory.ensures.memory c.in-Err-Memory.field-0-is)
