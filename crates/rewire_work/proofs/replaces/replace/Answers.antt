use Rattle.std.proofs.Common.{[], ap, sym, subst, ◌∙◌, map}
use Rattle.stack_rules.specs.Pauses.{live_items}
use Rattle.book_lemmas.specs.Views.{BookView, hands_of}
use Rattle.book_parts.specs.Parts.{view_of}
use Rattle.book_parts.specs.Events.{IsUnmoved}
use Rattle.driver_tray.specs.Tray.{TrayView}
use Rattle.rewire_work.proofs.Asked.{on_err_any, same_unmoved, mid_setup, found_there}
use Rattle.rewire_work.proofs.AskedThird.{both_unmoved, both_book, both_idle, still_rest, not_replaced, lacks_one, was_replaced}
use Rattle.rewire_work.proofs.Counted.{statuses_counted}
use Rattle.rewire_work.proofs.Done.{if_ok, on_ok, on_err}
use Rattle.rewire_work.proofs.Fitting.{places_there}
use Rattle.rewire_work.proofs.replaces.replace.Goals as goal

pub live_count-requires : goal.live_count-requires
live_count-requires g c =
    let old : BookView = view_of g.M.MiniportCalls.state g.P.ProtocolCalls.state g.F.FilterCalls.state c.args.book.now in
    statuses_counted old.tray.net (hands_of old.tray.queue old.held []) c.requires.book.stands.agrees

pub returns-in_default-clause-memory : goal.returns-in_default-clause-memory
returns-in_default-clause-memory g c = same_unmoved (view_of g.M.MiniportCalls.state g.P.ProtocolCalls.state g.F.FilterCalls.state c.args.book.now) c.requires.book

pub returns-in_err-make_rooms-clause-memory : goal.returns-in_err-make_rooms-clause-memory
returns-in_err-make_rooms-clause-memory g c =
    on_err_any c.from_residual.result _ (both_unmoved (view_of g.M.MiniportCalls.state g.P.ProtocolCalls.state g.F.FilterCalls.state c.args.book.now) c.make_rooms.new.tray c.make_rooms.new.seats.items c.make_rooms.new.shelf.items c.requires.book c.make_rooms.ensures.tray c.make_rooms.ensures.seats c.make_rooms.ensures.shelf)

pub rewire_refusal-requires : goal.rewire_refusal-requires
rewire_refusal-requires g c = c.in-Some.ensures ∙ ap live_items (sym (ap (λ (t : TrayView). t.net) c.make_rooms.ensures.tray.same))

pub returns-in-Some-rewire_refusal-clause-did : goal.returns-in-Some-rewire_refusal-clause-did
returns-in-Some-rewire_refusal-clause-did g c =
    (not_replaced (view_of g.M.MiniportCalls.state g.P.ProtocolCalls.state g.F.FilterCalls.state c.args.book.now) c.make_rooms.new.tray c.make_rooms.new.seats.items c.make_rooms.new.shelf.items c.requires.book c.make_rooms.ensures.tray c.make_rooms.ensures.seats c.make_rooms.ensures.shelf
    c.requires.idle c.in_ok-make_rooms.ensures.ready.turns c.args.filter c.args.kind _ c.in-Some-rewire_refusal.cause (sym c.rewire_refusal.ensures ∙ c.in-Some-rewire_refusal.is)).did

pub returns-in-Some-rewire_refusal-clause-shelf : goal.returns-in-Some-rewire_refusal-clause-shelf
returns-in-Some-rewire_refusal-clause-shelf g c =
    (not_replaced (view_of g.M.MiniportCalls.state g.P.ProtocolCalls.state g.F.FilterCalls.state c.args.book.now) c.make_rooms.new.tray c.make_rooms.new.seats.items c.make_rooms.new.shelf.items c.requires.book c.make_rooms.ensures.tray c.make_rooms.ensures.seats c.make_rooms.ensures.shelf
    c.requires.idle c.in_ok-make_rooms.ensures.ready.turns c.args.filter c.args.kind _ c.in-Some-rewire_refusal.cause (sym c.rewire_refusal.ensures ∙ c.in-Some-rewire_refusal.is)).shelf

pub returns-in-Some-rewire_refusal-clause-turn : goal.returns-in-Some-rewire_refusal-clause-turn
returns-in-Some-rewire_refusal-clause-turn g c = record { room = c.in_ok-make_rooms.ensures.ready.turns }

pub first_of_kind-requires : goal.first_of_kind-requires
first_of_kind-requires g c =
    places_there g.F.FilterCalls.state c.as_slice.result.now c.as_slice-2.result.now (view_of g.M.MiniportCalls.state g.P.ProtocolCalls.state g.F.FilterCalls.state c.args.book.now) c.requires.book
    (ap (map g.F.FilterCalls.state) (sym c.as_slice.ensures.value)) (c.as_slice-2.ensures.value ∙ c.make_rooms.ensures.shelf)

pub returns-in_default-first_of_kind-clause-did : goal.returns-in_default-first_of_kind-clause-did
returns-in_default-first_of_kind-clause-did g c =
    (lacks_one (view_of g.M.MiniportCalls.state g.P.ProtocolCalls.state g.F.FilterCalls.state c.args.book.now) c.make_rooms.new.tray c.make_rooms.new.seats.items c.make_rooms.new.shelf.items c.requires.book c.make_rooms.ensures.tray c.make_rooms.ensures.seats c.make_rooms.ensures.shelf
    c.requires.idle c.in_ok-make_rooms.ensures.ready.turns c.args.filter c.args.kind _ (sym c.rewire_refusal.ensures ∙ c.in_default-rewire_refusal.is)).did

pub returns-in_default-first_of_kind-clause-shelf : goal.returns-in_default-first_of_kind-clause-shelf
returns-in_default-first_of_kind-clause-shelf g c =
    (lacks_one (view_of g.M.MiniportCalls.state g.P.ProtocolCalls.state g.F.FilterCalls.state c.args.book.now) c.make_rooms.new.tray c.make_rooms.new.seats.items c.make_rooms.new.shelf.items c.requires.book c.make_rooms.ensures.tray c.make_rooms.ensures.seats c.make_rooms.ensures.shelf
    c.requires.idle c.in_ok-make_rooms.ensures.ready.turns c.args.filter c.args.kind _ (sym c.rewire_refusal.ensures ∙ c.in_default-rewire_refusal.is)).shelf

pub returns-in_default-first_of_kind-clause-turn : goal.returns-in_default-first_of_kind-clause-turn
returns-in_default-first_of_kind-clause-turn g c = record { room = c.in_ok-make_rooms.ensures.ready.turns }

pub replace_at-requires-clause-book : goal.replace_at-requires-clause-book
replace_at-requires-clause-book g c =
    both_book (view_of g.M.MiniportCalls.state g.P.ProtocolCalls.state g.F.FilterCalls.state c.args.book.now) c.make_rooms.new.tray c.make_rooms.new.seats.items c.make_rooms.new.shelf.items c.requires.book c.make_rooms.ensures.tray c.make_rooms.ensures.seats c.make_rooms.ensures.shelf

pub replace_at-requires-clause-idle : goal.replace_at-requires-clause-idle
replace_at-requires-clause-idle g c =
    both_idle (view_of g.M.MiniportCalls.state g.P.ProtocolCalls.state g.F.FilterCalls.state c.args.book.now) c.make_rooms.new.tray c.make_rooms.new.seats.items c.make_rooms.new.shelf.items c.requires.book c.make_rooms.ensures.tray c.make_rooms.ensures.seats c.make_rooms.ensures.shelf c.requires.idle

pub replace_at-requires-clause-rest : goal.replace_at-requires-clause-rest
replace_at-requires-clause-rest g c =
    still_rest (view_of g.M.MiniportCalls.state g.P.ProtocolCalls.state g.F.FilterCalls.state c.args.book.now) c.make_rooms.new.tray c.make_rooms.new.seats.items c.make_rooms.new.shelf.items c.requires.book c.make_rooms.ensures.tray c.make_rooms.ensures.seats c.make_rooms.ensures.shelf c.requires.idle
    c.args.filter (sym c.rewire_refusal.ensures ∙ c.in_default-rewire_refusal.is)

pub replace_at-requires-clause-ready : goal.replace_at-requires-clause-ready
replace_at-requires-clause-ready g c = c.in_ok-make_rooms.ensures.ready

pub replace_at-requires-clause-seat : goal.replace_at-requires-clause-seat
replace_at-requires-clause-seat g c = c.in_ok-make_rooms.ensures.seat

pub replace_at-requires-clause-shelf : goal.replace_at-requires-clause-shelf
replace_at-requires-clause-shelf g c = c.in_ok-make_rooms.ensures.place

pub replace_at-requires-clause-setup : goal.replace_at-requires-clause-setup
replace_at-requires-clause-setup g c =
    mid_setup (view_of g.M.MiniportCalls.state g.P.ProtocolCalls.state g.F.FilterCalls.state c.args.book.now) c.make_rooms.new.tray c.make_rooms.new.seats.items c.requires.book c.make_rooms.ensures.tray c.make_rooms.ensures.seats c.args.setup c.requires.setup

pub replace_at-requires-clause-quiet : goal.replace_at-requires-clause-quiet
replace_at-requires-clause-quiet g c = sym c.rewire_refusal.ensures ∙ c.in_default-rewire_refusal.is

pub replace_at-requires-clause-place : goal.replace_at-requires-clause-place
replace_at-requires-clause-place g c =
    found_there g.F.FilterCalls.state c.args.kind c.args.book.now.filters.items c.as_slice.result.now c.make_rooms.new.shelf.items c.as_slice-2.result.now _ _ c.as_slice.ensures.value c.as_slice-2.ensures.value c.first_of_kind.ensures c.in-Some-first_of_kind.is

pub returns-clause-did : goal.returns-clause-did
returns-clause-did g c =
    let old : BookView = view_of g.M.MiniportCalls.state g.P.ProtocolCalls.state g.F.FilterCalls.state c.args.book.now in
    let new : BookView = view_of g.M.MiniportCalls.state g.P.ProtocolCalls.state g.F.FilterCalls.state c.replace_at.new.book in
    let found = found_there g.F.FilterCalls.state c.args.kind c.args.book.now.filters.items c.as_slice.result.now c.args.book.now.shelf.items c.as_slice-2.result.now _ _ c.as_slice.ensures.value (c.as_slice-2.ensures.value ∙ c.make_rooms.ensures.shelf) c.first_of_kind.ensures c.in-Some-first_of_kind.is in
    if_ok c.replace_at.result _ _
    (λ r done. (was_replaced old c.make_rooms.new.tray c.make_rooms.new.seats.items c.make_rooms.new.shelf.items c.requires.book c.make_rooms.ensures.tray c.make_rooms.ensures.seats c.make_rooms.ensures.shelf c.requires.idle c.in_ok-make_rooms.ensures.ready.turns
    new c.args.filter c.args.kind c.args.setup c.in-Some-first_of_kind.place r (sym c.rewire_refusal.ensures ∙ c.in_default-rewire_refusal.is) found done).did) c.replace_at.ensures.done

pub returns-clause-shelf : goal.returns-clause-shelf
returns-clause-shelf g c =
    let old : BookView = view_of g.M.MiniportCalls.state g.P.ProtocolCalls.state g.F.FilterCalls.state c.args.book.now in
    let new : BookView = view_of g.M.MiniportCalls.state g.P.ProtocolCalls.state g.F.FilterCalls.state c.replace_at.new.book in
    let found = found_there g.F.FilterCalls.state c.args.kind c.args.book.now.filters.items c.as_slice.result.now c.args.book.now.shelf.items c.as_slice-2.result.now _ _ c.as_slice.ensures.value (c.as_slice-2.ensures.value ∙ c.make_rooms.ensures.shelf) c.first_of_kind.ensures c.in-Some-first_of_kind.is in
    if_ok c.replace_at.result _ _
    (λ r done. (was_replaced old c.make_rooms.new.tray c.make_rooms.new.seats.items c.make_rooms.new.shelf.items c.requires.book c.make_rooms.ensures.tray c.make_rooms.ensures.seats c.make_rooms.ensures.shelf c.requires.idle c.in_ok-make_rooms.ensures.ready.turns
    new c.args.filter c.args.kind c.args.setup c.in-Some-first_of_kind.place r (sym c.rewire_refusal.ensures ∙ c.in_default-rewire_refusal.is) found done).shelf) c.replace_at.ensures.done

pub returns-clause-within : goal.returns-clause-within
returns-clause-within g c =
    let old : BookView = view_of g.M.MiniportCalls.state g.P.ProtocolCalls.state g.F.FilterCalls.state c.args.book.now in
    let new : BookView = view_of g.M.MiniportCalls.state g.P.ProtocolCalls.state g.F.FilterCalls.state c.replace_at.new.book in
    let found = found_there g.F.FilterCalls.state c.args.kind c.args.book.now.filters.items c.as_slice.result.now c.args.book.now.shelf.items c.as_slice-2.result.now _ _ c.as_slice.ensures.value (c.as_slice-2.ensures.value ∙ c.make_rooms.ensures.shelf) c.first_of_kind.ensures c.in-Some-first_of_kind.is in
    if_ok c.replace_at.result _ _
    (λ r done. (was_replaced old c.make_rooms.new.tray c.make_rooms.new.seats.items c.make_rooms.new.shelf.items c.requires.book c.make_rooms.ensures.tray c.make_rooms.ensures.seats c.make_rooms.ensures.shelf c.requires.idle c.in_ok-make_rooms.ensures.ready.turns
    new c.args.filter c.args.kind c.args.setup c.in-Some-first_of_kind.place r (sym c.rewire_refusal.ensures ∙ c.in_default-rewire_refusal.is) found done).within) c.replace_at.ensures.done

pub returns-clause-turn : goal.returns-clause-turn
returns-clause-turn g c =
    let old : BookView = view_of g.M.MiniportCalls.state g.P.ProtocolCalls.state g.F.FilterCalls.state c.args.book.now in
    let new : BookView = view_of g.M.MiniportCalls.state g.P.ProtocolCalls.state g.F.FilterCalls.state c.replace_at.new.book in
    let found = found_there g.F.FilterCalls.state c.args.kind c.args.book.now.filters.items c.as_slice.result.now c.args.book.now.shelf.items c.as_slice-2.result.now _ _ c.as_slice.ensures.value (c.as_slice-2.ensures.value ∙ c.make_rooms.ensures.shelf) c.first_of_kind.ensures c.in-Some-first_of_kind.is in
    on_ok c.replace_at.result _ _
    (λ r done. (was_replaced old c.make_rooms.new.tray c.make_rooms.new.seats.items c.make_rooms.new.shelf.items c.requires.book c.make_rooms.ensures.tray c.make_rooms.ensures.seats c.make_rooms.ensures.shelf c.requires.idle c.in_ok-make_rooms.ensures.ready.turns
    new c.args.filter c.args.kind c.args.setup c.in-Some-first_of_kind.place r (sym c.rewire_refusal.ensures ∙ c.in_default-rewire_refusal.is) found done).turn) c.replace_at.ensures.done

pub returns-clause-memory : goal.returns-clause-memory
returns-clause-memory g c =
    let old : BookView = view_of g.M.MiniportCalls.state g.P.ProtocolCalls.state g.F.FilterCalls.state c.args.book.now in
    on_err c.replace_at.result _ _
    (λ e. subst (IsUnmoved old) (sym e) (both_unmoved old c.make_rooms.new.tray c.make_rooms.new.seats.items c.make_rooms.new.shelf.items c.requires.book c.make_rooms.ensures.tray c.make_rooms.ensures.seats c.make_rooms.ensures.shelf)) c.replace_at.ensures.memory
