use Rattle.std.proofs.Common.{[], ap, sym, subst, ◌∙◌, map}
use Rattle.stack_rules.specs.Pauses.{live_items}
use Rattle.book_lemmas.specs.Views.{BookView, hands_of}
use Rattle.book_parts.specs.Parts.{view_of}
use Rattle.book_parts.specs.Events.{IsUnmoved}
use Rattle.driver_tray.specs.Tray.{TrayView}
use Rattle.rewire_work.proofs.Asked.{on_err_any, same_unmoved, mid_unmoved, mid_book, mid_idle, mid_rest, mid_setup, mid_refused, mid_lacks, mid_done, found_there}
use Rattle.rewire_work.proofs.Counted.{statuses_counted}
use Rattle.rewire_work.proofs.Done.{if_ok, on_ok, on_err}
use Rattle.rewire_work.proofs.Fitting.{places_there}
use Rattle.rewire_work.proofs.inserts.insert.Goals as goal

pub live_count-requires : goal.live_count-requires
live_count-requires g c =
    let old : BookView = view_of g.M.MiniportCalls.state g.P.ProtocolCalls.state g.F.FilterCalls.state c.args.book.now in
    statuses_counted old.tray.net (hands_of old.tray.queue old.held []) c.requires.book.stands.agrees

pub returns-in_default-clause-memory : goal.returns-in_default-clause-memory
returns-in_default-clause-memory g c = same_unmoved (view_of g.M.MiniportCalls.state g.P.ProtocolCalls.state g.F.FilterCalls.state c.args.book.now) c.requires.book

pub returns-in_err-make_room-clause-memory : goal.returns-in_err-make_room-clause-memory
returns-in_err-make_room-clause-memory g c =
    on_err_any c.from_residual.result _ (mid_unmoved (view_of g.M.MiniportCalls.state g.P.ProtocolCalls.state g.F.FilterCalls.state c.args.book.now) c.make_room.new.tray c.make_room.new.places.items c.requires.book c.make_room.ensures.tray c.make_room.ensures.places)

pub insert_refusal-requires : goal.insert_refusal-requires
insert_refusal-requires g c = c.in-Some.ensures ∙ ap live_items (sym (ap (λ (t : TrayView). t.net) c.make_room.ensures.tray.same))

pub returns-in-Some-insert_refusal-clause-did : goal.returns-in-Some-insert_refusal-clause-did
returns-in-Some-insert_refusal-clause-did g c =
    (mid_refused (view_of g.M.MiniportCalls.state g.P.ProtocolCalls.state g.F.FilterCalls.state c.args.book.now) c.make_room.new.tray c.make_room.new.places.items c.requires.book c.make_room.ensures.tray c.make_room.ensures.places
    c.requires.idle c.in_ok-make_room.ensures.ready.turns c.args.kind c.args.position _ c.in-Some-insert_refusal.cause (sym c.insert_refusal.ensures ∙ c.in-Some-insert_refusal.is)).did

pub returns-in-Some-insert_refusal-clause-shelf : goal.returns-in-Some-insert_refusal-clause-shelf
returns-in-Some-insert_refusal-clause-shelf g c =
    (mid_refused (view_of g.M.MiniportCalls.state g.P.ProtocolCalls.state g.F.FilterCalls.state c.args.book.now) c.make_room.new.tray c.make_room.new.places.items c.requires.book c.make_room.ensures.tray c.make_room.ensures.places
    c.requires.idle c.in_ok-make_room.ensures.ready.turns c.args.kind c.args.position _ c.in-Some-insert_refusal.cause (sym c.insert_refusal.ensures ∙ c.in-Some-insert_refusal.is)).shelf

pub returns-in-Some-insert_refusal-clause-turn : goal.returns-in-Some-insert_refusal-clause-turn
returns-in-Some-insert_refusal-clause-turn g c = record { room = c.in_ok-make_room.ensures.ready.turns }

pub first_of_kind-requires : goal.first_of_kind-requires
first_of_kind-requires g c =
    places_there g.F.FilterCalls.state c.as_slice.result.now c.as_slice-2.result.now (view_of g.M.MiniportCalls.state g.P.ProtocolCalls.state g.F.FilterCalls.state c.args.book.now) c.requires.book
    (ap (map g.F.FilterCalls.state) (sym c.as_slice.ensures.value)) c.as_slice-2.ensures.value

pub returns-in_default-first_of_kind-clause-did : goal.returns-in_default-first_of_kind-clause-did
returns-in_default-first_of_kind-clause-did g c =
    (mid_lacks (view_of g.M.MiniportCalls.state g.P.ProtocolCalls.state g.F.FilterCalls.state c.args.book.now) c.make_room.new.tray c.make_room.new.places.items c.requires.book c.make_room.ensures.tray c.make_room.ensures.places
    c.requires.idle c.in_ok-make_room.ensures.ready.turns c.args.kind c.args.position _ (sym c.insert_refusal.ensures ∙ c.in_default-insert_refusal.is)).did

pub returns-in_default-first_of_kind-clause-shelf : goal.returns-in_default-first_of_kind-clause-shelf
returns-in_default-first_of_kind-clause-shelf g c =
    (mid_lacks (view_of g.M.MiniportCalls.state g.P.ProtocolCalls.state g.F.FilterCalls.state c.args.book.now) c.make_room.new.tray c.make_room.new.places.items c.requires.book c.make_room.ensures.tray c.make_room.ensures.places
    c.requires.idle c.in_ok-make_room.ensures.ready.turns c.args.kind c.args.position _ (sym c.insert_refusal.ensures ∙ c.in_default-insert_refusal.is)).shelf

pub returns-in_default-first_of_kind-clause-turn : goal.returns-in_default-first_of_kind-clause-turn
returns-in_default-first_of_kind-clause-turn g c = record { room = c.in_ok-make_room.ensures.ready.turns }

pub insert_at-requires-clause-book : goal.insert_at-requires-clause-book
insert_at-requires-clause-book g c =
    mid_book (view_of g.M.MiniportCalls.state g.P.ProtocolCalls.state g.F.FilterCalls.state c.args.book.now) c.make_room.new.tray c.make_room.new.places.items c.requires.book c.make_room.ensures.tray c.make_room.ensures.places

pub insert_at-requires-clause-idle : goal.insert_at-requires-clause-idle
insert_at-requires-clause-idle g c =
    mid_idle (view_of g.M.MiniportCalls.state g.P.ProtocolCalls.state g.F.FilterCalls.state c.args.book.now) c.make_room.new.tray c.make_room.new.places.items c.requires.book c.make_room.ensures.tray c.make_room.ensures.places c.requires.idle

pub insert_at-requires-clause-rest : goal.insert_at-requires-clause-rest
insert_at-requires-clause-rest g c =
    mid_rest (view_of g.M.MiniportCalls.state g.P.ProtocolCalls.state g.F.FilterCalls.state c.args.book.now) c.make_room.new.tray c.make_room.new.places.items c.requires.book c.make_room.ensures.tray c.make_room.ensures.places c.requires.idle
    c.args.position (sym c.insert_refusal.ensures ∙ c.in_default-insert_refusal.is)

pub insert_at-requires-clause-ready : goal.insert_at-requires-clause-ready
insert_at-requires-clause-ready g c = c.in_ok-make_room.ensures.ready

pub insert_at-requires-clause-seat : goal.insert_at-requires-clause-seat
insert_at-requires-clause-seat g c = c.in_ok-make_room.ensures.place

pub insert_at-requires-clause-setup : goal.insert_at-requires-clause-setup
insert_at-requires-clause-setup g c =
    mid_setup (view_of g.M.MiniportCalls.state g.P.ProtocolCalls.state g.F.FilterCalls.state c.args.book.now) c.make_room.new.tray c.make_room.new.places.items c.requires.book c.make_room.ensures.tray c.make_room.ensures.places c.args.setup c.requires.setup

pub insert_at-requires-clause-quiet : goal.insert_at-requires-clause-quiet
insert_at-requires-clause-quiet g c = sym c.insert_refusal.ensures ∙ c.in_default-insert_refusal.is

pub insert_at-requires-clause-place : goal.insert_at-requires-clause-place
insert_at-requires-clause-place g c =
    found_there g.F.FilterCalls.state c.args.kind c.args.book.now.filters.items c.as_slice.result.now c.args.book.now.shelf.items c.as_slice-2.result.now _ _ c.as_slice.ensures.value c.as_slice-2.ensures.value c.first_of_kind.ensures c.in-Some-first_of_kind.is

pub returns-clause-did : goal.returns-clause-did
returns-clause-did g c =
    let old : BookView = view_of g.M.MiniportCalls.state g.P.ProtocolCalls.state g.F.FilterCalls.state c.args.book.now in
    let new : BookView = view_of g.M.MiniportCalls.state g.P.ProtocolCalls.state g.F.FilterCalls.state c.insert_at.new.book in
    let found = found_there g.F.FilterCalls.state c.args.kind c.args.book.now.filters.items c.as_slice.result.now c.args.book.now.shelf.items c.as_slice-2.result.now _ _ c.as_slice.ensures.value c.as_slice-2.ensures.value c.first_of_kind.ensures c.in-Some-first_of_kind.is in
    if_ok c.insert_at.result _ _
    (λ r done. (mid_done old c.make_room.new.tray c.make_room.new.places.items c.requires.book c.make_room.ensures.tray c.make_room.ensures.places c.requires.idle c.in_ok-make_room.ensures.ready.turns
    new c.args.kind c.args.position c.args.setup c.in-Some-first_of_kind.place r (sym c.insert_refusal.ensures ∙ c.in_default-insert_refusal.is) found done).did) c.insert_at.ensures.done

pub returns-clause-shelf : goal.returns-clause-shelf
returns-clause-shelf g c =
    let old : BookView = view_of g.M.MiniportCalls.state g.P.ProtocolCalls.state g.F.FilterCalls.state c.args.book.now in
    let new : BookView = view_of g.M.MiniportCalls.state g.P.ProtocolCalls.state g.F.FilterCalls.state c.insert_at.new.book in
    let found = found_there g.F.FilterCalls.state c.args.kind c.args.book.now.filters.items c.as_slice.result.now c.args.book.now.shelf.items c.as_slice-2.result.now _ _ c.as_slice.ensures.value c.as_slice-2.ensures.value c.first_of_kind.ensures c.in-Some-first_of_kind.is in
    if_ok c.insert_at.result _ _
    (λ r done. (mid_done old c.make_room.new.tray c.make_room.new.places.items c.requires.book c.make_room.ensures.tray c.make_room.ensures.places c.requires.idle c.in_ok-make_room.ensures.ready.turns
    new c.args.kind c.args.position c.args.setup c.in-Some-first_of_kind.place r (sym c.insert_refusal.ensures ∙ c.in_default-insert_refusal.is) found done).shelf) c.insert_at.ensures.done

pub returns-clause-within : goal.returns-clause-within
returns-clause-within g c =
    let old : BookView = view_of g.M.MiniportCalls.state g.P.ProtocolCalls.state g.F.FilterCalls.state c.args.book.now in
    let new : BookView = view_of g.M.MiniportCalls.state g.P.ProtocolCalls.state g.F.FilterCalls.state c.insert_at.new.book in
    let found = found_there g.F.FilterCalls.state c.args.kind c.args.book.now.filters.items c.as_slice.result.now c.args.book.now.shelf.items c.as_slice-2.result.now _ _ c.as_slice.ensures.value c.as_slice-2.ensures.value c.first_of_kind.ensures c.in-Some-first_of_kind.is in
    if_ok c.insert_at.result _ _
    (λ r done. (mid_done old c.make_room.new.tray c.make_room.new.places.items c.requires.book c.make_room.ensures.tray c.make_room.ensures.places c.requires.idle c.in_ok-make_room.ensures.ready.turns
    new c.args.kind c.args.position c.args.setup c.in-Some-first_of_kind.place r (sym c.insert_refusal.ensures ∙ c.in_default-insert_refusal.is) found done).within) c.insert_at.ensures.done

pub returns-clause-turn : goal.returns-clause-turn
returns-clause-turn g c =
    let old : BookView = view_of g.M.MiniportCalls.state g.P.ProtocolCalls.state g.F.FilterCalls.state c.args.book.now in
    let new : BookView = view_of g.M.MiniportCalls.state g.P.ProtocolCalls.state g.F.FilterCalls.state c.insert_at.new.book in
    let found = found_there g.F.FilterCalls.state c.args.kind c.args.book.now.filters.items c.as_slice.result.now c.args.book.now.shelf.items c.as_slice-2.result.now _ _ c.as_slice.ensures.value c.as_slice-2.ensures.value c.first_of_kind.ensures c.in-Some-first_of_kind.is in
    on_ok c.insert_at.result _ _
    (λ r done. (mid_done old c.make_room.new.tray c.make_room.new.places.items c.requires.book c.make_room.ensures.tray c.make_room.ensures.places c.requires.idle c.in_ok-make_room.ensures.ready.turns
    new c.args.kind c.args.position c.args.setup c.in-Some-first_of_kind.place r (sym c.insert_refusal.ensures ∙ c.in_default-insert_refusal.is) found done).turn) c.insert_at.ensures.done

pub returns-clause-memory : goal.returns-clause-memory
returns-clause-memory g c =
    let old : BookView = view_of g.M.MiniportCalls.state g.P.ProtocolCalls.state g.F.FilterCalls.state c.args.book.now in
    on_err c.insert_at.result _ _
    (λ e. subst (IsUnmoved old) (sym e) (mid_unmoved old c.make_room.new.tray c.make_room.new.places.items c.requires.book c.make_room.ensures.tray c.make_room.ensures.places)) c.insert_at.ensures.memory
