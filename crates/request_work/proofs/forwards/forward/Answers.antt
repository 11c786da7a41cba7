use Rattle.std.proofs.Common.{◌<◌, map, ap, sym, subst, ◌∙◌}
use Rattle.std.proofs.lemmas.List.{length-map}
use Rattle.book_lemmas.specs.Views.{BookView, seat_of}
use Rattle.book_parts.specs.Parts.{view_of}
use Rattle.filter_work.proofs.Parts.{on_ok}
use Rattle.request_work.proofs.Gives.{has_seat, set_up}
use Rattle.request_work.proofs.Forwarded.{forwarded_event, asked_at}
use Rattle.request_work.proofs.forwards.forward.Goals as goal

pub unreachable-requires : goal.unreachable-requires
unreachable-requires g c =
    has_seat (view_of g.M.MiniportCalls.state g.P.ProtocolCalls.state g.F.FilterCalls.state c.args.book.now) c.args.request.now c.args.f c.requires.book c.requires.next
    (ap (λ seats. seat_of seats c.args.f) (sym c.as_slice.ensures.value) ∙ sym c.place_of.ensures ∙ c.in_default.is)

pub forward_at-requires-clause-filters : goal.forward_at-requires-clause-filters
forward_at-requires-clause-filters g c =
    subst (λ n. c.in-Some.place < n) (length-map c.args.book.now.filters.items g.F.FilterCalls.state)
    (c.requires.book.stands.places c.args.f c.in-Some.place (ap (λ seats. seat_of seats c.args.f) (sym c.as_slice.ensures.value) ∙ sym c.place_of.ensures ∙ c.in-Some.is)).driver

pub forward_at-requires-clause-setup : goal.forward_at-requires-clause-setup
forward_at-requires-clause-setup g c =
    set_up (view_of g.M.MiniportCalls.state g.P.ProtocolCalls.state g.F.FilterCalls.state c.args.book.now) c.args.request.now c.args.f c.in-Some.place c.requires.book c.requires.next
    (ap (λ seats. seat_of seats c.args.f) (sym c.as_slice.ensures.value) ∙ sym c.place_of.ensures ∙ c.in-Some.is)

pub returns-clause-did : goal.returns-clause-did
returns-clause-did g c =
    let old : BookView = view_of g.M.MiniportCalls.state g.P.ProtocolCalls.state g.F.FilterCalls.state c.args.book.now in
    let new : BookView = record { tray = c.forward_at.new.tray; held = record old.held { filters = map g.F.FilterCalls.state c.forward_at.new.filters.items } } in
    on_ok c.forward_at.result _ _
    (λ w. (forwarded_event old new c.args.request.now c.args.f c.in-Some.place _ c.requires.book c.requires.idle c.requires.none c.requires.next
    (ap (λ seats. seat_of seats c.args.f) (sym c.as_slice.ensures.value) ∙ sym c.place_of.ensures ∙ c.in-Some.is) w
    (asked_at old.held c.in-Some.place _ new.held.filters c.forward_at.ensures.filters)).did)
    c.forward_at.ensures.forwards

pub returns-clause-turn : goal.returns-clause-turn
returns-clause-turn g c =
    let old : BookView = view_of g.M.MiniportCalls.state g.P.ProtocolCalls.state g.F.FilterCalls.state c.args.book.now in
    let new : BookView = record { tray = c.forward_at.new.tray; held = record old.held { filters = map g.F.FilterCalls.state c.forward_at.new.filters.items } } in
    on_ok c.forward_at.result _ _
    (λ w. (forwarded_event old new c.args.request.now c.args.f c.in-Some.place _ c.requires.book c.requires.idle c.requires.none c.requires.next
    (ap (λ seats. seat_of seats c.args.f) (sym c.as_slice.ensures.value) ∙ sym c.place_of.ensures ∙ c.in-Some.is) w
    (asked_at old.held c.in-Some.place _ new.held.filters c.forward_at.ensures.filters)).turn)
    c.forward_at.ensures.forwards
