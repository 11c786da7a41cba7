use Rattle.std.proofs.Common.{◌<◌, map, sym, ap, ◌∙◌, subst}
use Rattle.std.proofs.lemmas.List.{length-map}
use Rattle.book_lemmas.specs.Views.{BookView, seat_of}
use Rattle.book_parts.specs.Parts.{view_of}
use Rattle.drain_work.proofs.Passed.{called_at}
use Rattle.cancel_work.proofs.Filters.{has_seat, may_call, filter_cancelled}
use Rattle.cancel_work.proofs.cancels.cancel_filter.Goals as goal

pub unreachable-requires : goal.unreachable-requires
unreachable-requires g c =
    has_seat (view_of g.M.MiniportCalls.state g.P.ProtocolCalls.state g.F.FilterCalls.state c.args.book.now) c.args.f c.requires.book c.requires.hold
    (ap (λ seats. seat_of seats c.args.f) (sym c.as_slice.ensures.value) ∙ sym c.place_of.ensures ∙ c.in_default.is)

pub cancel_at-requires-clause-filters : goal.cancel_at-requires-clause-filters
cancel_at-requires-clause-filters g c =
    subst (λ n. c.in-Some.place < n) (length-map c.args.book.now.filters.items g.F.FilterCalls.state)
    (may_call (view_of g.M.MiniportCalls.state g.P.ProtocolCalls.state g.F.FilterCalls.state c.args.book.now) c.args.f c.in-Some.place c.requires.book c.requires.hold c.requires.room
    (ap (λ seats. seat_of seats c.args.f) (sym c.as_slice.ensures.value) ∙ sym c.place_of.ensures ∙ c.in-Some.is)).driver

pub cancel_at-requires-clause-pools : goal.cancel_at-requires-clause-pools
cancel_at-requires-clause-pools g c =
    (may_call (view_of g.M.MiniportCalls.state g.P.ProtocolCalls.state g.F.FilterCalls.state c.args.book.now) c.args.f c.in-Some.place c.requires.book c.requires.hold c.requires.room
    (ap (λ seats. seat_of seats c.args.f) (sym c.as_slice.ensures.value) ∙ sym c.place_of.ensures ∙ c.in-Some.is)).pool

pub cancel_at-requires-clause-may : goal.cancel_at-requires-clause-may
cancel_at-requires-clause-may g c =
    (may_call (view_of g.M.MiniportCalls.state g.P.ProtocolCalls.state g.F.FilterCalls.state c.args.book.now) c.args.f c.in-Some.place c.requires.book c.requires.hold c.requires.room
    (ap (λ seats. seat_of seats c.args.f) (sym c.as_slice.ensures.value) ∙ sym c.place_of.ensures ∙ c.in-Some.is)).may

pub cancel_at-requires-clause-hold : goal.cancel_at-requires-clause-hold
cancel_at-requires-clause-hold g c =
    (may_call (view_of g.M.MiniportCalls.state g.P.ProtocolCalls.state g.F.FilterCalls.state c.args.book.now) c.args.f c.in-Some.place c.requires.book c.requires.hold c.requires.room
    (ap (λ seats. seat_of seats c.args.f) (sym c.as_slice.ensures.value) ∙ sym c.place_of.ensures ∙ c.in-Some.is)).hold

pub returns : goal.returns
returns g c =
    let old : BookView = view_of g.M.MiniportCalls.state g.P.ProtocolCalls.state g.F.FilterCalls.state c.args.book.now in
    let new : BookView = record {
      tray = c.cancel_at.new.tray;
      held = record old.held { filters = map g.F.FilterCalls.state c.cancel_at.new.filters.items; filter_pools = c.cancel_at.new.pools.items };
    } in
    filter_cancelled old new c.args.f c.in-Some.place c.args.id c.cancel_at.result _ _ c.requires.book
    (ap (λ seats. seat_of seats c.args.f) (sym c.as_slice.ensures.value) ∙ sym c.place_of.ensures ∙ c.in-Some.is) c.cancel_at.ensures.turns
    (called_at old.held c.in-Some.place _ _ new.held.filters new.held.filter_pools c.cancel_at.ensures.filters c.cancel_at.ensures.pools)
