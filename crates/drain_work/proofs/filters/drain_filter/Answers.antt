use Rattle.std.proofs.Common.{◌<◌, map, sym, ap, ◌∙◌, subst}
use Rattle.std.proofs.lemmas.List.{length-map}
use Rattle.book_lemmas.specs.Views.{BookView, seat_of}
use Rattle.book_parts.specs.Parts.{view_of}
use Rattle.drain_work.proofs.Passed.{has_seat, set_up, filter_gives, called_at}
use Rattle.drain_work.proofs.Places.{if_ok, on_err_three}
use Rattle.drain_work.proofs.Sames.{same_roomed}
use Rattle.drain_work.proofs.filters.drain_filter.Goals as goal

pub unreachable-requires : goal.unreachable-requires
unreachable-requires g c =
    has_seat (view_of g.M.MiniportCalls.state g.P.ProtocolCalls.state g.F.FilterCalls.state c.args.book.now) c.args.f c.requires.rests c.requires.inside
    (ap (λ seats. seat_of seats c.args.f) (sym c.as_slice.ensures.value) ∙ sym c.place_of.ensures ∙ c.in_default.is)

pub drain_at-requires-clause-filters : goal.drain_at-requires-clause-filters
drain_at-requires-clause-filters g c =
    subst (λ n. c.in-Some.place < n) (length-map c.args.book.now.filters.items g.F.FilterCalls.state)
    (c.requires.rests.book.stands.places c.args.f c.in-Some.place (ap (λ seats. seat_of seats c.args.f) (sym c.as_slice.ensures.value) ∙ sym c.place_of.ensures ∙ c.in-Some.is)).driver

pub drain_at-requires-clause-pools : goal.drain_at-requires-clause-pools
drain_at-requires-clause-pools g c =
    (c.requires.rests.book.stands.places c.args.f c.in-Some.place (ap (λ seats. seat_of seats c.args.f) (sym c.as_slice.ensures.value) ∙ sym c.place_of.ensures ∙ c.in-Some.is)).pool

pub drain_at-requires-clause-setup : goal.drain_at-requires-clause-setup
drain_at-requires-clause-setup g c =
    set_up (view_of g.M.MiniportCalls.state g.P.ProtocolCalls.state g.F.FilterCalls.state c.args.book.now) c.args.f c.in-Some.place c.requires.rests c.requires.inside
    (ap (λ seats. seat_of seats c.args.f) (sym c.as_slice.ensures.value) ∙ sym c.place_of.ensures ∙ c.in-Some.is)

pub returns-clause-gives : goal.returns-clause-gives
returns-clause-gives g c =
    let old : BookView = view_of g.M.MiniportCalls.state g.P.ProtocolCalls.state g.F.FilterCalls.state c.args.book.now in
    let new : BookView = record {
      tray = c.drain_at.new.tray;
      held = record old.held { filters = map g.F.FilterCalls.state c.drain_at.new.filters.items; filter_pools = c.drain_at.new.pools.items };
    } in
    if_ok c.drain_at.result _ _
    (λ moved t. filter_gives old new c.args.f c.in-Some.place _ _ moved c.requires.rests c.requires.inside
    (ap (λ seats. seat_of seats c.args.f) (sym c.as_slice.ensures.value) ∙ sym c.place_of.ensures ∙ c.in-Some.is) t
    (called_at old.held c.in-Some.place _ _ new.held.filters new.held.filter_pools c.drain_at.ensures.filters c.drain_at.ensures.pools))
    c.drain_at.ensures.ticks

pub returns-clause-memory : goal.returns-clause-memory
returns-clause-memory g c =
    let old : BookView = view_of g.M.MiniportCalls.state g.P.ProtocolCalls.state g.F.FilterCalls.state c.args.book.now in
    let new : BookView = record {
      tray = c.drain_at.new.tray;
      held = record old.held { filters = map g.F.FilterCalls.state c.drain_at.new.filters.items; filter_pools = c.drain_at.new.pools.items };
    } in
    on_err_three c.drain_at.result _ _ _ _
    (λ filters tray pools. same_roomed old new tray
    (ap (λ fs. record old.held { filters = fs; filter_pools = new.held.filter_pools }) filters ∙ ap (λ ps. record old.held { filter_pools = ps }) pools))
    c.drain_at.ensures.same_filters c.drain_at.ensures.tray c.drain_at.ensures.same_pools
