use Rattle.std.proofs.Common.{◌<◌, map, refl, ap, sym, subst, ◌∙◌}
use Rattle.std.proofs.lemmas.List.{length-map}
use Rattle.book_lemmas.specs.Views.{BookView, seat_of}
use Rattle.book_parts.specs.Parts.{view_of}
use Rattle.answer_work.proofs.Asked.{has_seat, set_up}
use Rattle.answer_work.proofs.Bound.{bound_within, bound_items}
use Rattle.answer_work.proofs.Finished.{finished_event, finished_held}
use Rattle.answer_work.proofs.finishes.finish_at.Goals as goal

pub unreachable-requires : goal.unreachable-requires
unreachable-requires g c =
    has_seat (view_of g.M.MiniportCalls.state g.P.ProtocolCalls.state g.F.FilterCalls.state c.args.book.now) c.args.answer.now c.args.asked.now c.args.f c.requires.book c.requires.idle c.requires.first c.requires.asked c.requires.at
    (ap (λ seats. seat_of seats c.args.f) (sym c.as_slice.ensures.value) ∙ sym c.place_of.ensures ∙ c.in_default.is)

pub room_at-requires : goal.room_at-requires
room_at-requires g c =
    let old : BookView = view_of g.M.MiniportCalls.state g.P.ProtocolCalls.state g.F.FilterCalls.state c.args.book.now in
    bound_items g.P.ProtocolCalls.state c.args.book.now.protocols.items c.as_slice-2.result.now c.args.asked.now.binding c.as_slice-2.ensures.value
    (bound_within old c.args.asked.now c.args.answer.now.parent.0 c.requires.book c.requires.idle c.requires.asked)

pub tell_binding-requires-clause-within : goal.tell_binding-requires-clause-within
tell_binding-requires-clause-within g c =
    let old : BookView = view_of g.M.MiniportCalls.state g.P.ProtocolCalls.state g.F.FilterCalls.state c.args.book.now in
    bound_items g.P.ProtocolCalls.state c.args.book.now.protocols.items c.args.book.now.protocols.items c.args.asked.now.binding refl
    (bound_within old c.args.asked.now c.args.answer.now.parent.0 c.requires.book c.requires.idle c.requires.asked)

pub work_at-requires-clause-filters : goal.work_at-requires-clause-filters
work_at-requires-clause-filters g c =
    subst (λ n. c.in-Some.place < n) (length-map c.args.book.now.filters.items g.F.FilterCalls.state)
    (c.requires.book.stands.places c.args.f c.in-Some.place (ap (λ seats. seat_of seats c.args.f) (sym c.as_slice.ensures.value) ∙ sym c.place_of.ensures ∙ c.in-Some.is)).driver

pub work_at-requires-clause-setup : goal.work_at-requires-clause-setup
work_at-requires-clause-setup g c =
    set_up (view_of g.M.MiniportCalls.state g.P.ProtocolCalls.state g.F.FilterCalls.state c.args.book.now) c.args.answer.now c.args.asked.now c.args.f c.in-Some.place c.requires.book c.requires.idle c.requires.first c.requires.asked c.requires.at
    (ap (λ seats. seat_of seats c.args.f) (sym c.as_slice.ensures.value) ∙ sym c.place_of.ensures ∙ c.in-Some.is)

pub returns-clause-did : goal.returns-clause-did
returns-clause-did g c =
    let old : BookView = view_of g.M.MiniportCalls.state g.P.ProtocolCalls.state g.F.FilterCalls.state c.args.book.now in
    let new : BookView = record { tray = c.work_at.new.tray; held = record old.held { filters = map g.F.FilterCalls.state c.work_at.new.filters.items; protocols = map g.P.ProtocolCalls.state c.tell_binding.new.protocols.items } } in
    (finished_event old new c.args.answer.now c.args.asked.now c.args.f c.in-Some.place _ c.requires.book c.requires.idle c.requires.first c.requires.asked c.requires.at
    (ap (λ seats. seat_of seats c.args.f) (sym c.as_slice.ensures.value) ∙ sym c.place_of.ensures ∙ c.in-Some.is) c.in_ok-work_at.ensures.finishes
    (finished_held old.held c.in-Some.place _ new.held.filters c.args.asked.now.parent c.args.asked.now.binding new.held.protocols c.work_at.ensures.filters c.tell_binding.ensures)).did
