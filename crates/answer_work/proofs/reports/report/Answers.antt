use Rattle.std.proofs.Common.{map, refl}
use Rattle.book_lemmas.specs.Views.{BookView}
use Rattle.book_parts.specs.Parts.{view_of}
use Rattle.answer_work.proofs.Asked.{port_up}
use Rattle.answer_work.proofs.Bound.{bound_items}
use Rattle.answer_work.proofs.Reported.{next_bound, reported_event, reported_held}
use Rattle.answer_work.proofs.reports.report.Goals as goal

pub room_at-requires : goal.room_at-requires
room_at-requires g c =
    bound_items g.P.ProtocolCalls.state c.args.book.now.protocols.items c.as_slice.result.now c.args.request.now.binding c.as_slice.ensures.value
    (next_bound (view_of g.M.MiniportCalls.state g.P.ProtocolCalls.state g.F.FilterCalls.state c.args.book.now) c.args.request.now c.requires.book c.requires.idle c.requires.next)

pub make_room-requires : goal.make_room-requires
make_room-requires g c =
    port_up (view_of g.M.MiniportCalls.state g.P.ProtocolCalls.state g.F.FilterCalls.state c.args.book.now) c.args.request.now c.requires.book c.requires.idle c.requires.next

pub tell_binding-requires-clause-within : goal.tell_binding-requires-clause-within
tell_binding-requires-clause-within g c =
    bound_items g.P.ProtocolCalls.state c.args.book.now.protocols.items c.args.book.now.protocols.items c.args.request.now.binding refl
    (next_bound (view_of g.M.MiniportCalls.state g.P.ProtocolCalls.state g.F.FilterCalls.state c.args.book.now) c.args.request.now c.requires.book c.requires.idle c.requires.next)

pub returns-clause-did : goal.returns-clause-did
returns-clause-did g c =
    let old : BookView = view_of g.M.MiniportCalls.state g.P.ProtocolCalls.state g.F.FilterCalls.state c.args.book.now in
    let new : BookView = record { tray = c.answer-answer.new.tray; held = record old.held { miniport = g.M.MiniportCalls.state c.answer-answer.new.miniport; protocols = map g.P.ProtocolCalls.state c.tell_binding.new.protocols.items } } in
    (reported_event old new c.make_room.new.tray c.args.request.now _ c.requires.book c.requires.idle c.requires.none c.requires.next
    c.in_ok-make_room.ensures.tray c.in_ok-make_room.ensures.ready.turns c.answer-answer.ensures.reports
    (reported_held old.held new.held.miniport c.args.request.now.parent c.args.request.now.binding new.held.protocols c.tell_binding.ensures)).did
