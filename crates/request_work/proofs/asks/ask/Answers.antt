use Rattle.book_lemmas.specs.Views.{BookView}
use Rattle.book_parts.specs.Parts.{view_of}
use Rattle.book_parts.proofs.Events.{begins_roomed}
use Rattle.request_work.proofs.Asked.{issued_event, number_within, unbound_event}
use Rattle.request_work.proofs.asks.ask.Goals as goal

pub returns-in-Unbound-clause-did : goal.returns-in-Unbound-clause-did
returns-in-Unbound-clause-did g c =
    let old : BookView = view_of g.M.MiniportCalls.state g.P.ProtocolCalls.state g.F.FilterCalls.state c.args.book.now in
    (unbound_event old c.make_room.new.self c.args.binding c.args.kind c.args.code c.args.value.now c.requires.book c.requires.idle c.in-Unbound.ensures
    (begins_roomed old.tray c.make_room.new.self c.in_ok-make_room.ensures.same c.in_ok-make_room.ensures.room_kept c.in_ok-make_room.ensures.slack_kept) c.in_ok-make_room.ensures.room.turns).did

pub returns-in_default : goal.returns-in_default
returns-in_default g c =
    let old : BookView = view_of g.M.MiniportCalls.state g.P.ProtocolCalls.state g.F.FilterCalls.state c.args.book.now in
    let done = issued_event old c.make_room.new.self c.issue.new.tray c.args.binding c.args.kind c.args.code c.args.value.now c.state_of.result c.issue.result c.requires.book c.requires.idle c.state_of.ensures c.in_default.not-Unbound
    (begins_roomed old.tray c.make_room.new.self c.in_ok-make_room.ensures.same c.in_ok-make_room.ensures.room_kept c.in_ok-make_room.ensures.slack_kept) c.in_ok-make_room.ensures.room.turns c.issue.ensures.tray c.issue.ensures.number in
    record { did = done.did; within = number_within c.issue.new.tray.payloads c.issue.result _ c.issue.ensures.number; turn = done.turn; memory = tt }
