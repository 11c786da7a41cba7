use Rattle.book_lemmas.specs.Views.{BookView}
use Rattle.book_parts.specs.Parts.{view_of}
use Rattle.book_parts.proofs.Events.{begins_roomed}
use Rattle.status_work.proofs.Indicated.{indicated_event, halted_event}
use Rattle.status_work.proofs.indications.indicate_status.Goals as goal

pub returns-in-Halted-clause-did : goal.returns-in-Halted-clause-did
returns-in-Halted-clause-did g c =
    let old : BookView = view_of g.M.MiniportCalls.state g.P.ProtocolCalls.state g.F.FilterCalls.state c.args.book.now in
    (halted_event old c.make_room.new.self c.args.name c.requires.book c.requires.idle c.in-Halted.ensures
    (begins_roomed old.tray c.make_room.new.self c.in_ok-make_room.ensures.same c.in_ok-make_room.ensures.room_kept c.in_ok-make_room.ensures.slack_kept) c.in_ok-make_room.ensures.room.turns).did

pub returns-in_default : goal.returns-in_default
returns-in_default g c =
    let old : BookView = view_of g.M.MiniportCalls.state g.P.ProtocolCalls.state g.F.FilterCalls.state c.args.book.now in
    let done = indicated_event old c.make_room.new.self c.send_up.new.tray c.args.name c.state_of.result c.requires.book c.requires.idle c.state_of.ensures c.in_default.not-Halted
    (begins_roomed old.tray c.make_room.new.self c.in_ok-make_room.ensures.same c.in_ok-make_room.ensures.room_kept c.in_ok-make_room.ensures.slack_kept) c.in_ok-make_room.ensures.room.turns c.send_up.ensures in
    record { did = done.did; within = tt; turn = done.turn; memory = tt }
