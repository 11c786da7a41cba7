use Rattle.std.proofs.Common.{ap, arith}
use Rattle.std.proofs.lemmas.List.{length-map}
use Rattle.book_lemmas.specs.Views.{BookView}
use Rattle.book_parts.specs.Parts.{view_of}
use Rattle.status_work.proofs.Telling.{protocols_heard, told_event}
use Rattle.status_work.proofs.bindings.work_bindings.Goals as goal

pub returns-clause-did : goal.returns-clause-did
returns-clause-did g c =
    let old : BookView = view_of g.M.MiniportCalls.state g.P.ProtocolCalls.state g.F.FilterCalls.state c.args.book.now in
    (told_event old _ c.make_room.new.tray c.args.status c.in-Some.many c.requires.book c.requires.idle c.requires.first c.requires.to c.make_room.ensures.tray c.in_ok-make_room.ensures.ready.turns
    (omega (arith, c.in-Some.ensures.all, c.len.ensures, c.args.book.now.protocols.ok.0, length-map c.args.book.now.protocols.items g.P.ProtocolCalls.state))
    c.tell_all.ensures.tray (ap (protocols_heard old.held) c.tell_all.ensures.protocols)).did

pub returns-clause-turn : goal.returns-clause-turn
returns-clause-turn g c =
    let old : BookView = view_of g.M.MiniportCalls.state g.P.ProtocolCalls.state g.F.FilterCalls.state c.args.book.now in
    (told_event old _ c.make_room.new.tray c.args.status c.in-Some.many c.requires.book c.requires.idle c.requires.first c.requires.to c.make_room.ensures.tray c.in_ok-make_room.ensures.ready.turns
    (omega (arith, c.in-Some.ensures.all, c.len.ensures, c.args.book.now.protocols.ok.0, length-map c.args.book.now.protocols.items g.P.ProtocolCalls.state))
    c.tell_all.ensures.tray (ap (protocols_heard old.held) c.tell_all.ensures.protocols)).turn
