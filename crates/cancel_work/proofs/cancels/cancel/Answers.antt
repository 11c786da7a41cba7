use Rattle.std.proofs.Common.{refl, sym, subst}
use Rattle.state_laws.specs.Shape.{IsDistinct}
use Rattle.driver_tray.specs.Tray.{TrayView}
use Rattle.book_lemmas.specs.Views.{BookView}
use Rattle.book_parts.specs.Parts.{view_of}
use Rattle.drain_work.proofs.Sames.{same_self, same_roomed, same_unmoved}
use Rattle.cancel_work.proofs.Ended.{on_err_always, IsBegun, begun, distinct, cancel_did, cancel_turn}
use Rattle.cancel_work.proofs.cancels.cancel.Goals as goal

pub returns-in_err-kept-clause-memory : goal.returns-in_err-kept-clause-memory
returns-in_err-kept-clause-memory g c =
    on_err_always _ _ (same_unmoved c.requires.book (same_self (view_of g.M.MiniportCalls.state g.P.ProtocolCalls.state g.F.FilterCalls.state c.args.book.now)))

pub returns-in_err-make_room-clause-memory : goal.returns-in_err-make_room-clause-memory
returns-in_err-make_room-clause-memory g c =
    let old : BookView = view_of g.M.MiniportCalls.state g.P.ProtocolCalls.state g.F.FilterCalls.state c.args.book.now in
    let mid : BookView = record old { tray = c.make_room.new.tray } in
    on_err_always _ _ (same_unmoved c.requires.book (same_roomed old mid c.make_room.ensures.tray refl))

pub cancel_from-lists-requires-clause-book : goal.cancel_from-lists-requires-clause-book
cancel_from-lists-requires-clause-book g c =
    let old : BookView = view_of g.M.MiniportCalls.state g.P.ProtocolCalls.state g.F.FilterCalls.state c.args.book.now in
    let mid : BookView = record old { tray = c.make_room.new.tray } in
    (same_unmoved c.requires.book (same_roomed old mid c.in_ok-make_room.ensures.tray refl)).book

pub cancel_from-lists-requires-clause-distinct : goal.cancel_from-lists-requires-clause-distinct
cancel_from-lists-requires-clause-distinct g c =
    subst (λ (t : TrayView). IsDistinct t.net.modules.order) (sym c.in_ok-make_room.ensures.tray.same)
    (distinct (view_of g.M.MiniportCalls.state g.P.ProtocolCalls.state g.F.FilterCalls.state c.args.book.now) c.requires.book c.requires.idle)

pub cancel_from-lists-requires-clause-room : goal.cancel_from-lists-requires-clause-room
cancel_from-lists-requires-clause-room g c =
    let old : BookView = view_of g.M.MiniportCalls.state g.P.ProtocolCalls.state g.F.FilterCalls.state c.args.book.now in
    let mid : BookView = record old { tray = c.make_room.new.tray } in
    (begun old mid c.in_ok-kept.kept c.in_ok-kept.ensures c.in_ok-make_room.ensures.tray refl c.in_ok-make_room.ensures.ready).room

pub returns-clause-did : goal.returns-clause-did
returns-clause-did g c =
    let old : BookView = view_of g.M.MiniportCalls.state g.P.ProtocolCalls.state g.F.FilterCalls.state c.args.book.now in
    let mid : BookView = record old { tray = c.make_room.new.tray } in
    let new : BookView = view_of g.M.MiniportCalls.state g.P.ProtocolCalls.state g.F.FilterCalls.state c.cancel_from-lists.new.book in
    let b : IsBegun old mid c.in_ok-kept.kept = begun old mid c.in_ok-kept.kept c.in_ok-kept.ensures c.in_ok-make_room.ensures.tray refl c.in_ok-make_room.ensures.ready in
    cancel_did old mid new c.args.id c.cancel_from-lists.result c.in_ok-kept.kept c.requires.book c.requires.idle b c.cancel_from-lists.ensures

pub returns-clause-turn : goal.returns-clause-turn
returns-clause-turn g c =
    let old : BookView = view_of g.M.MiniportCalls.state g.P.ProtocolCalls.state g.F.FilterCalls.state c.args.book.now in
    let mid : BookView = record old { tray = c.make_room.new.tray } in
    let new : BookView = view_of g.M.MiniportCalls.state g.P.ProtocolCalls.state g.F.FilterCalls.state c.cancel_from-lists.new.book in
    let b : IsBegun old mid c.in_ok-kept.kept = begun old mid c.in_ok-kept.kept c.in_ok-kept.ensures c.in_ok-make_room.ensures.tray refl c.in_ok-make_room.ensures.ready in
    cancel_turn old mid new c.args.id c.cancel_from-lists.result c.in_ok-kept.kept b c.cancel_from-lists.ensures
