use Rattle.std.proofs.Common.{refl}
use Rattle.book_lemmas.specs.Views.{BookView}
use Rattle.book_parts.specs.Parts.{view_of}
use Rattle.cancel_work.proofs.Miniports.{may_cancel, miniport_cancelled}
use Rattle.cancel_work.proofs.cancels.cancel_miniport.Goals as goal

pub cancel_by_miniport-requires : goal.cancel_by_miniport-requires
cancel_by_miniport-requires g c = may_cancel (view_of g.M.MiniportCalls.state g.P.ProtocolCalls.state g.F.FilterCalls.state c.args.book.now) c.requires.room

pub returns : goal.returns
returns g c =
    let old : BookView = view_of g.M.MiniportCalls.state g.P.ProtocolCalls.state g.F.FilterCalls.state c.args.book.now in
    let new : BookView = record {
      tray = c.cancel_by_miniport.new.tray;
      held = record old.held { miniport = g.M.MiniportCalls.state c.cancel_by_miniport.new.miniport; miniport_pool = c.cancel_by_miniport.new.pool };
    } in
    miniport_cancelled old new c.args.id c.cancel_by_miniport.result _ _ c.requires.book c.cancel_by_miniport.ensures refl
