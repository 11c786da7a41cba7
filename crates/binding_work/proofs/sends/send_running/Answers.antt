use Rattle.std.proofs.Common.{refl}
use Rattle.std.proofs.lemmas.Bool.{false≢true}
use Rattle.book_parts.specs.Parts.{view_of}
use Rattle.binding_work.proofs.Sending.{sends_starts, sends_lacks}
use Rattle.binding_work.proofs.sends.send_running.Goals as goal

pub returns-in-Ok : goal.returns-in-Ok
returns-in-Ok g c =
    sends_starts c.args.binding _ _ (view_of g.M.MiniportCalls.state g.P.ProtocolCalls.state g.F.FilterCalls.state c.args.book.now) _ _
    c.in-Ok.ensures.starts (λ e. false≢true (c.in-Ok.ensures.no_list.1 e)) c.start_at-started.ensures.pools refl c.in-Ok.ensures.number

pub returns-in-Err : goal.returns-in-Err
returns-in-Err g c =
    sends_lacks c.args.binding _ _ (view_of g.M.MiniportCalls.state g.P.ProtocolCalls.state g.F.FilterCalls.state c.args.book.now) _
    (c.in-Err.ensures.no_list.0 refl) c.in-Err.ensures.tray c.in-Err.ensures.same refl
