use Rattle.std.proofs.Common.{refl}
use Rattle.std.proofs.lemmas.Bool.{false≢true}
use Rattle.book_parts.specs.Parts.{view_of}
use Rattle.receive_work.proofs.Indicating.{indicates_starts, indicates_lacks}
use Rattle.receive_work.proofs.indications.indicate_running.Goals as goal

pub returns-in-Ok : goal.returns-in-Ok
returns-in-Ok g c =
    indicates_starts c.args.frames.now (view_of g.M.MiniportCalls.state g.P.ProtocolCalls.state g.F.FilterCalls.state c.args.book.now) _ _
    c.in-Ok.ensures.starts (λ e. false≢true (c.in-Ok.ensures.no_list.1 e)) refl c.in-Ok.ensures.number

pub returns-in-Err : goal.returns-in-Err
returns-in-Err g c =
    indicates_lacks c.args.frames.now (view_of g.M.MiniportCalls.state g.P.ProtocolCalls.state g.F.FilterCalls.state c.args.book.now) _
    (c.in-Err.ensures.no_list.0 refl) c.in-Err.ensures.tray c.in-Err.ensures.pool refl
