use Rattle.std.proofs.Common.{subst}
use Rattle.book_lemmas.specs.Views.{BookView}
use Rattle.book_parts.specs.Parts.{view_of}
use Rattle.drain_work.specs.Drains.{Gives, returned_from}
use Rattle.drain_work.proofs.Drained.{given_first, given_later}
use Rattle.drain_work.proofs.Places.{if_ok}
use Rattle.drain_work.proofs.drains.drain_modules.Goals as goal

pub returns-then-branch-clause-gives : goal.returns-then-branch-clause-gives
returns-then-branch-clause-gives g c =
    let old : BookView = view_of g.M.MiniportCalls.state g.P.ProtocolCalls.state g.F.FilterCalls.state c.args.book.now in
    let new : BookView = view_of g.M.MiniportCalls.state g.P.ProtocolCalls.state g.F.FilterCalls.state c.drain_bindings.new.book in
    given_first old new (subst (λ b. Gives old new (returned_from old.tray.net 0) b) c.if-branch.true c.in_ok-drain_bindings.ensures.gives)

pub returns-clause-gives : goal.returns-clause-gives
returns-clause-gives g c =
    let old : BookView = view_of g.M.MiniportCalls.state g.P.ProtocolCalls.state g.F.FilterCalls.state c.args.book.now in
    let mid : BookView = view_of g.M.MiniportCalls.state g.P.ProtocolCalls.state g.F.FilterCalls.state c.drain_bindings.new.book in
    let new : BookView = view_of g.M.MiniportCalls.state g.P.ProtocolCalls.state g.F.FilterCalls.state c.drain_filters.new.book in
    if_ok c.drain_filters.result _ _
    (λ moved more. given_later old mid new moved (subst (λ b. Gives old mid (returned_from old.tray.net 0) b) c.if-branch.false c.in_ok-drain_bindings.ensures.gives) more)
    c.drain_filters.ensures.gives
