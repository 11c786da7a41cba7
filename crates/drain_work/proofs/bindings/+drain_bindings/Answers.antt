use Rattle.std.proofs.Common.{◌<◌, subst}
use Rattle.stack_rules.specs.Drains.{returns_all}
use Rattle.book_lemmas.specs.Views.{BookView}
use Rattle.book_parts.specs.Parts.{view_of}
use Rattle.drain_work.specs.Drains.{Gives}
use Rattle.drain_work.proofs.Places.{if_ok}
use Rattle.drain_work.proofs.Returned.{returned_here, returned_later}
use Rattle.drain_work.proofs.bindings.+drain_bindings.Goals as goal

pub returns-then-branch-clause-gives : goal.returns-then-branch-clause-gives
returns-then-branch-clause-gives g t c =
    let old : BookView = view_of g.M.MiniportCalls.state g.P.ProtocolCalls.state g.F.FilterCalls.state c.args.book.now in
    let new : BookView = view_of g.M.MiniportCalls.state g.P.ProtocolCalls.state g.F.FilterCalls.state c.drain_binding.new.book in
    returned_here old new c.args.binding (subst (λ n. c.args.binding < n) c.requires.all c.if-binding-count.false)
    (subst (λ b. Gives old new (returns_all old.tray.net c.args.binding) b) c.if-branch.true c.in_ok-drain_binding.ensures.gives)

pub returns-clause-gives : goal.returns-clause-gives
returns-clause-gives g t c =
    let old : BookView = view_of g.M.MiniportCalls.state g.P.ProtocolCalls.state g.F.FilterCalls.state c.args.book.now in
    let mid : BookView = view_of g.M.MiniportCalls.state g.P.ProtocolCalls.state g.F.FilterCalls.state c.drain_binding.new.book in
    let new : BookView = view_of g.M.MiniportCalls.state g.P.ProtocolCalls.state g.F.FilterCalls.state c.drain_bindings.new.book in
    if_ok c.drain_bindings.result _ _
    (λ moved more. returned_later old mid new c.args.binding moved (subst (λ n. c.args.binding < n) c.requires.all c.if-binding-count.false)
    (subst (λ b. Gives old mid (returns_all old.tray.net c.args.binding) b) c.if-branch.false c.in_ok-drain_binding.ensures.gives) more)
    c.drain_bindings.ensures.gives
