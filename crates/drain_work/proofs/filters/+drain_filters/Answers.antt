use Rattle.std.proofs.Common.{◌<◌, get_or, ap, subst}
use Rattle.stack_rules.specs.Drains.{passes_all}
use Rattle.book_lemmas.specs.Views.{BookView}
use Rattle.book_parts.specs.Parts.{view_of}
use Rattle.drain_work.specs.Drains.{Gives}
use Rattle.drain_work.proofs.Places.{if_ok}
use Rattle.drain_work.proofs.Passed.{passed_here, passed_later}
use Rattle.drain_work.proofs.filters.+drain_filters.Goals as goal

pub returns-then-branch-clause-gives : goal.returns-then-branch-clause-gives
returns-then-branch-clause-gives g t c =
    let old : BookView = view_of g.M.MiniportCalls.state g.P.ProtocolCalls.state g.F.FilterCalls.state c.args.book.now in
    let new : BookView = view_of g.M.MiniportCalls.state g.P.ProtocolCalls.state g.F.FilterCalls.state c.drain_filter.new.book in
    passed_here old new c.args.index (get_or c.order.result.now c.args.index 0) (subst (λ n. c.args.index < n) c.requires.all c.if-index-count.false) (ap (λ fs. get_or fs c.args.index 0) c.order.ensures)
    (subst (λ b. Gives old new (passes_all old.tray.net (get_or c.order.result.now c.args.index 0)) b) c.if-branch.true c.in_ok-drain_filter.ensures.gives)

pub returns-clause-gives : goal.returns-clause-gives
returns-clause-gives g t c =
    let old : BookView = view_of g.M.MiniportCalls.state g.P.ProtocolCalls.state g.F.FilterCalls.state c.args.book.now in
    let mid : BookView = view_of g.M.MiniportCalls.state g.P.ProtocolCalls.state g.F.FilterCalls.state c.drain_filter.new.book in
    let new : BookView = view_of g.M.MiniportCalls.state g.P.ProtocolCalls.state g.F.FilterCalls.state c.drain_filters.new.book in
    if_ok c.drain_filters.result _ _
    (λ moved more. passed_later old mid new c.args.index (get_or c.order.result.now c.args.index 0) moved (subst (λ n. c.args.index < n) c.requires.all c.if-index-count.false) (ap (λ fs. get_or fs c.args.index 0) c.order.ensures)
    (subst (λ b. Gives old mid (passes_all old.tray.net (get_or c.order.result.now c.args.index 0)) b) c.if-branch.false c.in_ok-drain_filter.ensures.gives) more)
    c.drain_filters.ensures.gives
