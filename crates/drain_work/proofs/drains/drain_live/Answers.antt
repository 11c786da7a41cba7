use Rattle.std.proofs.Common.{true, false, refl, ap, subst, ◌∙◌}
use Rattle.stack_rules.specs.Net.{Net}
use Rattle.stack_rules.specs.Requests.{next_giving}
use Rattle.stack_rules.specs.Tests.{is_virtual}
use Rattle.book_lemmas.specs.Views.{BookView}
use Rattle.book_parts.specs.Parts.{view_of}
use Rattle.drain_work.specs.Drains.{Gives, IsSame, given_rows}
use Rattle.drain_work.proofs.Drained.{given_drained}
use Rattle.drain_work.proofs.Rings.{drains_ring}
use Rattle.drain_work.proofs.Sames.{rests_same}
use Rattle.drain_work.proofs.drains.drain_live.Goals as goal

pub returns-then-branch-clause-did : goal.returns-then-branch-clause-did
returns-then-branch-clause-did g c =
    let old : BookView = view_of g.M.MiniportCalls.state g.P.ProtocolCalls.state g.F.FilterCalls.state c.args.book.now in
    let new : BookView = view_of g.M.MiniportCalls.state g.P.ProtocolCalls.state g.F.FilterCalls.state c.drain_modules.new.book in
    let gives : Gives old new (given_rows old.tray.net) true = subst (λ b. Gives old new (given_rows old.tray.net) b) c.if-branch.true c.in_ok-drain_modules.ensures.gives in
    given_drained old new c.requires.rests c.requires.requests (gives.gave refl)

pub drain_ring-requires-clause-drains : goal.drain_ring-requires-clause-drains
drain_ring-requires-clause-drains g c =
    let old : BookView = view_of g.M.MiniportCalls.state g.P.ProtocolCalls.state g.F.FilterCalls.state c.args.book.now in
    let mid : BookView = view_of g.M.MiniportCalls.state g.P.ProtocolCalls.state g.F.FilterCalls.state c.drain_modules.new.book in
    let gives : Gives old mid (given_rows old.tray.net) false = subst (λ b. Gives old mid (given_rows old.tray.net) b) c.if-branch.false c.in_ok-drain_modules.ensures.gives in
    let same : IsSame old mid = gives.still refl in
    drains_ring mid (rests_same c.requires.rests same) (ap next_giving same.tray.net ∙ c.requires.requests) (ap (λ (n : Net). is_virtual n.head.kind) same.tray.net ∙ c.requires.rings)
    (ap given_rows same.tray.net ∙ gives.none refl)
