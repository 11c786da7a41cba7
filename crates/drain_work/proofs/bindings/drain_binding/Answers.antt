use Rattle.std.proofs.Common.{◌<◌, map, sym, ap, ◌∙◌, subst}
use Rattle.std.proofs.lemmas.List.{length-map}
use Rattle.book_lemmas.specs.Views.{BookView}
use Rattle.book_parts.specs.Parts.{view_of}
use Rattle.drain_work.proofs.Returned.{binding_gives, called_at}
use Rattle.drain_work.proofs.Places.{if_ok, on_err_three}
use Rattle.drain_work.proofs.Sames.{same_roomed}
use Rattle.drain_work.proofs.bindings.drain_binding.Goals as goal

pub drain_at-requires-clause-protocols : goal.drain_at-requires-clause-protocols
drain_at-requires-clause-protocols g c =
    subst (λ n. c.args.binding < n) (length-map c.args.book.now.protocols.items g.P.ProtocolCalls.state) (subst (λ n. c.args.binding < n) (sym c.requires.rests.book.stands.protocols) c.requires.there)

pub drain_at-requires-clause-pools : goal.drain_at-requires-clause-pools
drain_at-requires-clause-pools g c = subst (λ n. c.args.binding < n) (sym c.requires.rests.book.stands.protocol_pools) c.requires.there

pub returns-clause-gives : goal.returns-clause-gives
returns-clause-gives g c =
    let old : BookView = view_of g.M.MiniportCalls.state g.P.ProtocolCalls.state g.F.FilterCalls.state c.args.book.now in
    let new : BookView = record {
      tray = c.drain_at.new.tray;
      held = record old.held { protocols = map g.P.ProtocolCalls.state c.drain_at.new.protocols.items; protocol_pools = c.drain_at.new.pools.items };
    } in
    if_ok c.drain_at.result _ _
    (λ moved t. binding_gives old new c.args.binding _ _ moved c.requires.rests c.requires.there t
    (called_at old.held c.args.binding _ _ new.held.protocols new.held.protocol_pools c.drain_at.ensures.protocols c.drain_at.ensures.pools))
    c.drain_at.ensures.ticks

pub returns-clause-memory : goal.returns-clause-memory
returns-clause-memory g c =
    let old : BookView = view_of g.M.MiniportCalls.state g.P.ProtocolCalls.state g.F.FilterCalls.state c.args.book.now in
    let new : BookView = record {
      tray = c.drain_at.new.tray;
      held = record old.held { protocols = map g.P.ProtocolCalls.state c.drain_at.new.protocols.items; protocol_pools = c.drain_at.new.pools.items };
    } in
    on_err_three c.drain_at.result _ _ _ _
    (λ protocols tray pools. same_roomed old new tray
    (ap (λ ps. record old.held { protocols = ps; protocol_pools = new.held.protocol_pools }) protocols ∙ ap (λ ps. record old.held { protocol_pools = ps }) pools))
    c.drain_at.ensures.same_protocols c.drain_at.ensures.tray c.drain_at.ensures.same_pools
