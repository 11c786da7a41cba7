use Rattle.std.proofs.Common.{◌<◌, subst, refl}
use Rattle.std.proofs.lemmas.List.{length-map}
use Rattle.ndis_base.specs.declared.ModuleId.TheVariants.{Binding}
use Rattle.book_parts.specs.Parts.{view_of}
use Rattle.binding_work.proofs.Owned.{one_begins, one_done, one_unmoved, on_any}
use Rattle.binding_work.proofs.Sending.{is_bound}
use Rattle.binding_work.proofs.owns.deliver_to_one.Goals as goal

pub own_at-requires-clause-protocols : goal.own_at-requires-clause-protocols
own_at-requires-clause-protocols g c =
    let v = view_of g.M.MiniportCalls.state g.P.ProtocolCalls.state g.F.FilterCalls.state c.args.book.now in
    subst (λ n. c.args.binding < n) (length-map c.args.book.now.protocols.items g.P.ProtocolCalls.state) (is_bound v c.args.binding c.requires.book c.requires.idle c.requires.there).protocols

pub own_at-requires-clause-pools : goal.own_at-requires-clause-pools
own_at-requires-clause-pools g c =
    let v = view_of g.M.MiniportCalls.state g.P.ProtocolCalls.state g.F.FilterCalls.state c.args.book.now in
    (is_bound v c.args.binding c.requires.book c.requires.idle c.requires.there).pools

pub own_at-requires-clause-first : goal.own_at-requires-clause-first
own_at-requires-clause-first g c = one_begins _ c.requires.book c.requires.first

pub own_at-requires-clause-pool : goal.own_at-requires-clause-pool
own_at-requires-clause-pool g c =
    let v = view_of g.M.MiniportCalls.state g.P.ProtocolCalls.state g.F.FilterCalls.state c.args.book.now in
    (c.requires.book.stands.pools (Binding c.args.binding) (is_bound v c.args.binding c.requires.book c.requires.idle c.requires.there).there).bytes

pub returns-in_err-own_at-clause-memory : goal.returns-in_err-own_at-clause-memory
returns-in_err-own_at-clause-memory g c =
    let v = view_of g.M.MiniportCalls.state g.P.ProtocolCalls.state g.F.FilterCalls.state c.args.book.now in
    on_any _ _ (one_unmoved v _ c.requires.book c.in_err-own_at.ensures.tray c.in_err-own_at.ensures.same_protocols c.in_err-own_at.ensures.same_pools refl)

pub returns-clause-did : goal.returns-clause-did
returns-clause-did g c =
    let v = view_of g.M.MiniportCalls.state g.P.ProtocolCalls.state g.F.FilterCalls.state c.args.book.now in
    (one_done v _ c.args.binding c.requires.book c.requires.idle (is_bound v c.args.binding c.requires.book c.requires.idle c.requires.there) c.requires.running c.requires.taken c.requires.kind
    c.in_ok-own_at.ensures.owns c.own_at.ensures.protocols c.own_at.ensures.pools refl).did

pub returns-clause-turn : goal.returns-clause-turn
returns-clause-turn g c =
    let v = view_of g.M.MiniportCalls.state g.P.ProtocolCalls.state g.F.FilterCalls.state c.args.book.now in
    (one_done v _ c.args.binding c.requires.book c.requires.idle (is_bound v c.args.binding c.requires.book c.requires.idle c.requires.there) c.requires.running c.requires.taken c.requires.kind
    c.in_ok-own_at.ensures.owns c.own_at.ensures.protocols c.own_at.ensures.pools refl).turn
