use Rattle.std.proofs.Common.{◌+◌, ◌≡◌, map, length, sym, ◌∙◌, arith}
use Rattle.std.proofs.lemmas.List.{length-map}
use Rattle.delivery_work.specs.Desks.{Desk, desk}
use Rattle.delivery_work.proofs.Lent.{rooms_above}
use Rattle.delivery_work.proofs.Placed.{set_length}
use Rattle.lend_work.proofs.Arriving.{may_further, lends_more}
use Rattle.lend_work.proofs.bindings.+lend_each.Goals as goal

pub lend_each-requires : goal.lend_each-requires
lend_each-requires g t c κs within =
    let d : Desk = desk (map g.P.ProtocolCalls.state c.args.protocols.now.items) c.args.pools.now.items c.args.tray.now in
    let mid : Desk = desk (map g.P.ProtocolCalls.state c.lend_at.new.protocols.items) c.lend_at.new.pools.items c.lend_at.new.tray in
    let many : length d.protocols ≡ length c.args.protocols.now.items = length-map c.args.protocols.now.items g.P.ProtocolCalls.state in (
      omega (arith, c.in-Some.ensures.above, c.in-Some.ensures.below, c.decreases),
      (
        within,
        (
          c.requires.all ∙ sym (set_length g.P.ProtocolCalls.room c.args.protocols.now.items c.lend_at.new.protocols.items c.in-Some.binding _ c.lend_at.ensures.rooms),
          (
            may_further c.args.from c.in-Some.binding c.args.list.now d mid c.requires.may c.in-Some.ensures.above (omega (arith, many, c.requires.all, c.in-Some.ensures.below)) c.lend_at.ensures.lends,
            rooms_above _ _ c.in-Some.binding (c.in-Some.binding + 1) c.args.many _ (λ k x low high. c.requires.rooms k x (omega (arith, low, c.in-Some.ensures.above)) high) c.lend_at.ensures.rooms (omega arith),
          ),
        ),
      ),
    )

pub returns-in-Some : goal.returns-in-Some
returns-in-Some g t c =
    lends_more c.args.from c.in-Some.binding c.args.many c.args.list.now
    (desk (map g.P.ProtocolCalls.state c.args.protocols.now.items) c.args.pools.now.items c.args.tray.now)
    (desk (map g.P.ProtocolCalls.state c.lend_at.new.protocols.items) c.lend_at.new.pools.items c.lend_at.new.tray) _
    c.requires.may.sized c.in-Some.ensures.above c.in-Some.ensures.taken c.lend_at.ensures.lends c.lend_each.ensures
