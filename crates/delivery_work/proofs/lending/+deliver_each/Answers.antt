use Rattle.std.proofs.Common.{◌<◌, ◌≡◌, map, length, sym, ◌∙◌, arith}
use Rattle.std.proofs.lemmas.List.{length-map}
use Rattle.delivery_work.specs.Desks.{Desk, desk}
use Rattle.delivery_work.proofs.Lent.{may_next, may_lend, may_own, rooms_above}
use Rattle.delivery_work.proofs.Placed.{delivers_more, delivers_last, set_length}
use Rattle.delivery_work.proofs.lending.+deliver_each.Goals as goal

pub next_taker-requires : goal.next_taker-requires
next_taker-requires g t c = c.requires.may.sized.fits.some

pub lend_at-requires : goal.lend_at-requires
lend_at-requires g t c =
    let d : Desk = desk (map g.P.ProtocolCalls.state c.args.protocols.now.items) c.args.pools.now.items c.args.tray.now in
    let many : length d.protocols ≡ length c.args.protocols.now.items = length-map c.args.protocols.now.items g.P.ProtocolCalls.state in
    record {
      protocols = omega (arith, many, c.requires.may.below);
      pools = omega (arith, c.requires.may.below, c.requires.may.pools);
      may = may_lend c.args.first c.args.list d c.requires.may;
      room = c.requires.rooms c.args.first 0 (omega arith) (omega (arith, many, c.requires.may.below, c.requires.all));
    }

pub deliver_each-requires : goal.deliver_each-requires
deliver_each-requires g t c κs within =
    let d : Desk = desk (map g.P.ProtocolCalls.state c.args.protocols.now.items) c.args.pools.now.items c.args.tray.now in
    let mid : Desk = desk (map g.P.ProtocolCalls.state c.lend_at.new.protocols.items) c.lend_at.new.pools.items c.lend_at.new.tray in
    let many : length d.protocols ≡ length c.args.protocols.now.items = length-map c.args.protocols.now.items g.P.ProtocolCalls.state in
    let less : c.args.first < c.in-Some.next = omega (arith, c.in-Some.ensures.above) in (
      omega (arith, less, c.in-Some.ensures.below, c.decreases),
      (
        within,
        (
          c.requires.all ∙ sym (set_length g.P.ProtocolCalls.room c.args.protocols.now.items c.lend_at.new.protocols.items c.args.first _ c.lend_at.ensures.rooms),
          (
            may_next c.args.first c.in-Some.next c.args.list d mid c.requires.may c.lend_at.ensures.lends less (omega (arith, many, c.requires.all, c.in-Some.ensures.below)),
            rooms_above _ _ c.args.first c.in-Some.next c.args.many _ c.requires.rooms c.lend_at.ensures.rooms less,
          ),
        ),
      ),
    )

pub own_at-requires : goal.own_at-requires
own_at-requires g t c =
    let d : Desk = desk (map g.P.ProtocolCalls.state c.args.protocols.now.items) c.args.pools.now.items c.args.tray.now in
    let many : length d.protocols ≡ length c.args.protocols.now.items = length-map c.args.protocols.now.items g.P.ProtocolCalls.state in
    record {
      protocols = omega (arith, many, c.requires.may.below);
      pools = omega (arith, c.requires.may.below, c.requires.may.pools);
      may = may_own c.args.first c.args.list d c.requires.may;
      room = c.requires.rooms c.args.first 0 (omega arith) (omega (arith, many, c.requires.may.below, c.requires.all));
    }

pub returns-in-Some : goal.returns-in-Some
returns-in-Some g t c =
    delivers_more c.args.first c.in-Some.next c.args.many c.args.list
    (desk (map g.P.ProtocolCalls.state c.args.protocols.now.items) c.args.pools.now.items c.args.tray.now)
    (desk (map g.P.ProtocolCalls.state c.lend_at.new.protocols.items) c.lend_at.new.pools.items c.lend_at.new.tray) _
    c.requires.may.sized c.in-Some.ensures.above c.in-Some.ensures.taken c.lend_at.ensures.lends c.deliver_each.ensures

pub returns-in-None : goal.returns-in-None
returns-in-None g t c =
    delivers_last c.args.first c.args.many c.args.list (desk (map g.P.ProtocolCalls.state c.args.protocols.now.items) c.args.pools.now.items c.args.tray.now) _ c.in-None.ensures.none c.own_at.ensures
