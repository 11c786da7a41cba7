use Rattle.std.proofs.Common.{None, map, length, ap, refl}
use Rattle.book_lemmas.specs.Views.{BookView, HeldView}
use Rattle.book_parts.specs.Parts.{view_of}
use Rattle.lend_work.specs.Visits.{bench}
use Rattle.lend_work.specs.Lends.Carries.{arrives}
use Rattle.lend_work.proofs.Carrying.{climbs_from, may_arrive}
use Rattle.lend_work.proofs.lends.carry.Goals as goal

pub arrive-requires-clause-may : goal.arrive-requires-clause-may
arrive-requires-clause-may g c =
    (may_arrive (bench (map g.F.FilterCalls.state c.climb-went.new.filters.items) c.climb-went.new.pools.items c.climb-went.new.tray) None c.requires.may refl
    (climbs_from (view_of g.M.MiniportCalls.state g.P.ProtocolCalls.state g.F.FilterCalls.state c.args.book.now) c.args.list.now _ _ _ None c.as_slice.ensures.value (ap length c.order-filters.ensures) c.in-None.ensures)).0

pub arrive-requires-clause-room : goal.arrive-requires-clause-room
arrive-requires-clause-room g c =
    (may_arrive (bench (map g.F.FilterCalls.state c.climb-went.new.filters.items) c.climb-went.new.pools.items c.climb-went.new.tray) None c.requires.may refl
    (climbs_from (view_of g.M.MiniportCalls.state g.P.ProtocolCalls.state g.F.FilterCalls.state c.args.book.now) c.args.list.now _ _ _ None c.as_slice.ensures.value (ap length c.order-filters.ensures) c.in-None.ensures)).1

pub returns-in-None : goal.returns-in-None
returns-in-None g c =
    let v : BookView = view_of g.M.MiniportCalls.state g.P.ProtocolCalls.state g.F.FilterCalls.state c.args.book.now in
    let held : HeldView = record v.held { filters = map g.F.FilterCalls.state c.climb-went.new.filters.items; filter_pools = c.climb-went.new.pools.items } in
    arrives (record { tray = c.climb-went.new.tray; held = held })
    (climbs_from v c.args.list.now _ _ _ None c.as_slice.ensures.value (ap length c.order-filters.ensures) c.in-None.ensures) refl c.arrive.ensures refl
