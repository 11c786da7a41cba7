use Rattle.std.proofs.Common.{ap, sym, subst, arith, map, length}
use Rattle.book_lemmas.specs.Views.{BookView}
use Rattle.book_parts.specs.Parts.{view_of}
use Rattle.halt_work.specs.Risen.{sides, CanEachRise}
use Rattle.halt_work.proofs.Shut.{all_shut}
use Rattle.halt_work.proofs.halts.halt_all.Goals as goal

pub close_from-requires-clause-kept : goal.close_from-requires-clause-kept
close_from-requires-clause-kept g c = c.requires.may.protocols

pub detach_each-requires-clause-room : goal.detach_each-requires-clause-room
detach_each-requires-clause-room g c =
    let same = ap length c.order.ensures in
    let few = c.requires.few in
    let places = c.requires.places in
    omega (arith, same, few, places)

pub detach_each-requires-clause-rise : goal.detach_each-requires-clause-rise
detach_each-requires-clause-rise g c =
    subst (CanEachRise (sides (map g.F.FilterCalls.state c.args.book.now.filters.items) c.args.book.now.seats.items c.args.book.now.shelf.items)) (sym c.order.ensures) c.requires.may.filters

pub halt_miniport-requires : goal.halt_miniport-requires
halt_miniport-requires g c = c.requires.may.miniport

pub write_halted-requires-clause-numbers : goal.write_halted-requires-clause-numbers
write_halted-requires-clause-numbers g c = c.requires.numbers

pub write_halted-requires-clause-room : goal.write_halted-requires-clause-room
write_halted-requires-clause-room g c =
    let few = c.requires.few in
    let rows = c.requires.wide.rows in
    omega (arith, few, rows)

pub returns : goal.returns
returns g c =
    let old : BookView = view_of g.M.MiniportCalls.state g.P.ProtocolCalls.state g.F.FilterCalls.state c.args.book.now in
    all_shut old c.args.bindings _ _ _ _ _ c.write_halted.ensures c.order.ensures c.halt_miniport.ensures c.close_from.ensures c.detach_each.ensures
