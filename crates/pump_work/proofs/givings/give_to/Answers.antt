use Rattle.book_parts.specs.Parts.{view_of}
use Rattle.pump_work.proofs.Takers.{not_binding}
use Rattle.pump_work.proofs.givings.give_to.Goals as goal

pub unreachable-requires : goal.unreachable-requires
unreachable-requires g c =
    not_binding (view_of g.M.MiniportCalls.state g.P.ProtocolCalls.state g.F.FilterCalls.state c.args.book.now).tray.net c.args.request.now c.args.to _ c.requires.next c.in-Binding.is
