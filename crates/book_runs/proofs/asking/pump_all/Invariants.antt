use Rattle.std.proofs.Common.{◌≡◌}
use Rattle.journal_types.specs.declared.Event.TheVariants as event
use Rattle.journal_types.specs.declared.Reply.TheVariants as reply
use Rattle.stack_rules.specs.Work.{work}
use Rattle.book_parts.specs.Parts.{view_of}
use Rattle.book_runs.specs.Adds.{AddsTurns, AreEach}
use Rattle.book_runs.specs.Runs.{IsBetween, KeepsNone}
use Rattle.book_runs.proofs.asking.pump_all.Given as goal

abbrev pub invariant-loop : goal.invariant-loop
invariant-loop g l = record {
  between : IsBetween (view_of g.M.MiniportCalls.state g.P.ProtocolCalls.state g.F.FilterCalls.state l.book);
  phase : l.book.tray.net.phase ≡ l.initial.book.tray.net.phase;
  keeps : KeepsNone (view_of g.M.MiniportCalls.state g.P.ProtocolCalls.state g.F.FilterCalls.state l.initial.book) (view_of g.M.MiniportCalls.state g.P.ProtocolCalls.state g.F.FilterCalls.state l.book);
  added : AddsTurns (AreEach l.who event.Pump reply.Moved) (view_of g.M.MiniportCalls.state g.P.ProtocolCalls.state g.F.FilterCalls.state l.initial.book) (view_of g.M.MiniportCalls.state g.P.ProtocolCalls.state g.F.FilterCalls.state l.book);
}

abbrev pub decreases-loop : goal.decreases-loop
decreases-loop g l = work l.book.tray.net
