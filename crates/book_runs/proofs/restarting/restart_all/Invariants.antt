use Rattle.journal_types.specs.declared.Event.TheVariants as event
use Rattle.journal_types.specs.declared.Reply.TheVariants as reply
use Rattle.run_laws.specs.Opening.{restart_to_go}
use Rattle.book_parts.specs.Parts.{view_of}
use Rattle.book_runs.specs.Adds.{AddsTurns, AreEach}
use Rattle.book_runs.specs.Runs.{IsRestarting}
use Rattle.book_runs.proofs.restarting.restart_all.Given as goal

abbrev pub invariant-loop : goal.invariant-loop
invariant-loop g l = record {
  restarting : IsRestarting (view_of g.M.MiniportCalls.state g.P.ProtocolCalls.state g.F.FilterCalls.state l.book);
  added : AddsTurns (AreEach l.who event.RestartNext reply.Next) (view_of g.M.MiniportCalls.state g.P.ProtocolCalls.state g.F.FilterCalls.state l.initial.book) (view_of g.M.MiniportCalls.state g.P.ProtocolCalls.state g.F.FilterCalls.state l.book);
}

abbrev pub decreases-loop : goal.decreases-loop
decreases-loop g l = restart_to_go l.book.tray.net
