use Rattle.std.proofs.Common.{false}
use Rattle.ndis_base.specs.declared.Phase.TheVariants as phase
use Rattle.run_laws.specs.Pausing.{pause_to_go}
use Rattle.book_parts.specs.Parts.{view_of}
use Rattle.book_runs.specs.Adds.{AddsTurns, ArePauseSteps}
use Rattle.book_runs.specs.Runs.{IsInPhase, KeepsNone}
use Rattle.book_runs.proofs.pausing.pause_all.Given as goal

abbrev pub invariant-loop : goal.invariant-loop
invariant-loop g l = record {
  pausing : IsInPhase (view_of g.M.MiniportCalls.state g.P.ProtocolCalls.state g.F.FilterCalls.state l.book) phase.Pausing;
  keeps : KeepsNone (view_of g.M.MiniportCalls.state g.P.ProtocolCalls.state g.F.FilterCalls.state l.initial.book) (view_of g.M.MiniportCalls.state g.P.ProtocolCalls.state g.F.FilterCalls.state l.book);
  added : AddsTurns (ArePauseSteps l.who false) (view_of g.M.MiniportCalls.state g.P.ProtocolCalls.state g.F.FilterCalls.state l.initial.book) (view_of g.M.MiniportCalls.state g.P.ProtocolCalls.state g.F.FilterCalls.state l.book);
}

abbrev pub decreases-loop : goal.decreases-loop
decreases-loop g l = pause_to_go l.book.tray.net
