use Rattle.std.proofs.Common.{map, take}
use Rattle.book_parts.specs.Parts.{view_of}
use Rattle.book_runs.specs.Runs.{IsBetween}
use Rattle.book_scripts.specs.Scripts.{MakesEach}
use Rattle.book_scripts.proofs.runs.run_calls.Given as goal

abbrev pub invariant-loop-call : goal.invariant-loop-call
invariant-loop-call g l = record {
  made : MakesEach (take l.call-index (map (λ c. c.now) l.calls)) (view_of g.M.MiniportCalls.state g.P.ProtocolCalls.state g.F.FilterCalls.state l.initial.book) (view_of g.M.MiniportCalls.state g.P.ProtocolCalls.state g.F.FilterCalls.state l.book);
}
