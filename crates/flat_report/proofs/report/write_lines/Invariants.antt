use Rattle.std.proofs.Common.{◌≤◌, ◌++◌, length}
use Rattle.std.specs.List.{concat}
use Rattle.run_report.specs.Report.{Wrote}
use Rattle.flat_report.proofs.report.write_lines.Given as goal

abbrev pub invariant-loop-sink : goal.invariant-loop-sink
invariant-loop-sink g l = record {
  wrote : Wrote (g.K.Sink.holds l.initial.sink) (g.K.Sink.holds l.sink) (l.page ++ concat l.lines) (l.initial.page ++ concat l.initial.lines);
  count : g.K.Sink.faults l.initial.sink ≤ g.K.Sink.faults l.sink;
}

abbrev pub decreases-loop-sink : goal.decreases-loop-sink
decreases-loop-sink g l = length l.lines
