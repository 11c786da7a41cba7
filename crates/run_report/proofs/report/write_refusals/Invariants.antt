use Rattle.std.proofs.Common.{◌≤◌, ◌++◌, drop}
use Rattle.std.specs.Prelude.{flat_map}
use Rattle.run_report.specs.Report.{Wrote, refused_line}
use Rattle.run_report.proofs.report.write_refusals.Given as goal

abbrev pub invariant-loop-one : goal.invariant-loop-one
invariant-loop-one g l = record {
  wrote : Wrote (g.K.Sink.holds l.initial.sink) (g.K.Sink.holds l.sink) (l.page ++ flat_map refused_line (drop l.one-index l.refused)) (l.initial.page ++ flat_map refused_line l.refused);
  count : g.K.Sink.faults l.initial.sink ≤ g.K.Sink.faults l.sink;
}
