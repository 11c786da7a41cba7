use Rattle.std.proofs.Common.{◌≤◌, ◌++◌, drop}
use Rattle.std.specs.Prelude.{flat_map}
use Rattle.flat_text.specs.Text.{text}
use Rattle.run_report.specs.Report.{Wrote}
use Rattle.flat_report.proofs.report.write_journals.Given as goal

abbrev pub invariant-loop-journal : goal.invariant-loop-journal
invariant-loop-journal g l = record {
  wrote : Wrote (g.K.Sink.holds l.initial.sink) (g.K.Sink.holds l.sink) (l.page ++ flat_map text (drop l.journal-index l.journals)) (l.initial.page ++ flat_map text l.journals);
  count : g.K.Sink.faults l.initial.sink ≤ g.K.Sink.faults l.sink;
}
