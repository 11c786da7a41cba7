-- The report of a run: the text of each journal, lowest stack first, and behind them the lines of the
-- calls that lanes refused, sorted by lane and then by call.
use Rattle.std.specs.Prelude.{ℕ, ◌++◌, List, flat_map}
use Rattle.flat_journal.specs.Flat.{FlatView}
use Rattle.flat_text.specs.Text.{text}
use Rattle.run_report.specs.Report.{refused_line, sorted}
use Rattle.run_report.specs.declared.refused.Refused.{Refused}

abbrev pub report : List FlatView → List Refused → List ℕ
report journals refused = flat_map text journals ++ flat_map refused_line (sorted refused)
