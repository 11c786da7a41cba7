use Rattle.std.proofs.Common.{arith}
use Rattle.flat_text.specs.Text.{text}
use Rattle.run_report.proofs.Parts.{wrote-item, wrote-in-item, on-err}
use Rattle.flat_report.proofs.report.write_journals.Goals as goal

pub returns-in_err-write_journal-clause-prefix : goal.returns-in_err-write_journal-clause-prefix
returns-in_err-write_journal-clause-prefix g c =
    on-err c.from_residual.result (wrote-in-item text c.args.journals.now c.loop-journal.journal-index c.journal-item.result c.journal-item.result _ _ _ _ _ c.loop-journal-test.true c.journal-item.is c.loop-journal.invariant.wrote c.in_err-write_journal.ensures.prefix)

pub loop-journal-preserved : goal.loop-journal-preserved
loop-journal-preserved g c = record {
  wrote = wrote-item text c.args.journals.now c.loop-journal.journal-index c.journal-item.result c.journal-item.result _ _ _ _ _ _ c.loop-journal-test.true c.journal-item.is c.loop-journal.invariant.wrote c.in_ok-write_journal.ensures.whole;
  count = omega (arith, c.write_journal.ensures.count, c.loop-journal.invariant.count);
}
