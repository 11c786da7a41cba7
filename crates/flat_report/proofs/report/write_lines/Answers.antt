use Rattle.std.proofs.Common.{arith}
use Rattle.run_report.proofs.Parts.{wrote-prefix, wrote-line, wrote-in-line, on-err}
use Rattle.flat_report.proofs.report.write_lines.Goals as goal

pub returns-in_err-push_next-clause-prefix : goal.returns-in_err-push_next-clause-prefix
returns-in_err-push_next-clause-prefix g c = on-err c.from_residual.result (wrote-prefix _ _ _ _ c.loop-sink.invariant.wrote)

pub returns-in_err-write_full-clause-prefix : goal.returns-in_err-write_full-clause-prefix
returns-in_err-write_full-clause-prefix g c =
    on-err c.from_residual-in_err-write_full.result (wrote-in-line _ _ _ _ _ _ _ _ c.in_ok-push_next.ensures.added c.in_ok-push_next.ensures.left c.loop-sink.invariant.wrote c.in_err-write_full.ensures.prefix)

pub loop-sink-preserved : goal.loop-sink-preserved
loop-sink-preserved g c = record {
  wrote = wrote-line _ _ _ _ _ _ _ _ _ c.in_ok-push_next.ensures.added c.in_ok-push_next.ensures.left c.loop-sink.invariant.wrote c.in_ok-write_full.ensures.whole;
  count = omega (arith, c.write_full.ensures.count, c.loop-sink.invariant.count);
}
