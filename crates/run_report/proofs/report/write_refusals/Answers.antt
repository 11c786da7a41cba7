use Rattle.std.proofs.Common.{arith, refl}
use Rattle.run_report.specs.Report.{refused_line}
use Rattle.run_report.proofs.Parts.{wrote-item, wrote-in-item, on-err}
use Rattle.run_report.proofs.report.write_refusals.Goals as goal

pub returns-in_err-write_refusal-clause-prefix : goal.returns-in_err-write_refusal-clause-prefix
returns-in_err-write_refusal-clause-prefix g c =
    on-err c.from_residual.result (wrote-in-item refused_line c.args.refused.now c.loop-one.one-index _ _ _ _ _ _ _ c.loop-one-test.true refl c.loop-one.invariant.wrote c.in_err-write_refusal.ensures.prefix)

pub loop-one-preserved : goal.loop-one-preserved
loop-one-preserved g c = record {
  wrote = wrote-item refused_line c.args.refused.now c.loop-one.one-index _ _ _ _ _ _ _ _ c.loop-one-test.true refl c.loop-one.invariant.wrote c.in_ok-write_refusal.ensures.whole;
  count = omega (arith, c.write_refusal.ensures.count, c.loop-one.invariant.count);
}
