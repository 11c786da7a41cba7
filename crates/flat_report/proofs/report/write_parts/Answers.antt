use Rattle.std.specs.Prelude.{flat_map}
use Rattle.flat_text.specs.Text.{text}
use Rattle.run_report.specs.Report.{refused_line}
use Rattle.run_report.proofs.Parts.{wrote-in-first, second-whole, second-part, on-err}
use Rattle.flat_report.proofs.report.write_parts.Goals as goal

pub returns-in_err-write_journals-clause-prefix : goal.returns-in_err-write_journals-clause-prefix
returns-in_err-write_journals-clause-prefix g c =
    on-err c.from_residual.result (wrote-in-first _ _ c.args.page.now (flat_map text c.args.journals.now) (flat_map refused_line c.args.refused.now) c.in_err-write_journals.ensures.prefix)

pub returns-clause-whole : goal.returns-clause-whole
returns-clause-whole g c =
    second-whole c.write_refusals.result _ _ _ c.args.page.now _ _ (flat_map text c.args.journals.now) (flat_map refused_line c.args.refused.now) c.in_ok-write_journals.ensures.whole c.write_refusals.ensures.whole

pub returns-clause-prefix : goal.returns-clause-prefix
returns-clause-prefix g c =
    second-part c.write_refusals.result _ _ _ c.args.page.now _ (flat_map text c.args.journals.now) (flat_map refused_line c.args.refused.now) c.in_ok-write_journals.ensures.whole c.write_refusals.ensures.prefix
