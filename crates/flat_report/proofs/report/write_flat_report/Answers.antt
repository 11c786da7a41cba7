use Rattle.std.proofs.Common.{ap, ◌∙◌, ◌++◌}
use Rattle.std.specs.Prelude.{flat_map}
use Rattle.flat_text.specs.Text.{text}
use Rattle.run_report.specs.Report.{refused_line}
use Rattle.run_report.proofs.Parts.{wrote-in-last, on-err}
use Rattle.flat_report.proofs.report.write_flat_report.Goals as goal

pub returns-in_err-write_whole-clause-prefix : goal.returns-in_err-write_whole-clause-prefix
returns-in_err-write_whole-clause-prefix g c =
    let journals = flat_map text c.args.journals.now in
    let parts = journals ++ flat_map refused_line c.deref.result.now in
    on-err c.from_residual-in_err-write_whole.result
    (wrote-in-last _ _ _ _ _ _ _ (ap (λ start. start ++ parts) c.in_ok-page.ensures ∙ ap (λ refused. journals ++ flat_map refused_line refused) (c.deref.ensures.value ∙ c.in_ok-sorted.ensures)) c.bytes.ensures c.in_ok-write_parts.ensures.whole c.in_err-write_whole.ensures.prefix)
