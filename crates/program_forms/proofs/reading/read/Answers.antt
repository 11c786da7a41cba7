use Rattle.std.proofs.Common.{◌<◌, ◌≤◌, Some, ap, ◌∙◌, arith, length}
use Rattle.serde_json.specs.View.{items_view}
use Rattle.program_forms.proofs.Lists.{program_in-long, Gives-program_in}
use Rattle.program_forms.proofs.reading.read.Goals as goal

pub returns-then-rules-gt16 : goal.returns-then-rules-gt16
returns-then-rules-gt16 c =
    program_in-long _ c.as_slice-rules.result.now (ap (λ vs. Some (items_view vs)) c.as_slice-rules.ensures.value ∙ c.in-Some.ensures) (omega arith)

pub returns : goal.returns
returns c =
    Gives-program_in _ c.as_slice-rules.result.now _ (ap (λ vs. Some (items_view vs)) c.as_slice-rules.ensures.value ∙ c.in-Some.ensures) (omega arith) c.rules_of.ensures
