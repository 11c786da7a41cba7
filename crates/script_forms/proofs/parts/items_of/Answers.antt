use Rattle.std.proofs.Common.{Some, inl, inr, ap, ◌∙◌, arith}
use Rattle.serde_json.specs.View.{items_view}
use Rattle.script_forms.proofs.Lists.{list_in-good, list_in-short, list_in-long}
use Rattle.script_forms.proofs.parts.items_of.Goals as goal

pub returns-then-values-high : goal.returns-then-values-high
returns-then-values-high c =
    list_in-good _ _ _ c.as_slice-values.result.now (ap (λ vs. Some (items_view vs)) c.as_slice-values.ensures.value ∙ c.in-Some.ensures) (omega arith) (omega arith)

pub returns-else-low-values : goal.returns-else-low-values
returns-else-low-values c =
    let is = ap (λ vs. Some (items_view vs)) c.as_slice-values.ensures.value ∙ c.in-Some.ensures in
    elim c.else-low-values.either [ inl h ↦ list_in-long _ _ _ c.as_slice-values.result.now is h.1 | inr h ↦ list_in-short _ _ _ c.as_slice-values.result.now is h ]
