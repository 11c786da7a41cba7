-- Lists of values that are read as a pair or a program.
use Rattle.std.proofs.Common.{◌≡◌, ◌≢◌, ℕ, ◌<◌, ◌≤◌, Bool, true, false, cond, List, [], ◌∷◌, length, map, Option, Some, None, Result, Ok, Err, refl, sym, ap, ◌∙◌, subst, arith}
use Rattle.std.specs.Prelude.{nat_lt}
use Rattle.std.proofs.lemmas.Bool.Decides.{nat_tests}
use Rattle.serde_json.specs.Data.{Data, Items}
use Rattle.serde_json.specs.Events.{items_len}
use Rattle.serde_json.specs.Find.{as_array}
use Rattle.serde_json.specs.View.{view, items_view}
use Rattle.serde_json.specs.declared.value.Value.{Value}
use Rattle.serde_json.proofs.Views.{items_len-items_view}
use Rattle.json_forms.specs.Lists.{list_of, read_all}
use Rattle.json_forms.proofs.Reading.{list_of-items_view}
use Rattle.program_types.specs.declared.Rule.{Rule}
use Rattle.program_forms.specs.declared.reading.RuleFault.{RuleFault}
use Rattle.program_forms.specs.declared.reading.RuleFault.TheVariants.{TooMany}
use Rattle.program_forms.specs.Form.{two_numbers, rule_after, program_of, program_in}
use Rattle.program_forms.specs.Gives.{Gives}

pub two_numbers-none : (vs : List Value) → length vs ≢ 2 → None ≡ two_numbers (items_view vs)
two_numbers-none [] other = refl
two_numbers-none (v ∷ []) other = refl
two_numbers-none (v ∷ w ∷ []) other = absurd (other refl)
two_numbers-none (v ∷ w ∷ x ∷ vs) other = refl

pub above : {A : Type 0} (n : ℕ) (a b : A) → 16 < n → cond (nat_lt 16 n) a b ≡ a
above n a b h = grind (arith, nat_tests)

pub within : {A : Type 0} (n : ℕ) (a b : A) → n ≤ 16 → cond (nat_lt 16 n) a b ≡ b
within n a b h = grind (arith, nat_tests)

pub program_in-long : (d : Data) (vs : List Value) → Some (items_view vs) ≡ as_array d → 16 < length vs → program_in d ≡ Err TooMany
program_in-long d vs is long =
    ap program_of (sym is) ∙ rw (items_len-items_view vs) (above (length vs) _ _ long)

pub program_in-short : (d : Data) (vs : List Value) → Some (items_view vs) ≡ as_array d → length vs ≤ 16 → program_in d ≡ read_all rule_after [] (map view vs)
program_in-short d vs is short =
    ap program_of (sym is) ∙ rw (items_len-items_view vs) (within (length vs) _ _ short) ∙ ap (read_all rule_after []) (list_of-items_view vs)

pub Gives-program_in : (d : Data) (vs : List Value) (r : Result (List Rule) RuleFault) → Some (items_view vs) ≡ as_array d → length vs ≤ 16 → Gives r (read_all rule_after [] (map view vs)) → Gives r (program_in d)
Gives-program_in d vs r is short gives = subst (λ told. Gives r told) (sym (program_in-short d vs is short)) gives
