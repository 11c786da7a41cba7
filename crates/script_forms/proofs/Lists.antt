-- Lists of a number of values.
use Rattle.std.proofs.Common.{◌≡◌, ◌<◌, ◌≤◌, ℕ, List, length, map, Some, Ok, Err, sym, ap, ◌∙◌, subst, arith}
use Rattle.std.proofs.lemmas.Bool.Decides.{nat_tests}
use Rattle.std.proofs.lemmas.List.{length-map}
use Rattle.serde_json.specs.Data.{Data}
use Rattle.serde_json.specs.Find.{as_array}
use Rattle.serde_json.specs.View.{view, items_view}
use Rattle.serde_json.specs.declared.value.Value.{Value}
use Rattle.json_forms.proofs.Reading.{list_of-items_view}
use Rattle.script_types.specs.declared.ScriptCause.TheVariants as cause
use Rattle.script_forms.specs.Values.{counted, listed, list_in}

pub counted-good : (low high : ℕ) (ds : List Data) → low ≤ length ds → length ds ≤ high → counted low high ds ≡ Ok ds
counted-good low high ds short long = grind (arith, nat_tests)

counted-short : (low high : ℕ) (ds : List Data) → length ds < low → counted low high ds ≡ Err cause.TooMany
counted-short low high ds short = grind (arith, nat_tests)

counted-long : (low high : ℕ) (ds : List Data) → high < length ds → counted low high ds ≡ Err cause.TooMany
counted-long low high ds long = grind (arith, nat_tests)

list_in-counted : (low high : ℕ) (d : Data) (vs : List Value) → Some (items_view vs) ≡ as_array d → list_in low high d ≡ counted low high (map view vs)
list_in-counted low high d vs is = ap (listed low high) (sym is) ∙ ap (counted low high) (list_of-items_view vs)

pub list_in-good : (low high : ℕ) (d : Data) (vs : List Value) → Some (items_view vs) ≡ as_array d → low ≤ length vs → length vs ≤ high → list_in low high d ≡ Ok (map view vs)
list_in-good low high d vs is short long =
    let size = sym (length-map vs view) in
    list_in-counted low high d vs is ∙ counted-good low high (map view vs) (subst (λ n. low ≤ n) size short) (subst (λ n. n ≤ high) size long)

pub list_in-short : (low high : ℕ) (d : Data) (vs : List Value) → Some (items_view vs) ≡ as_array d → length vs < low → list_in low high d ≡ Err cause.TooMany
list_in-short low high d vs is short =
    list_in-counted low high d vs is ∙ counted-short low high (map view vs) (subst (λ n. n < low) (sym (length-map vs view)) short)

pub list_in-long : (low high : ℕ) (d : Data) (vs : List Value) → Some (items_view vs) ≡ as_array d → high < length vs → list_in low high d ≡ Err cause.TooMany
list_in-long low high d vs is long =
    list_in-counted low high d vs is ∙ counted-long low high (map view vs) (subst (λ n. high < n) (sym (length-map vs view)) long)
