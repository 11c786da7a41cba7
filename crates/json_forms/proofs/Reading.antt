-- Lists that are read one after the other, step by step.
use Rattle.std.proofs.Common.{◌≡◌, ℕ, suc, ◌+◌, ◌<◌, ◌≤◌, List, [], ◌∷◌, ◌++◌, length, map, drop, slice_index_or, Result, Ok, Err, refl, sym, ap, ◌∙◌, append_assoc}
use Rattle.std.proofs.lemmas.List.{drop_more, drop_all, append-nil}
use Rattle.serde_json.specs.Data.{Data}
use Rattle.serde_json.specs.View.{view, items_of, items_view}
use Rattle.serde_json.specs.declared.value.Value.{Value}
use Rattle.json_forms.specs.Lists.{list_of, then_read, read_all}

pub list_of-items_of : (ds : List Data) → list_of (items_of ds) ≡ ds
list_of-items_of [] = refl
list_of-items_of (d ∷ ds) = ap (λ es. d ∷ es) (list_of-items_of ds)

pub list_of-items_view : (vs : List Value) → list_of (items_view vs) ≡ map view vs
list_of-items_view vs = list_of-items_of (map view vs)

-- all were read
pub read_all-end : {A E : Type 0} (read : List A → Data → Result A E) (before : List A) (vs : List Value) (i : ℕ) → length vs ≤ i → read_all read before (map view (drop i vs)) ≡ Ok before
read_all-end read before vs i h = ap (λ ws. read_all read before (map view ws)) (drop_all i vs h)

-- one more is read
pub read_all-more : {A E : Type 0} (read : List A → Data → Result A E) (before : List A) (vs : List Value) (v : Value) (i : ℕ) → i < length vs → v ≡ slice_index_or vs i v
    → read_all read before (map view (drop i vs)) ≡ then_read (read before (view v)) (λ a. read_all read (before ++ a ∷ []) (map view (drop (i + 1) vs)))
read_all-more read before vs v i h is =
    ap (λ ws. read_all read before (map view ws)) (drop_more vs i v h)
    ∙ ap (λ w. then_read (read before (view w)) (λ a. read_all read (before ++ a ∷ []) (map view (drop (i + 1) vs)))) (sym is)

pub read_all-good : {A E : Type 0} (read : List A → Data → Result A E) (before : List A) (vs : List Value) (v : Value) (i : ℕ) (a : A) (whole : Result (List A) E) → i < length vs → v ≡ slice_index_or vs i v
    → read before (view v) ≡ Ok a → read_all read before (map view (drop i vs)) ≡ whole → read_all read (before ++ a ∷ []) (map view (drop (i + 1) vs)) ≡ whole
read_all-good read before vs v i a whole h is good so_far =
    sym (read_all-more read before vs v i h is ∙ ap (λ r. then_read r (λ a. read_all read (before ++ a ∷ []) (map view (drop (i + 1) vs)))) good) ∙ so_far

pub read_all-bad : {A E : Type 0} (read : List A → Data → Result A E) (before : List A) (vs : List Value) (v : Value) (i : ℕ) (fault : E) (whole : Result (List A) E) → i < length vs → v ≡ slice_index_or vs i v
    → read before (view v) ≡ Err fault → read_all read before (map view (drop i vs)) ≡ whole → whole ≡ Err fault
read_all-bad read before vs v i fault whole h is bad so_far =
    sym so_far ∙ read_all-more read before vs v i h is ∙ ap (λ r. then_read r (λ a. read_all read (before ++ a ∷ []) (map view (drop (i + 1) vs)))) bad

-- what was written of each value is read as the values
pub read_all-written : {A E : Type 0} (read : List A → Data → Result A E) (write : A → Data) (before xs : List A) → ((done : List A) (x : A) (rest : List A) → before ++ xs ≡ done ++ x ∷ rest → read done (write x) ≡ Ok x) → read_all read before (map write xs) ≡ Ok (before ++ xs)
read_all-written read write before [] each = ap Ok (sym (append-nil before))
read_all-written read write before (x ∷ xs) each =
    ap (λ r. then_read r (λ a. read_all read (before ++ a ∷ []) (map write xs))) (each before x xs refl)
    ∙ read_all-written read write (before ++ x ∷ []) xs (λ done y rest e. each done y rest (sym (append_assoc before (x ∷ []) xs) ∙ e))
    ∙ ap Ok (append_assoc before (x ∷ []) xs)
