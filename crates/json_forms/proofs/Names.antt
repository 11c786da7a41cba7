-- The members of an object beside the entries of the map that holds them.
use Rattle.std.proofs.Common.{◌≡◌, ◌≢◌, ℕ, ◌+◌, Bool, true, map, Bor, ◌==◌, cond, List, [], ◌∷◌, length, Option, Some, None, is_some, option_map, unwrap_or, false, refl, sym, ap, ◌∙◌, String, Global, string_bytes, arith}
use Rattle.std.proofs.lemmas.List.{length-map}
use Rattle.std.proofs.lemmas.List.Folds.{list_all-map, fold-map}
use Rattle.std.specs.List.{list_all, count_by}
use Rattle.std.specs.Prelude.{slice_get, option_and_then}
use Rattle.serde_json.specs.Data.{Data}
use Rattle.serde_json.specs.Find.{as_object}
use Rattle.serde_json.specs.Events.{members_len}
use Rattle.serde_json.specs.View.{view, members_view}
use Rattle.serde_json.specs.declared.value.Value.{Value}
use Rattle.serde_json.proofs.Views.{Entry, members_len-members_view}
use Rattle.json_forms.specs.Forms.{lone, lone_member, has, has_count, has_members}

pub is_some-option_map : {A B : Type 0} (f : A → B) (o : Option A) → is_some (option_map f o) ≡ is_some o
is_some-option_map f None = refl
is_some-option_map f (Some x) = refl

pub has_count-object : (d : Data) (es : List Entry) (n count : ℕ) → Some (members_view es) ≡ as_object d → n ≡ length es → (n == count) ≡ has_count d count
has_count-object d es n count e size =
    ap (λ k. k == count) (size ∙ sym (members_len-members_view es)) ∙ ap (λ o. unwrap_or (option_map (λ ms. members_len ms == count) o) false) e

lone-none : (es : List Entry) → length es ≢ 1 → None ≡ lone (members_view es)
lone-none [] other = refl
lone-none (e ∷ []) other = absurd (other refl)
lone-none (e ∷ f ∷ es) other = refl

pub lone_member-none : (d : Data) (es : List Entry) (n : ℕ) → Some (members_view es) ≡ as_object d → n ≡ length es → n ≢ 1 → None ≡ lone_member d
lone_member-none d es n e size other = lone-none es (λ h. other (size ∙ h)) ∙ ap (option_and_then lone) e

lone-one : (es : List Entry) (k : String Global) (v : Value) → length es ≡ 1 → slice_get es 0 ≡ Some (k, v) → Some (string_bytes k, view v) ≡ lone (members_view es)
lone-one [] k v one is = absurd (omega arith)
lone-one (e ∷ []) k v one is = ap (option_map (λ x. (string_bytes x.0, view x.1))) (sym is)
lone-one (e ∷ f ∷ es) k v one is = absurd (omega arith)

pub lone_member-one : (d : Data) (es : List Entry) (k : String Global) (v : Value) (n : ℕ) → Some (members_view es) ≡ as_object d → n ≡ length es → n ≡ 1 → slice_get es 0 ≡ Some (k, v) → Some (string_bytes k, view v) ≡ lone_member d
lone_member-one d es k v n e size one is = lone-one es k v (sym size ∙ one) is ∙ ap (option_and_then lone) e

count_by-map : {A B : Type 0} (p : B → Bool) (f : A → B) (xs : List A) → count_by p (map f xs) ≡ count_by (λ x. p (f x)) xs
count_by-map p f xs = fold-map (λ n x. n + cond (p x) 1 0) f 0 xs

pub has_members-all : (d : Data) (required optional : List (Bor (List ℕ))) (all one : Bool) (n : ℕ) → all ≡ list_all (λ x. has d x.now) required → all ≡ true → n ≡ count_by (λ x. has d x.now) optional
    → one ≡ has_count d (length required + n) → one ≡ has_members (map (λ x. x.now) required) (map (λ x. x.now) optional) d
has_members-all d required optional all one n every full count is =
    let now : Bor (List ℕ) → List ℕ = λ x. x.now in
    let each : list_all (has d) (map now required) ≡ true = list_all-map (has d) now required ∙ sym every ∙ full in
    rw (each, length-map required now, count_by-map (has d) now optional, ← count) is

pub has_members-not : (d : Data) (required optional : List (Bor (List ℕ))) (all : Bool) → all ≡ list_all (λ x. has d x.now) required → all ≡ false
    → all ≡ has_members (map (λ x. x.now) required) (map (λ x. x.now) optional) d
has_members-not d required optional all every not =
    let now : Bor (List ℕ) → List ℕ = λ x. x.now in
    let each : list_all (has d) (map now required) ≡ false = list_all-map (has d) now required ∙ sym every ∙ not in
    rw each not
