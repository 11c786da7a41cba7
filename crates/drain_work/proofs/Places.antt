-- An element at its place, and its state.
use Rattle.std.proofs.Common.{◌≡◌, ℕ, ◌<◌, List, length, map, slice_index_or, slice_set, sym, ap, ◌∙◌, subst, get_or-set_same}
use Rattle.std.specs.Prelude.{Result, Ok, Err, IfOk, OnErr}
use Rattle.std.proofs.lemmas.List.{map-set, get_or-map, length-map}
use Rattle.std.proofs.Math.Seq.{map-set_same}

any_default : {X : Type 0} (xs : List X) (i : ℕ) (d e : X) → i < length xs → slice_index_or xs i d ≡ slice_index_or xs i e
any_default xs i d e within = sym (get_or-map (λ x. x) xs i d d within) ∙ get_or-map (λ x. x) xs i e d within

pub old_at : {X S : Type 0} (f : X → S) (xs : List X) (i : ℕ) (d : S) (old : X) → i < length xs → old ≡ slice_index_or xs i old → slice_index_or (map f xs) i d ≡ f old
old_at f xs i d old within e = get_or-map f xs i old d within ∙ ap f (sym e)

pub place_is : {X : Type 0} (xs : List X) (i : ℕ) (d old : X) → i < length xs → old ≡ slice_index_or xs i old → slice_index_or xs i d ≡ old
place_is xs i d old within e = any_default xs i d old within ∙ sym e

pub new_at : {X S : Type 0} (f : X → S) (xs : List X) (i : ℕ) (d : S) (y : X) → i < length xs → slice_index_or (map f (slice_set xs i y)) i d ≡ f y
new_at f xs i d y within =
    ap (λ ys. slice_index_or ys i d) (map-set f xs i y) ∙ get_or-set_same (map f xs) i (f y) d (subst (λ n. i < n) (sym (length-map xs f)) within)

pub set_at : {X S : Type 0} (f : X → S) (xs : List X) (i : ℕ) (d : S) (y : X) → i < length xs → map f (slice_set xs i y) ≡ slice_set (map f xs) i (slice_index_or (map f (slice_set xs i y)) i d)
set_at f xs i d y within = map-set f xs i y ∙ ap (λ v. slice_set (map f xs) i v) (sym (new_at f xs i d y within))

pub same_at : {X S : Type 0} (f : X → S) (xs : List X) (i : ℕ) (old y : X) → old ≡ slice_index_or xs i old → f y ≡ f old → map f (slice_set xs i y) ≡ map f xs
same_at f xs i old y e same = map-set_same f xs i y old (same ∙ ap f e)

pub if_ok : {A E : Type 0} (r : Result A E) (P Q : A → Type 0) → ((a : A) → P a → Q a) → IfOk r P → IfOk r Q
if_ok (Ok a) P Q f p = f a p
if_ok (Err e) P Q f p = p

pub on_err : {A E : Type 0} (r : Result A E) (P Q : Type 0) → (P → Q) → OnErr r P → OnErr r Q
on_err (Ok a) P Q f p = p
on_err (Err e) P Q f p = f p

pub on_err_three : {A E : Type 0} (r : Result A E) (P Q R S : Type 0) → (P → Q → R → S) → OnErr r P → OnErr r Q → OnErr r R → OnErr r S
on_err_three (Ok a) P Q R S f p q t = p
on_err_three (Err e) P Q R S f p q t = f p q t
