-- A driver at its place, and all drivers with it.
use Rattle.std.proofs.Common.{◌≡◌, ℕ, ◌<◌, List, length, map, slice_index_or, slice_set, sym, ap, ◌∙◌, subst, get_or-set_same}
use Rattle.std.specs.Prelude.{Result, Ok, Err, IfErr}
use Rattle.std.proofs.lemmas.List.{map-set, get_or-map, length-map}
use Rattle.std.proofs.Math.Seq.{map-set_same}
use Rattle.driver_views.specs.States.{FilterState}
use Rattle.book_lemmas.specs.Views.{no_filter}

-- an element at its place, and its state
pub old_at : {X : Type 0} (f : X → FilterState) (xs : List X) (i : ℕ) (old : X) → i < length xs → old ≡ slice_index_or xs i old → slice_index_or (map f xs) i no_filter ≡ f old
old_at f xs i old within e = get_or-map f xs i old no_filter within ∙ ap f (sym e)

pub new_at : {X : Type 0} (f : X → FilterState) (xs : List X) (i : ℕ) (y : X) → i < length xs → slice_index_or (map f (slice_set xs i y)) i no_filter ≡ f y
new_at f xs i y within =
    ap (λ ys. slice_index_or ys i no_filter) (map-set f xs i y) ∙ get_or-set_same (map f xs) i (f y) no_filter (subst (λ n. i < n) (sym (length-map xs f)) within)

pub set_at : {X : Type 0} (f : X → FilterState) (xs : List X) (i : ℕ) (y : X) → i < length xs
    → map f (slice_set xs i y) ≡ slice_set (map f xs) i (slice_index_or (map f (slice_set xs i y)) i no_filter)
set_at f xs i y within = map-set f xs i y ∙ ap (λ v. slice_set (map f xs) i v) (sym (new_at f xs i y within))

pub same_at : {X : Type 0} (f : X → FilterState) (xs : List X) (i : ℕ) (old y : X) → old ≡ slice_index_or xs i old → f y ≡ f old → map f (slice_set xs i y) ≡ map f xs
same_at f xs i old y e same = map-set_same f xs i y old (same ∙ ap f e)

-- an element that took a state
pub took_at : {X : Type 0} (f : X → FilterState) (xs : List X) (i : ℕ) (old y : X) (s : FilterState → FilterState) → i < length xs → old ≡ slice_index_or xs i old → f y ≡ s (f old)
    → map f (slice_set xs i y) ≡ slice_set (map f xs) i (s (slice_index_or (map f xs) i no_filter))
took_at f xs i old y s within e took = map-set f xs i y ∙ ap (slice_set (map f xs) i) (took ∙ ap s (sym (old_at f xs i old within e)))

-- a clause of a fault
pub on_fault : {A E : Type 0} (r : Result A E) (fault : E) (P Q : Type 0) → (P → Q) → IfErr r (λ e. e ≡ fault → P) → IfErr r (λ e. e ≡ fault → Q)
on_fault (Ok a) fault P Q f h = h
on_fault (Err e) fault P Q f h = λ same. f (h same)
