-- Protocols of a list that are closed one after the other.
use Rattle.std.proofs.Common.{◌≡◌, ℕ, zero, suc, ◌+◌, ◌<◌, ◌≤◌, List, [], ◌∷◌, ◌++◌, length, map, take, drop, slice_index_or, slice_set, All, refl, sym, ◌∙◌, ap, subst, arith, add-one}
use Rattle.std.proofs.lemmas.List.{map-set, length-map, get_or-map, drop_more, drop-set-lt}
use Rattle.std.proofs.lemmas.List.Elements.{All-nil, All-cons}
use Rattle.driver_views.specs.States.{ProtocolState}
use Rattle.book_lemmas.specs.Stands.{IsClosed}
use Rattle.book_lemmas.specs.Views.{no_protocol}
use Rattle.setup_work.specs.SetUp.{closed}
use Rattle.halt_work.specs.Halted.{KeepsNothing}

-- the view of what stands at a place
view_at : {X S : Type 0} (f : X → S) (xs : List X) (i : ℕ) (x : X) → i < length xs → x ≡ slice_index_or xs i x → f x ≡ slice_index_or (map f xs) i (f x)
view_at f xs i x h e = sym (get_or-map f xs i x (f x) h ∙ ap f (sym e))

-- the first of the rest, and the rest behind it
first_of_rest : {S : Type 0} (P : S → Type 0) (ss : List S) (i : ℕ) (d : S) → i < length ss → All P (drop i ss) → P (slice_index_or ss i d) × All P (drop (i + 1) ss)
first_of_rest P ss i d h all =
    let split : All P (slice_index_or ss i d ∷ drop (i + 1) ss) = subst (All P) (drop_more ss i d h) all in
    (split zero d (omega arith), λ k e within. split (suc k) e (omega (arith, within)))

pub first_keeps : {X : Type 0} (f : X → ProtocolState) (xs : List X) (i : ℕ) (x : X) → i < length xs → x ≡ slice_index_or xs i x → All KeepsNothing (drop i (map f xs)) → (f x).kept ≡ []
first_keeps f xs i x h e all =
    subst KeepsNothing (sym (view_at f xs i x h e)) (first_of_rest KeepsNothing (map f xs) i (f x) (omega (arith, h, length-map xs f)) all).0

pub rest_keeps : {X : Type 0} (f : X → ProtocolState) (xs : List X) (i : ℕ) (x y : X) → i < length xs → All KeepsNothing (drop i (map f xs)) → All KeepsNothing (drop (i + 1) (map f (slice_set xs i y)))
rest_keeps f xs i x y h all =
    rw (map-set f xs i y, drop-set-lt (i + 1) (map f xs) i (f y) (omega arith))
    (first_of_rest KeepsNothing (map f xs) i (f x) (omega (arith, h, length-map xs f)) all).1

-- one is closed before those behind it
over_next : {S : Type 0} (g : S → S) (xs : List S) (i : ℕ) (x : S) → i < length xs → x ≡ slice_index_or xs i x
    → take (suc i) (slice_set xs i (g x)) ++ map g (drop (suc i) (slice_set xs i (g x))) ≡ take i xs ++ map g (drop i xs)
over_next g [] i x h e = absurd (omega (arith, h))
over_next g (s ∷ xs) zero x h e = ap (λ r. g r ∷ map g xs) e
over_next g (s ∷ xs) (suc i) x h e = ap (λ rs. s ∷ rs) (over_next g xs i x (omega (arith, h)) e)

over_more : {S : Type 0} (g : S → S) (xs : List S) (i : ℕ) (x : S) → i < length xs → x ≡ slice_index_or xs i x
    → take (i + 1) (slice_set xs i (g x)) ++ map g (drop (i + 1) (slice_set xs i (g x))) ≡ take i xs ++ map g (drop i xs)
over_more g xs i x h e = rw (add-one i) (over_next g xs i x h e)

pub closed_at : {X : Type 0} (f : X → ProtocolState) (xs ys : List X) (i : ℕ) (x y : X) → i < length xs → x ≡ slice_index_or xs i x → f y ≡ closed (f x)
    → map f ys ≡ take (i + 1) (map f (slice_set xs i y)) ++ map closed (drop (i + 1) (map f (slice_set xs i y)))
    → map f ys ≡ take i (map f xs) ++ map closed (drop i (map f xs))
closed_at f xs ys i x y h e down rest =
    rest ∙ ap (λ ss. take (i + 1) ss ++ map closed (drop (i + 1) ss)) (map-set f xs i y ∙ ap (λ s. slice_set (map f xs) i s) down)
    ∙ over_more closed (map f xs) i (f x) (omega (arith, h, length-map xs f)) (view_at f xs i x h e)

-- behind the last there is none
none_left : {S : Type 0} (g : S → S) (ss : List S) (i : ℕ) → length ss ≤ i → ss ≡ take i ss ++ map g (drop i ss)
none_left g [] zero h = refl
none_left g [] (suc i) h = refl
none_left g (s ∷ ss) zero h = absurd (omega (arith, h))
none_left g (s ∷ ss) (suc i) h = ap (λ rs. s ∷ rs) (none_left g ss i (omega (arith, h)))

pub all_closed : {X : Type 0} (f : X → ProtocolState) (xs : List X) (i : ℕ) → length xs ≤ i → map f xs ≡ take i (map f xs) ++ map closed (drop i (map f xs))
all_closed f xs i h = none_left closed (map f xs) i (omega (arith, h, length-map xs f))

-- what a protocol that is closed keeps of its state
pub closed_field : {X : Type 0} (get : ProtocolState → X) → ((s : ProtocolState) → get (closed s) ≡ get s) → (ps : List ProtocolState) (i : ℕ)
    → get (slice_index_or (map closed ps) i no_protocol) ≡ get (slice_index_or ps i no_protocol)
closed_field get same [] i = refl
closed_field get same (p ∷ ps) zero = same p
closed_field get same (p ∷ ps) (suc i) = closed_field get same ps i

pub are_closed : (ps : List ProtocolState) → All IsClosed (map closed ps)
are_closed [] = All-nil IsClosed
are_closed (p ∷ ps) = All-cons IsClosed (closed p) (map closed ps) refl (are_closed ps)
