-- Protocols of a list, as contracts see them: they are opened one after the other, and closed again.
use Rattle.std.proofs.Common.{◌≡◌, false, ℕ, zero, suc, ◌+◌, ◌<◌, List, [], ◌∷◌, ◌++◌, length, map, take, drop, slice_index_or, slice_set, All, refl, sym, ◌∙◌, ap, subst, arith, add-one, length-set, get_or-set_same}
use Rattle.std.specs.Prelude.{Result, Ok, Err, OnErr}
use Rattle.std.proofs.lemmas.List.{map-set, length-map, get_or-map, set-set, drop_more, drop-set-lt}
use Rattle.std.proofs.Math.Seq.{map-set_same}
use Rattle.driver_views.specs.States.{ProtocolState}
use Rattle.driver_calls.specs.Protocols.{MayOpen}
use Rattle.book_lemmas.specs.Views.{no_protocol}
use Rattle.setup_work.specs.SetUp.{opened, closed}

-- the view of what stands at a place
view_at : {X S : Type 0} (f : X → S) (xs : List X) (i : ℕ) (x : X) → i < length xs → x ≡ slice_index_or xs i x → f x ≡ slice_index_or (map f xs) i (f x)
view_at f xs i x h e = sym (get_or-map f xs i x (f x) h ∙ ap f (sym e))

-- a call that each view may not see
pub unseen_at : {X S : Type 0} (f : X → S) (xs : List X) (i : ℕ) (x y : X) → x ≡ slice_index_or xs i x → f y ≡ f x → map f (slice_set xs i y) ≡ map f xs
unseen_at f xs i x y e same = map-set_same f xs i y x (same ∙ ap f e)

pub same_count : {X S : Type 0} (f : X → S) (xs ys : List X) (i : ℕ) (y : X) → map f ys ≡ map f (slice_set xs i y) → length ys ≡ length xs
same_count f xs ys i y e = sym (length-map ys f) ∙ ap length e ∙ length-map (slice_set xs i y) f ∙ length-set xs i y

-- the first of the rest, and the rest behind it
first_of_rest : {S : Type 0} (P : S → Type 0) (ss : List S) (i : ℕ) (d : S) → i < length ss → All P (drop i ss) → P (slice_index_or ss i d) × All P (drop (i + 1) ss)
first_of_rest P ss i d h all =
    let split : All P (slice_index_or ss i d ∷ drop (i + 1) ss) = subst (All P) (drop_more ss i d h) all in
    (split zero d (omega arith), λ k e within. split (suc k) e (omega (arith, within)))

pub first_may : {X : Type 0} (f : X → ProtocolState) (xs : List X) (i : ℕ) (x : X) → i < length xs → x ≡ slice_index_or xs i x → All MayOpen (drop i (map f xs)) → MayOpen (f x)
first_may f xs i x h e all =
    subst MayOpen (sym (view_at f xs i x h e)) (first_of_rest MayOpen (map f xs) i (f x) (omega (arith, h, length-map xs f)) all).0

pub rest_may : {X : Type 0} (f : X → ProtocolState) (xs : List X) (i : ℕ) (x y : X) → i < length xs → x ≡ slice_index_or xs i x → All MayOpen (drop i (map f xs)) → All MayOpen (drop (i + 1) (map f (slice_set xs i y)))
rest_may f xs i x y h e all =
    rw (map-set f xs i y, drop-set-lt (i + 1) (map f xs) i (f y) (omega arith))
    (first_of_rest MayOpen (map f xs) i (f x) (omega (arith, h, length-map xs f)) all).1

-- one is opened before those behind it
over_next : {S : Type 0} (g : S → S) (xs : List S) (i : ℕ) (x : S) → i < length xs → x ≡ slice_index_or xs i x
    → take (suc i) (slice_set xs i (g x)) ++ map g (drop (suc i) (slice_set xs i (g x))) ≡ take i xs ++ map g (drop i xs)
over_next g [] i x h e = absurd (omega (arith, h))
over_next g (s ∷ xs) zero x h e = ap (λ r. g r ∷ map g xs) e
over_next g (s ∷ xs) (suc i) x h e = ap (λ rs. s ∷ rs) (over_next g xs i x (omega (arith, h)) e)

over_more : {S : Type 0} (g : S → S) (xs : List S) (i : ℕ) (x : S) → i < length xs → x ≡ slice_index_or xs i x
    → take (i + 1) (slice_set xs i (g x)) ++ map g (drop (i + 1) (slice_set xs i (g x))) ≡ take i xs ++ map g (drop i xs)
over_more g xs i x h e = rw (add-one i) (over_next g xs i x h e)

pub opened_at : {X : Type 0} (f : X → ProtocolState) (xs ys : List X) (i : ℕ) (x y : X) → i < length xs → x ≡ slice_index_or xs i x → f y ≡ opened (f x)
    → map f ys ≡ take (i + 1) (map f (slice_set xs i y)) ++ map opened (drop (i + 1) (map f (slice_set xs i y)))
    → map f ys ≡ take i (map f xs) ++ map opened (drop i (map f xs))
opened_at f xs ys i x y h e up rest =
    rest ∙ ap (λ ss. take (i + 1) ss ++ map opened (drop (i + 1) ss)) (map-set f xs i y ∙ ap (λ s. slice_set (map f xs) i s) up)
    ∙ over_more opened (map f xs) i (f x) (omega (arith, h, length-map xs f)) (view_at f xs i x h e)

-- it is open still after those behind it could not be opened
still_there : {X : Type 0} (f : X → ProtocolState) (xs ys : List X) (i : ℕ) (x y z : X) → i < length xs → z ≡ slice_index_or ys i z
    → f y ≡ opened (f x) → map f ys ≡ map f (slice_set xs i y) → f z ≡ opened (f x)
still_there f xs ys i x y z h e up same =
    view_at f ys i z (omega (arith, h, same_count f xs ys i y same)) e ∙ ap (λ ss. slice_index_or ss i (f z)) (same ∙ map-set f xs i y)
    ∙ get_or-set_same (map f xs) i (f y) (f z) (omega (arith, h, length-map xs f)) ∙ up

pub still_empty : {X : Type 0} (f : X → ProtocolState) (xs ys : List X) (i : ℕ) (x y z : X) → i < length xs → z ≡ slice_index_or ys i z
    → MayOpen (f x) → f y ≡ opened (f x) → map f ys ≡ map f (slice_set xs i y) → (f z).kept ≡ []
still_empty f xs ys i x y z h e may up same = ap (λ (s : ProtocolState). s.kept) (still_there f xs ys i x y z h e up same) ∙ may.kept

close_again : (s : ProtocolState) → s.is_open ≡ false → closed (opened s) ≡ s
close_again s h = ap (λ b. record s { is_open = b }) (sym h)

-- so all are as they were once it is closed
pub closed_again : {X : Type 0} (f : X → ProtocolState) (xs ys : List X) (i : ℕ) (x y z w : X) → i < length xs → x ≡ slice_index_or xs i x → z ≡ slice_index_or ys i z
    → MayOpen (f x) → f y ≡ opened (f x) → map f ys ≡ map f (slice_set xs i y) → f w ≡ closed (f z) → map f (slice_set ys i w) ≡ map f xs
closed_again f xs ys i x y z w h e e' may up same down =
    let back : f w ≡ f x = down ∙ ap closed (still_there f xs ys i x y z h e' up same) ∙ close_again (f x) may.is_open in
    map-set f ys i w ∙ ap (λ ss. slice_set ss i (f w)) (same ∙ map-set f xs i y) ∙ set-set (map f xs) i (f y) (f w)
    ∙ sym (map-set f xs i w) ∙ unseen_at f xs i x w e back

pub now_err : {A E : Type 0} (r : Result A E) (P : Type 0) → P → OnErr r P
now_err (Ok a) P p = tt
now_err (Err e) P p = p

-- what a protocol that is opened keeps of its state
pub opened_field : {X : Type 0} (get : ProtocolState → X) → ((s : ProtocolState) → get (opened s) ≡ get s) → (ps : List ProtocolState) (i : ℕ)
    → get (slice_index_or (map opened ps) i no_protocol) ≡ get (slice_index_or ps i no_protocol)
opened_field get same [] i = refl
opened_field get same (p ∷ ps) zero = same p
opened_field get same (p ∷ ps) (suc i) = opened_field get same ps i
