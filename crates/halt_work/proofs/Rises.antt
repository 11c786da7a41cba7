-- The first of an order gets up, and then the others.
use Rattle.std.proofs.Common.{◌≡◌, ℕ, suc, ◌+◌, ◌-◌, ◌≤◌, ◌<◌, List, [], ◌∷◌, ◌++◌, Option, Some, None, length, take, drop, slice_index_or, slice_set, refl, sym, ap, ◌∙◌, subst, arith}
use Rattle.driver_views.specs.States.{FilterState}
use Rattle.book_lemmas.specs.Views.{filter_at, seat_of}
use Rattle.rewire_work.specs.Seated.{put_down, without_seat}
use Rattle.halt_work.specs.Risen.{Sides, sides, risen, risen_each, CanRise, CanEachRise}

abbrev pub rest_of : List ℕ → List ℕ
rest_of fs = take (length fs - 1) (drop 1 fs)

take_whole : (fs : List ℕ) → take (length fs) fs ≡ fs
take_whole [] = refl
take_whole (f ∷ fs) = ap (λ gs. f ∷ gs) (take_whole fs)

pub first_and_rest : (fs : List ℕ) (f : ℕ) → 1 ≤ length fs → f ≡ slice_index_or fs 0 f → f ∷ rest_of fs ≡ fs
first_and_rest [] f some is =
    let none : ⊥ = omega (arith, some) in
    absurd none
first_and_rest (x ∷ fs) f some is =
    let one_less : length (x ∷ fs) - 1 ≡ length fs = omega arith in
    ap (λ g. g ∷ rest_of (x ∷ fs)) is ∙ ap (λ n. x ∷ take n fs) one_less ∙ ap (λ gs. x ∷ gs) (take_whole fs)

-- the first of them
pub first_item : (fs : List ℕ) → 1 ≤ length fs → slice_index_or fs 0 0 ≡ slice_index_or fs 0 (slice_index_or fs 0 0)
first_item [] some =
    let none : ⊥ = omega (arith, some) in
    absurd none
first_item (x ∷ fs) some = refl

pub rest_length : (fs : List ℕ) (f : ℕ) → 1 ≤ length fs → f ≡ slice_index_or fs 0 f → length (rest_of fs) + 1 ≡ length fs
rest_length fs f some is =
    let whole : suc (length (rest_of fs)) ≡ length fs = ap length (first_and_rest fs f some is) in
    omega (arith, whole)

module _ (s : Sides) (fs : List ℕ) (f : ℕ) (some : 1 ≤ length fs) (is : f ≡ slice_index_or fs 0 f) (may : CanEachRise s fs) where
  both : CanEachRise s (f ∷ rest_of fs)
  both = subst (CanEachRise s) (sym (first_and_rest fs f some is)) may

  pub first_rises : CanRise s f
  first_rises = both.0

  no_seat : (place : ℕ) (o : Option ℕ) → o ≡ None → o ≡ Some place → ⊥
  no_seat place o e k = cc

  pub seat_there : seat_of s.seats f ≡ None → ⊥
  seat_there none = no_seat first_rises.place (seat_of s.seats f) none first_rises.seat

  same_some : (p q : ℕ) (o : Option ℕ) → o ≡ Some p → o ≡ Some q → p ≡ q
  same_some p q o e k = cc

  -- the place that was found
  place_is : (place : ℕ) → seat_of s.seats f ≡ Some place → first_rises.place ≡ place
  place_is place seat = same_some first_rises.place place (seat_of s.seats f) first_rises.seat seat

  pub place_within : (place : ℕ) → seat_of s.seats f ≡ Some place → place < length s.filters
  place_within place seat = subst (λ p. p < length s.filters) (place_is place seat) first_rises.within

  pub place_keeps : (place : ℕ) → seat_of s.seats f ≡ Some place → (filter_at s.filters (Some place)).kept ≡ []
  place_keeps place seat = subst (λ p. (filter_at s.filters (Some p)).kept ≡ []) (place_is place seat) first_rises.kept

  module _ (place : ℕ) (filters : List FilterState) (seats : List (ℕ × ℕ)) (shelf : List ℕ) (seat : seat_of s.seats f ≡ Some place)
      (filters_are : filters ≡ slice_set s.filters place (put_down (filter_at s.filters (Some place)))) (seats_are : seats ≡ without_seat f s.seats) (shelf_is : shelf ≡ s.shelf ++ place ∷ []) where
    mid_is : sides filters seats shelf ≡ risen f s (seat_of s.seats f)
    mid_is =
        ap (λ x. sides x seats shelf) filters_are
        ∙ ap (λ x. sides (slice_set s.filters place (put_down (filter_at s.filters (Some place)))) x shelf) seats_are
        ∙ ap (λ x. sides (slice_set s.filters place (put_down (filter_at s.filters (Some place)))) (without_seat f s.seats) x) shelf_is
        ∙ ap (risen f s) (sym seat)

    pub rest_rises : CanEachRise (sides filters seats shelf) (rest_of fs)
    rest_rises = subst (λ x. CanEachRise x (rest_of fs)) (sym mid_is) both.1

    pub all_rose : (last : Sides) → last ≡ risen_each (sides filters seats shelf) (rest_of fs) → last ≡ risen_each s fs
    all_rose last e = e ∙ ap (λ x. risen_each x (rest_of fs)) mid_is ∙ ap (risen_each s) (first_and_rest fs f some is)

pub none_rose : (s : Sides) (fs : List ℕ) → length fs < 1 → s ≡ risen_each s fs
none_rose s [] none = refl
none_rose s (f ∷ fs) none =
    let never : ⊥ = omega (arith, none) in
    absurd never
