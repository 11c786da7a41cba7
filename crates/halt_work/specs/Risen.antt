-- The filters of an order get up from their seats one after the other (WDK, "Detaching a Filter Module"): each driver
-- is detached, and goes to the shelf's end.
use Rattle.std.specs.Prelude.{◌≡◌, ℕ, ◌<◌, [], ◌∷◌, ◌++◌, List, Option, Some, None, length, slice_set}
use Rattle.driver_views.specs.States.{FilterState}
use Rattle.book_lemmas.specs.Views.{HeldView, filter_at, seat_of}
use Rattle.rewire_work.specs.Seated.{put_down, without_seat}

-- the filters' drivers by place, their seats and the shelf
pub record Sides : Type 0 where
  pub filters : List FilterState
  pub seats : List (ℕ × ℕ)
  pub shelf : List ℕ

abbrev pub sides : List FilterState → List (ℕ × ℕ) → List ℕ → Sides
sides filters seats shelf = record { filters = filters; seats = seats; shelf = shelf }

abbrev pub sides_of : HeldView → Sides
sides_of held = sides held.filters held.seats held.shelf

-- what is held, with these
abbrev pub with_sides : HeldView → Sides → HeldView
with_sides held s = record held { filters = s.filters; seats = s.seats; shelf = s.shelf }

-- a filter got up from its place
abbrev pub risen : ℕ → Sides → Option ℕ → Sides
risen f s None = s
risen f s (Some place) = record {
  filters = slice_set s.filters place (put_down (filter_at s.filters (Some place)));
  seats = without_seat f s.seats;
  shelf = s.shelf ++ place ∷ [];
}

abbrev pub risen_each : Sides → List ℕ → Sides
risen_each s [] = s
risen_each s (f ∷ fs) = risen_each (risen f s (seat_of s.seats f)) fs

-- a filter sits at a place, and its driver keeps nothing
pub record CanRise (s : Sides) (f : ℕ) : Type 0 where
  pub place : ℕ
  pub seat : seat_of s.seats f ≡ Some place
  pub within : place < length s.filters
  pub kept : (filter_at s.filters (Some place)).kept ≡ []

-- so does each of an order, once those before it got up
abbrev pub CanEachRise : Sides → List ℕ → Type 0
CanEachRise s [] = Unit {0}
CanEachRise s (f ∷ fs) = CanRise s f × CanEachRise (risen f s (seat_of s.seats f)) fs
