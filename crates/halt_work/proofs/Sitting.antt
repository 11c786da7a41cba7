-- The filters of an order sit at their places, each of them once.
use Rattle.std.proofs.Common.{◌≡◌, ℕ, ◌==◌, ◌||◌, Bool, true, false, List, [], ◌∷◌, Some, refl, sym, ap, ◌∙◌, eq-eqb}
use Rattle.stack_rules.specs.declared.Attached.{Attached}
use Rattle.stack_rules.specs.Net.{attached}
use Rattle.stack_rules.specs.Rewires.{is_in}
use Rattle.state_laws.specs.Shape.{IsDistinct}
use Rattle.book_lemmas.specs.Views.{seat_of}
use Rattle.rewire_work.specs.Seated.{without_seat}
use Rattle.rewire_work.proofs.Orders.{less, attached_less}
use Rattle.rewire_work.proofs.Rising.{seat_left}

-- a filter is attached, and sits somewhere
pub record Sits (entries : List Attached) (seats : List (ℕ × ℕ)) (f : ℕ) : Type 0 where
  pub entry : Attached
  pub there : attached f entries ≡ Some entry
  pub place : ℕ
  pub seat : seat_of seats f ≡ Some place

-- so does each of an order, once those before it got up
abbrev pub EachSits : List Attached → List (ℕ × ℕ) → List ℕ → Type 0
EachSits entries seats [] = Unit {0}
EachSits entries seats (f ∷ fs) = Sits entries seats f × EachSits (less f entries) (without_seat f seats) fs

first_in : (f : ℕ) (fs : List ℕ) → is_in f (f ∷ fs) ≡ true
first_in f fs = ap (λ b. b || is_in f fs) (eq-eqb f f refl)

later_in : (f g : ℕ) (fs : List ℕ) → is_in g fs ≡ true → is_in g (f ∷ fs) ≡ true
later_in f g fs h = or_right (f == g) (is_in g fs) h
  where
    or_right : (a b : Bool) → b ≡ true → (a || b) ≡ true
    or_right true b h = refl
    or_right false b h = h

other : (f g : ℕ) (fs : List ℕ) → is_in f fs ≡ false → is_in g fs ≡ true → g ≡ f → ⊥
other f g fs out inside same = clash (is_in f fs) out (ap (λ k. is_in k fs) (sym same) ∙ inside)
  where
    clash : (b : Bool) → b ≡ false → b ≡ true → ⊥
    clash b e k = cc

pub each_sits : (fs : List ℕ) (entries : List Attached) (seats : List (ℕ × ℕ)) → IsDistinct fs → ((f : ℕ) → is_in f fs ≡ true → Sits entries seats f) → EachSits entries seats fs
each_sits [] entries seats distinct sits = record {}
each_sits (f ∷ fs) entries seats distinct sits = (sits f (first_in f fs), each_sits fs (less f entries) (without_seat f seats) distinct.1 rest)
  where
    rest : (g : ℕ) → is_in g fs ≡ true → Sits (less f entries) (without_seat f seats) g
    rest g inside =
        let s = sits g (later_in f g fs inside) in
        let ne : g ≡ f → ⊥ = other f g fs distinct.0 inside in
        record { entry = s.entry; there = attached_less g f entries ne ∙ s.there; place = s.place; seat = seat_left f g seats ne ∙ s.seat }
