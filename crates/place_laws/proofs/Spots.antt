-- Filters among the first and the last ones of an order.
use Rattle.std.proofs.Common.{◌≡◌, ℕ, zero, suc, ◌+◌, ◌<◌, ◌≤◌, ◌==◌, ◌||◌, Bool, true, false, cond, List, [], ◌∷◌, ◌++◌, length, take, drop, reverse, refl, arith, ap, ◌∙◌}
use Rattle.std.proofs.lemmas.Bool.Decides.{nat_tests}
use Rattle.std.proofs.lemmas.List.{reverse-append}
use Rattle.stack_rules.specs.Places.{above}
use Rattle.stack_rules.specs.Rewires.{is_in}
use Rattle.state_laws.specs.Shape.{IsDistinct}

or_more : (a b : Bool) → b ≡ true → (a || b) ≡ true
or_more true b h = refl
or_more false b h = h

-- what is in a part is in the whole
pub in_drop : (f i : ℕ) (fs : List ℕ) → is_in f (drop i fs) ≡ true → is_in f fs ≡ true
in_drop f zero fs h = h
in_drop f (suc i) [] h = h
in_drop f (suc i) (g ∷ fs) h = or_more (g == f) (is_in f fs) (in_drop f i fs h)

pub in_take : (f i : ℕ) (fs : List ℕ) → is_in f (take i fs) ≡ true → is_in f fs ≡ true
in_take f zero fs h = cc
in_take f (suc i) [] h = h
in_take f (suc i) (g ∷ fs) h = either (g == f) (is_in f (take i fs)) (is_in f fs) (in_take f i fs) h
  where
    either : (a b c : Bool) → (b ≡ true → c ≡ true) → (a || b) ≡ true → (a || c) ≡ true
    either true b c k h = refl
    either false b c k h = k h

in_snoc : (f g : ℕ) (fs : List ℕ) → is_in f (fs ++ g ∷ []) ≡ (is_in f fs || (g == f))
in_snoc f g [] = or_off (g == f)
  where
    or_off : (b : Bool) → (b || false) ≡ b
    or_off true = refl
    or_off false = refl
in_snoc f g (h ∷ fs) = rw (in_snoc f g fs) (assoc (h == f) (is_in f fs) (g == f))
  where
    assoc : (a b c : Bool) → (a || (b || c)) ≡ ((a || b) || c)
    assoc true b c = refl
    assoc false b c = refl

pub in_reverse : (f : ℕ) (fs : List ℕ) → is_in f (reverse fs) ≡ is_in f fs
in_reverse f [] = refl
in_reverse f (g ∷ fs) = ap (is_in f) (reverse-append (g ∷ []) fs) ∙ in_snoc f g (reverse fs) ∙ ap (λ b. b || (g == f)) (in_reverse f fs) ∙ swap (is_in f fs) (g == f)
  where
    swap : (a b : Bool) → (a || b) ≡ (b || a)
    swap true true = refl
    swap true false = refl
    swap false true = refl
    swap false false = refl

-- a filter of the last ones has at least as many above it as were dropped
pub drop_low : (f n : ℕ) (fs : List ℕ) → IsDistinct fs → is_in f (drop n fs) ≡ true → n ≤ above f fs
drop_low f zero fs d h = omega arith
drop_low f (suc n) [] d h = cc
drop_low f (suc n) (g ∷ fs) d h =
    let there : is_in f fs ≡ true = in_drop f n fs h in
    let rest : n ≤ above f fs = drop_low f n fs d.1 h in
    let cases : (b : Bool) → (g == f) ≡ b → suc n ≤ cond b 0 (above f fs + 1) = elim [
      | true ↦ λ t. let same : g ≡ f = grind (arith, nat_tests) in absurd (cc (ap (λ x. is_in x fs) same, d.0, there))
      | false ↦ λ t. omega (arith, rest)
    ] in
    cases (g == f) refl

-- a filter of the first ones has fewer above it than were taken
pub take_high : (f n : ℕ) (fs : List ℕ) → is_in f (take n fs) ≡ true → above f fs < n
take_high f zero fs h = cc
take_high f (suc n) [] h = cc
take_high f (suc n) (g ∷ fs) h =
    let cases : (b : Bool) → (b || is_in f (take n fs)) ≡ true → cond b 0 (above f fs + 1) < suc n = elim [
      | true ↦ λ h. omega arith
      | false ↦ λ h. omega (arith, take_high f n fs h)
    ] in
    cases (g == f) h

-- and one of the order is above the miniport
pub in_above : (f : ℕ) (fs : List ℕ) → is_in f fs ≡ true → above f fs < length fs
in_above f [] h = cc
in_above f (g ∷ fs) h =
    let cases : (b : Bool) → (b || is_in f fs) ≡ true → cond b 0 (above f fs + 1) < length (g ∷ fs) = elim [
      | true ↦ λ h. omega arith
      | false ↦ λ h. omega (arith, in_above f fs h)
    ] in
    cases (g == f) h

-- the filters of some first ones after some others
pub drop_take_low : (f n i : ℕ) (fs : List ℕ) → IsDistinct fs → is_in f (drop n (take i fs)) ≡ true → n ≤ above f fs
drop_take_low f n i fs d h = drop_low f n fs d (part f n i fs h)
  where
    part : (f n i : ℕ) (fs : List ℕ) → is_in f (drop n (take i fs)) ≡ true → is_in f (drop n fs) ≡ true
    part f zero i fs h = in_take f i fs h
    part f (suc n) zero fs h = cc
    part f (suc n) (suc i) [] h = h
    part f (suc n) (suc i) (g ∷ fs) h = part f n i fs h
