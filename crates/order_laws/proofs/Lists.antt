-- Lists of filters' numbers: how long they are, and those without a number.
use Rattle.std.proofs.Common.{◌≡◌, ℕ, zero, suc, ◌+◌, ◌≤◌, ◌==◌, ◌||◌, ◌&&◌, not, Bool, true, false, cond, List, [], ◌∷◌, ◌++◌, length, filter, refl, arith, ap, ◌∙◌}
use Rattle.std.specs.List.{insert}
use Rattle.std.proofs.lemmas.Bool.Decides.{nat_tests}
use Rattle.stack_rules.specs.Rewires.{is_in}
use Rattle.state_laws.specs.Shape.{IsDistinct}

-- the list without a number
abbrev pub but : ℕ → List ℕ → List ℕ
but f fs = filter (λ g. not (g == f)) fs

pub length-insert : (f i : ℕ) (fs : List ℕ) → length (insert fs i f) ≡ length fs + 1
length-insert f zero fs = omega arith
length-insert f (suc i) [] = refl
length-insert f (suc i) (g ∷ fs) = let rest = length-insert f i fs in omega (arith, rest)

pub length-but : (f : ℕ) (fs : List ℕ) → length (but f fs) ≤ length fs
length-but f [] = omega arith
length-but f (x ∷ fs) =
    let rest = length-but f fs in
    elim (x == f) as (λ b. length (cond (not b) (x ∷ but f fs) (but f fs)) ≤ length (x ∷ fs)) [ true ↦ omega (arith, rest) | false ↦ omega (arith, rest) ]

-- where the number is in the list, it is shorter without it
pub shorter-but : (f : ℕ) (fs : List ℕ) → is_in f fs ≡ true → length (but f fs) + 1 ≤ length fs
shorter-but f [] i = cc
shorter-but f (x ∷ fs) i =
    let cases : (b : Bool) → (b || is_in f fs) ≡ true → length (cond (not b) (x ∷ but f fs) (but f fs)) + 1 ≤ length (x ∷ fs) = elim [
      | true ↦ λ i. let rest = length-but f fs in omega (arith, rest)
      | false ↦ λ i. let rest = shorter-but f fs i in omega (arith, rest)
    ] in
    cases (x == f) i

pub is_in-but : (g f : ℕ) (fs : List ℕ) → is_in g (but f fs) ≡ (not (g == f) && is_in g fs)
is_in-but g f [] = grind (arith, nat_tests)
is_in-but g f (x ∷ fs) = grind (arith, nat_tests, is_in-but g f fs)

pub distinct-but : (f : ℕ) (fs : List ℕ) → IsDistinct fs → IsDistinct (but f fs)
distinct-but f [] h = tt
distinct-but f (x ∷ fs) h =
    let absent : is_in x (but f fs) ≡ false = is_in-but x f fs ∙ off (not (x == f)) (is_in x fs) h.0 in
    elim (x == f) as (λ b. IsDistinct (cond (not b) (x ∷ but f fs) (but f fs))) [
      | true ↦ distinct-but f fs h.1
      | false ↦ (absent, distinct-but f fs h.1)
    ]
  where
    off : (a b : Bool) → b ≡ false → (a && b) ≡ false
    off true b h = h
    off false b h = refl

is_in-push : (g f : ℕ) (fs : List ℕ) → is_in g fs ≡ false → (f == g) ≡ false → is_in g (fs ++ f ∷ []) ≡ false
is_in-push g f [] h e = rw e refl
is_in-push g f (x ∷ fs) h e = by (x == g) (is_in g fs) h (λ k. is_in-push g f fs k e)
  where
    by : (a b : Bool) → (a || b) ≡ false → (b ≡ false → is_in g (fs ++ f ∷ []) ≡ false) → (a || is_in g (fs ++ f ∷ [])) ≡ false
    by true b h k = cc
    by false b h k = k h

-- one more number, which isn't in the list
pub distinct-push : (f : ℕ) (fs : List ℕ) → is_in f fs ≡ false → IsDistinct fs → IsDistinct (fs ++ f ∷ [])
distinct-push f [] h d = (refl, tt)
distinct-push f (x ∷ fs) h d =
    let two : ((f == x) ≡ false) × (is_in f fs ≡ false) = by (x == f) (is_in f fs) refl h in
    (is_in-push x f fs d.0 two.0, distinct-push f fs two.1 d.1)
  where
    swap : (a b : ℕ) → (a == b) ≡ (b == a)
    swap a b = grind (arith, nat_tests)

    by : (a b : Bool) → (x == f) ≡ a → (a || b) ≡ false → ((f == x) ≡ false) × (b ≡ false)
    by true b e h = cc
    by false b e h = (swap f x ∙ e, h)

-- of two lists in which no number is twice, one that is within the other isn't longer
pub no_longer : (xs ys : List ℕ) → IsDistinct xs → ((g : ℕ) → is_in g xs ≡ true → is_in g ys ≡ true) → length xs ≤ length ys
no_longer [] ys d h = omega arith
no_longer (x ∷ xs) ys d h =
    let here : is_in x ys ≡ true = h x (ap (λ b. b || is_in x xs) (itself x)) in
    let less = shorter-but x ys here in
    let rest : length xs ≤ length (but x ys) = no_longer xs (but x ys) d.1 (λ g i. is_in-but g x ys ∙ both g i (g == x) refl) in
    omega (arith, less, rest)
  where
    itself : (n : ℕ) → (n == n) ≡ true
    itself n = grind (arith, nat_tests)

    more : (a b : Bool) → b ≡ true → (a || b) ≡ true
    more true b i = refl
    more false b i = i

    same : (g : ℕ) → (g == x) ≡ true → is_in g xs ≡ is_in x xs
    same g t = let e : g ≡ x = grind (arith, nat_tests) in ap (λ n. is_in n xs) e

    clash : (b : Bool) → b ≡ true → b ≡ false → ⊥
    clash b t f = cc

    both : (g : ℕ) → is_in g xs ≡ true → (b : Bool) → (g == x) ≡ b → (not b && is_in g ys) ≡ true
    both g i true t = absurd (clash (is_in g xs) i (same g t ∙ d.0))
    both g i false t = h g (more (x == g) (is_in g xs) i)
