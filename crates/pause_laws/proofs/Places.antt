-- Positions of filters in an order that has each of them once, and of the targets that lists go to.
use Rattle.std.proofs.Common.{◌≡◌, ℕ, zero, suc, ◌+◌, ◌-◌, ◌<◌, ◌≤◌, ◌==◌, ◌||◌, nat_lt, Bool, true, false, cond, List, [], ◌∷◌, ◌++◌, length, take, drop, reverse, refl, arith, ap, sym, subst, ◌∙◌}
use Rattle.std.proofs.lemmas.Bool.Decides.{nat_tests}
use Rattle.std.proofs.lemmas.List.{reverse-append}
use Rattle.ndis_base.specs.declared.ModuleId.{ModuleId}
use Rattle.ndis_base.specs.declared.ModuleId.TheVariants.{Miniport, Filter}
use Rattle.journal_types.specs.declared.Target.{Target}
use Rattle.journal_types.specs.declared.Target.TheVariants.{Module, Bindings}
use Rattle.stack_rules.specs.Net.{Modules}
use Rattle.stack_rules.specs.Places.{above, position, position_of_target}
use Rattle.stack_rules.specs.Targets.{has_send, has_receive, first_filter, next_down, next_up, next_done, next_back}
use Rattle.stack_rules.specs.Rewires.{is_in}
use Rattle.state_laws.specs.Shape.{IsDistinct}
use Rattle.pause_laws.specs.Clear.{IsNearest}

-- the filters of a list are counted one by one in the order, from a number on
abbrev Counts : List ℕ → ℕ → List ℕ → Type 0
Counts order n [] = Unit {0}
Counts order n (f ∷ fs) = (above f order ≡ n) × Counts order (n + 1) fs

shifted : (g : ℕ) (order : List ℕ) (n : ℕ) (fs : List ℕ) → is_in g fs ≡ false → Counts order n fs → Counts (g ∷ order) (n + 1) fs
shifted g order n [] a h = tt
shifted g order n (f ∷ fs) a h =
    let other : (g == f) ≡ false = grind (arith, nat_tests) in
    let rest : is_in g fs ≡ false = grind (arith, nat_tests) in
    let here : above f order ≡ n = h.0 in
    (rw other (omega (arith, here)), shifted g order (n + 1) fs rest h.1)

counts : (order : List ℕ) → IsDistinct order → Counts order 0 order
counts [] d = tt
counts (g ∷ order) d = (grind (arith, nat_tests), shifted g order 0 order d.0 (counts order d.1))

drop_counts : (order : List ℕ) (i n : ℕ) (fs : List ℕ) → Counts order n fs → Counts order (n + i) (drop i fs)
drop_counts order zero n fs h = let at : n ≡ n + 0 = omega arith in subst (λ k. Counts order k fs) at h
drop_counts order (suc i) n [] h = tt
drop_counts order (suc i) n (f ∷ fs) h = let at : n + 1 + i ≡ n + suc i = omega arith in subst (λ k. Counts order k (drop i fs)) at (drop_counts order i (n + 1) fs h.1)

take_counts : (order : List ℕ) (i n : ℕ) (fs : List ℕ) → Counts order n fs → Counts order n (take i fs)
take_counts order zero n fs h = tt
take_counts order (suc i) n [] h = tt
take_counts order (suc i) n (f ∷ fs) h = (h.0, take_counts order i (n + 1) fs h.1)

-- a filter of the list is not above its first one
counts_low : (order : List ℕ) (n f : ℕ) (fs : List ℕ) → Counts order n fs → is_in f fs ≡ true → n ≤ above f order
counts_low order n f [] h i = cc
counts_low order n f (g ∷ fs) h i =
    let cases : (b : Bool) → (g == f) ≡ b → (b || is_in f fs) ≡ true → n ≤ above f order = elim [
      | true ↦ λ t i. let same : g ≡ f = grind (arith, nat_tests) in let here : above f order ≡ n = ap (λ x. above x order) (sym same) ∙ h.0 in omega (arith, here)
      | false ↦ λ t i. omega (arith, counts_low order (n + 1) f fs h.1 i)
    ] in
    cases (g == f) refl i

-- what is counted early enough is among the first
in_take : (order : List ℕ) (n i f : ℕ) (fs : List ℕ) → Counts order n fs → is_in f fs ≡ true → above f order < n + i → is_in f (take i fs) ≡ true
in_take order n zero f fs h i a = absurd (omega (arith, counts_low order n f fs h i))
in_take order n (suc i) f [] h a b = cc
in_take order n (suc i) f (g ∷ fs) h a b =
    let cases : (c : Bool) → (g == f) ≡ c → (c || is_in f fs) ≡ true → (c || is_in f (take i fs)) ≡ true = elim [
      | true ↦ λ t x. refl
      | false ↦ λ t x. in_take order (n + 1) i f fs h.1 x (omega arith)
    ] in
    cases (g == f) refl a

in_snoc : (f g : ℕ) (fs : List ℕ) → is_in f (fs ++ g ∷ []) ≡ (is_in f fs || (g == f))
in_snoc f g [] = or_off (g == f)
  where
    or_off : (b : Bool) → (b || false) ≡ b
    or_off true = refl
    or_off false = refl
in_snoc f g (h ∷ fs) = rw (in_snoc f g fs) (assoc (h == f) (is_in f fs) (g == f))
  where
    assoc : (a b c : Bool) → (a || (b || c)) ≡ ((a || b) || c)
    assoc true b c = refl
    assoc false b c = refl

reverse-cons : (x : ℕ) (xs : List ℕ) → reverse (x ∷ xs) ≡ reverse xs ++ x ∷ []
reverse-cons x xs = reverse-append (x ∷ []) xs

in_reverse : (f : ℕ) (fs : List ℕ) → is_in f (reverse fs) ≡ is_in f fs
in_reverse f [] = refl
in_reverse f (g ∷ fs) = ap (is_in f) (reverse-cons g fs) ∙ in_snoc f g (reverse fs) ∙ ap (λ b. b || (g == f)) (in_reverse f fs) ∙ swap (is_in f fs) (g == f)
  where
    swap : (a b : Bool) → (a || b) ≡ (b || a)
    swap true true = refl
    swap true false = refl
    swap false true = refl
    swap false false = refl

-- the filter that is found, or else the other target
pub found_or : (P : Target → Type 0) (has : ℕ → Bool) (fs : List ℕ) (other : Target) → ((f : ℕ) → has f ≡ true → is_in f fs ≡ true → P (Module (Filter f))) → P other → P (first_filter has fs other)
found_or P has [] other f o = o
found_or P has (g ∷ fs) other f o =
    let rest : P (first_filter has fs other) = found_or P has fs other (λ h a i. f h a (more (g == h) (is_in h fs) i)) o in
    let cases : (b : Bool) → has g ≡ b → P (cond b (Module (Filter g)) (first_filter has fs other)) = elim [
      | true ↦ λ t. f g t (grind (arith, nat_tests))
      | false ↦ λ t. rest
    ] in
    cases (has g) refl
  where
    more : (a b : Bool) → b ≡ true → (a || b) ≡ true
    more true b h = refl
    more false b h = h

pub down_low : (ms : Modules) (n i : ℕ) → IsDistinct ms.order → n ≤ i → i ≤ length ms.order + 1 → n ≤ position_of_target ms.order (next_down ms i)
down_low ms n i d a b =
    found_or (λ t. n ≤ position_of_target ms.order t) (has_send ms) (drop i ms.order) (Module Miniport)
    (λ f h x. omega (arith, counts_low ms.order (0 + i) f (drop i ms.order) (drop_counts ms.order i 0 ms.order (counts ms.order d)) x))
    (omega arith)

pub done_low : (ms : Modules) (i : ℕ) (owner : ModuleId) → IsDistinct ms.order → position ms.order owner ≤ position_of_target ms.order (next_done ms i owner)
done_low ms i owner d =
    let top : ℕ = position ms.order owner in
    let fs : List ℕ = drop top (take (i - 1) ms.order) in
    found_or (λ t. top ≤ position_of_target ms.order t) (has_send ms) (reverse fs) (Module owner)
    (λ f h x. omega (arith, counts_low ms.order (0 + top) f fs (drop_counts ms.order top 0 (take (i - 1) ms.order) (take_counts ms.order (i - 1) 0 ms.order (counts ms.order d))) (sym (in_reverse f fs) ∙ x)))
    (omega arith)

-- a filter that a returned receive goes to is below where it comes from
back_below : (ms : Modules) (i n f : ℕ) → IsDistinct ms.order → is_in f (drop i (take n ms.order)) ≡ true → i < position ms.order (Filter f)
back_below ms i n f d x =
    omega (arith, counts_low ms.order (0 + i) f (drop i (take n ms.order)) (drop_counts ms.order i 0 (take n ms.order) (take_counts ms.order n 0 ms.order (counts ms.order d))) x)

in_drop : (f i : ℕ) (fs : List ℕ) → is_in f (drop i fs) ≡ true → is_in f fs ≡ true
in_drop f zero fs h = h
in_drop f (suc i) [] h = h
in_drop f (suc i) (g ∷ fs) h = more (g == f) (is_in f fs) (in_drop f i fs h)
  where
    more : (a b : Bool) → b ≡ true → (a || b) ≡ true
    more true b h = refl
    more false b h = h

take_in : (f i : ℕ) (fs : List ℕ) → is_in f (take i fs) ≡ true → is_in f fs ≡ true
take_in f zero fs h = cc
take_in f (suc i) [] h = h
take_in f (suc i) (g ∷ fs) h = either (g == f) (is_in f (take i fs)) (is_in f fs) (take_in f i fs) h
  where
    either : (a b c : Bool) → (b ≡ true → c ≡ true) → (a || b) ≡ true → (a || c) ≡ true
    either true b c k h = refl
    either false b c k h = k h

pub back_low : (ms : Modules) (n i : ℕ) (owner : ModuleId) → IsDistinct ms.order → n ≤ i → n ≤ position ms.order owner → n ≤ position_of_target ms.order (next_back ms i owner)
back_low ms n i owner d a b =
    found_or (λ t. n ≤ position_of_target ms.order t) (has_receive ms) (drop i (take (position ms.order owner - 1) ms.order)) (Module owner)
    (λ f h x. omega (arith, back_below ms i (position ms.order owner - 1) f d x))
    b

-- a receive that is turned back where it went next doesn't come above where it was
pub back_nearest : (ms : Modules) (n from i : ℕ) (owner : ModuleId) → IsDistinct ms.order → IsNearest ms from i → n ≤ from → n ≤ position ms.order owner → n ≤ position_of_target ms.order (next_back ms i owner)
back_nearest ms n from i owner d near a b =
    let fs : List ℕ = drop i (take (position ms.order owner - 1) ms.order) in
    found_or (λ t. n ≤ position_of_target ms.order t) (has_receive ms) fs (Module owner)
    (λ f h x.
    let below : i < position ms.order (Filter f) = back_below ms i (position ms.order owner - 1) f d x in
    let there : is_in f ms.order ≡ true = take_in f (position ms.order owner - 1) ms.order (in_drop f i (take (position ms.order owner - 1) ms.order) x) in
    let cases : (c : Bool) → nat_lt (position ms.order (Filter f)) from ≡ c → n ≤ position ms.order (Filter f) = elim [
      | true ↦ λ t. let less : position ms.order (Filter f) < from = grind (arith, nat_tests) in absurd (omega (arith, near f h there less, below))
      | false ↦ λ t. let more : from ≤ position ms.order (Filter f) = grind (arith, nat_tests) in omega (arith, more, a)
    ] in
    cases (nat_lt (position ms.order (Filter f)) from) refl)
    b

-- the last filter of some that receives
snoc_first : (has : ℕ → Bool) (x : ℕ) (fs : List ℕ) (other : Target) → first_filter has (fs ++ x ∷ []) other ≡ first_filter has fs (cond (has x) (Module (Filter x)) other)
snoc_first has x [] other = refl
snoc_first has x (g ∷ fs) other = ap (cond (has g) (Module (Filter g))) (snoc_first has x fs other)

last_first : (has : ℕ → Bool) (x : ℕ) (fs : List ℕ) (other : Target) → first_filter has (reverse (x ∷ fs)) other ≡ first_filter has (reverse fs) (cond (has x) (Module (Filter x)) other)
last_first has x fs other = ap (λ gs. first_filter has gs other) (reverse-cons x fs) ∙ snoc_first has x (reverse fs) other

last_low : (order : List ℕ) (has : ℕ → Bool) (n : ℕ) (fs : List ℕ) (other : Target) → Counts order n fs → position_of_target order other ≤ n → position_of_target order other ≤ position_of_target order (first_filter has (reverse fs) other)
last_low order has n fs other h a =
    found_or (λ t. position_of_target order other ≤ position_of_target order t) has (reverse fs) other
    (λ f b x. omega (arith, counts_low order n f fs h (sym (in_reverse f fs) ∙ x), a))
    (omega arith)

last_most : (order : List ℕ) (has : ℕ → Bool) (n : ℕ) (fs : List ℕ) (other : Target) (f : ℕ) → Counts order n fs → has f ≡ true → is_in f fs ≡ true → above f order + 1 ≤ position_of_target order (first_filter has (reverse fs) other)
last_most order has n [] other f h a i = cc
last_most order has n (g ∷ fs) other f h a i =
    let cases : (b : Bool) → (g == f) ≡ b → (b || is_in f fs) ≡ true → above f order + 1 ≤ position_of_target order (first_filter has (reverse fs) (cond (has g) (Module (Filter g)) other)) = elim [
      | true ↦ λ t i.
          let same : g ≡ f = grind (arith, nat_tests) in
          let here : above g order ≡ n = h.0 in
          let is : has g ≡ true = ap has same ∙ a in
          let low : position_of_target order (Module (Filter g)) ≤ position_of_target order (first_filter has (reverse fs) (Module (Filter g))) = last_low order has (n + 1) fs (Module (Filter g)) h.1 (omega (arith, here)) in
          let at : above f order ≡ above g order = ap (λ x. above x order) (sym same) in
          rw is (omega (arith, low, at))
      | false ↦ λ t i. last_most order has (n + 1) fs _ f h.1 a i
    ] in
    let rest = cases (g == f) refl i in
    subst (λ t. above f order + 1 ≤ position_of_target order t) (sym (last_first has g fs other)) rest

pub up_nearest : (ms : Modules) (from : ℕ) → IsDistinct ms.order → IsNearest ms from (position_of_target ms.order (next_up ms from))
up_nearest ms from d f h i a =
    let fs : List ℕ = take (from - 1) ms.order in
    let all : Counts ms.order 0 ms.order = counts ms.order d in
    last_most ms.order (has_receive ms) 0 fs Bindings f (take_counts ms.order (from - 1) 0 ms.order all) h (in_take ms.order 0 (from - 1) f ms.order all i (omega (arith, a)))
