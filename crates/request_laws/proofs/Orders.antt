-- The modules that take requests, and their positions.
use Rattle.std.proofs.Common.{◌≡◌, ℕ, ◌+◌, ◌<◌, ◌==◌, ◌||◌, Bool, true, false, cond, List, [], ◌∷◌, length, filter, reverse, refl, arith, ap, sym, ◌∙◌}
use Rattle.std.proofs.lemmas.Bool.Decides.{nat_tests}
use Rattle.std.proofs.lemmas.List.Sorted.{list_any-IsPermutation, IsPermutation-reverse}
use Rattle.ndis_base.specs.declared.ModuleId.{ModuleId}
use Rattle.ndis_base.specs.declared.ModuleId.TheVariants.{Miniport, Filter, Binding}
use Rattle.stack_rules.specs.Tests.{same_module}
use Rattle.stack_rules.specs.Net.{Modules, has_oid, below, first_oid}
use Rattle.stack_rules.specs.Places.{above, position}
use Rattle.stack_rules.specs.Requests.{filter_ids, oid_modules}
use Rattle.stack_rules.specs.Rewires.{is_in}
use Rattle.state_laws.specs.Shape.{IsDistinct}

-- a module that takes requests
abbrev pub TakesRequests : Modules → ModuleId → Type 0
TakesRequests ms Miniport = Unit {0}
TakesRequests ms (Filter f) = is_in f ms.order ≡ true
TakesRequests ms (Binding b) = ⊥

in_more : (a b : Bool) → b ≡ true → (a || b) ≡ true
in_more true b h = refl
in_more false b h = h

in_first : (f : ℕ) (fs : List ℕ) → is_in f (f ∷ fs) ≡ true
in_first f fs = let same = itself f in rw same refl
  where
    itself : (n : ℕ) → (n == n) ≡ true
    itself n = grind (arith, nat_tests)

in_reverse : (f : ℕ) (fs : List ℕ) → is_in f (reverse fs) ≡ is_in f fs
in_reverse f fs = sym (list_any-IsPermutation (λ g. g == f) fs (reverse fs) (IsPermutation-reverse fs))

in_above : (f : ℕ) (fs : List ℕ) → is_in f fs ≡ true → above f fs < length fs
in_above f [] h = cc
in_above f (g ∷ fs) h =
    let cases : (b : Bool) → (b || is_in f fs) ≡ true → cond b 0 (above f fs + 1) < length (g ∷ fs) = elim [
      | true ↦ λ x. omega arith
      | false ↦ λ x. let rest = in_above f fs x in omega (arith, rest)
    ] in
    cases (g == f) h

-- the filters below one
below_in : (f g : ℕ) (fs : List ℕ) → is_in g (below f fs) ≡ true → is_in g fs ≡ true
below_in f g [] h = h
below_in f g (x ∷ fs) h =
    let cases : (b : Bool) → is_in g (cond b fs (below f fs)) ≡ true → is_in g fs ≡ true = elim [
      | true ↦ λ h. h
      | false ↦ λ h. below_in f g fs h
    ] in
    in_more (x == g) (is_in g fs) (cases (x == f) h)

below_above : (f g : ℕ) (fs : List ℕ) → IsDistinct fs → is_in g (below f fs) ≡ true → above f fs < above g fs
below_above f g [] d h = cc
below_above f g (x ∷ fs) d h =
    let cases : (b : Bool) → is_in g (cond b fs (below f fs)) ≡ true → cond b 0 (above f fs + 1) < cond (x == g) 0 (above g fs + 1) = elim [
      | true ↦ λ h. rw (other x g fs (x == g) refl d.0 h) (omega arith)
      | false ↦ λ h. let rest = below_above f g fs d.1 h in rw (other x g fs (x == g) refl d.0 (below_in f g fs h)) (omega (arith, rest))
    ] in
    cases (x == f) h
  where
    other : (x g : ℕ) (fs : List ℕ) (b : Bool) → (x == g) ≡ b → is_in x fs ≡ false → is_in g fs ≡ true → (x == g) ≡ false
    other x g fs true t n i = let same : x ≡ g = grind (arith, nat_tests) in let there : is_in x fs ≡ true = ap (λ k. is_in k fs) same ∙ i in cc
    other x g fs false t n i = t

-- the first module of some filters that takes requests, else the miniport
first_taker : (ms : Modules) (P : ModuleId → Type 0) (fs : List ℕ) → ((f : ℕ) → is_in f fs ≡ true → P (Filter f)) → P Miniport → P (first_oid ms fs)
first_taker ms P [] f o = o
first_taker ms P (g ∷ fs) f o =
    let rest : P (first_oid ms fs) = first_taker ms P fs (λ h i. f h (in_more (g == h) (is_in h fs) i)) o in
    elim (has_oid ms g) as (λ b. P (cond b (Filter g) (first_oid ms fs))) [ true ↦ f g (in_first g fs) | false ↦ rest ]

-- a clone waits below the filter that forwards its parent
pub clone_below : (ms : Modules) (f : ℕ) → IsDistinct ms.order → is_in f ms.order ≡ true → position ms.order (Filter f) < position ms.order (first_oid ms (below f ms.order))
clone_below ms f d there =
    first_taker ms (λ m. position ms.order (Filter f) < position ms.order m) (below f ms.order)
    (λ g i. let far = below_above f g ms.order d i in omega (arith, far))
    (let low = in_above f ms.order there in omega (arith, low))

pub topmost_takes : (ms : Modules) → TakesRequests ms (first_oid ms ms.order)
topmost_takes ms = first_taker ms (TakesRequests ms) ms.order (λ f i. i) tt

abbrev pub AllTake : Modules → List ModuleId → Type 0
AllTake ms [] = Unit {0}
AllTake ms (m ∷ rest) = TakesRequests ms m × AllTake ms rest

filters_take : (ms : Modules) (fs : List ℕ) → ((f : ℕ) → is_in f fs ≡ true → is_in f ms.order ≡ true) → AllTake ms (filter_ids (filter (has_oid ms) fs))
filters_take ms [] h = tt
filters_take ms (f ∷ fs) h =
    let rest : AllTake ms (filter_ids (filter (has_oid ms) fs)) = filters_take ms fs (λ g i. h g (in_more (f == g) (is_in g fs) i)) in
    elim (has_oid ms f) as (λ b. AllTake ms (filter_ids (cond b (f ∷ filter (has_oid ms) fs) (filter (has_oid ms) fs)))) [ true ↦ (h f (in_first f fs), rest) | false ↦ rest ]

pub all_take : (ms : Modules) → AllTake ms (oid_modules ms)
all_take ms = (tt, filters_take ms (reverse ms.order) (λ f i. sym (in_reverse f ms.order) ∙ i))

pub same_is : (m n : ModuleId) → same_module m n ≡ true → m ≡ n
same_is Miniport Miniport e = refl
same_is Miniport (Filter g) e = cc
same_is Miniport (Binding c) e = cc
same_is (Filter f) Miniport e = cc
same_is (Filter f) (Filter g) e = let same : f ≡ g = grind (arith, nat_tests) in ap (λ i. Filter i) same
same_is (Filter f) (Binding c) e = cc
same_is (Binding b) Miniport e = cc
same_is (Binding b) (Filter g) e = cc
same_is (Binding b) (Binding c) e = let same : b ≡ c = grind (arith, nat_tests) in ap (λ i. Binding i) same
