-- The positions that lists and statuses go to next.
use Rattle.std.proofs.Common.{◌≡◌, ℕ, zero, suc, ◌+◌, ◌-◌, ◌<◌, ◌≤◌, ◌==◌, ◌||◌, Bool, true, false, cond, List, [], ◌∷◌, ◌++◌, length, take, drop, reverse, refl, arith, ap, sym, ◌∙◌}
use Rattle.std.proofs.lemmas.Bool.Decides.{nat_tests}
use Rattle.std.proofs.lemmas.List.{reverse-append}
use Rattle.ndis_base.specs.declared.ModuleId.{ModuleId}
use Rattle.ndis_base.specs.declared.ModuleId.TheVariants.{Miniport, Filter, Binding}
use Rattle.journal_types.specs.declared.Target.{Target}
use Rattle.journal_types.specs.declared.Target.TheVariants.{Module, Bindings}
use Rattle.stack_rules.specs.Net.{Modules}
use Rattle.stack_rules.specs.Places.{above, position, position_of_target}
use Rattle.stack_rules.specs.Targets.{has_send, has_receive, has_status, first_filter, filters_above, next_down, next_up, next_done, next_back, next_status}
use Rattle.stack_rules.specs.Rewires.{is_in}
use Rattle.state_laws.specs.Shape.{IsDistinct}

above_most : (f : ℕ) (fs : List ℕ) → above f fs ≤ length fs
above_most f [] = omega arith
above_most f (g ∷ fs) = let rest = above_most f fs in elim (g == f) as (λ b. cond b 0 (above f fs + 1) ≤ length (g ∷ fs)) [ true ↦ omega arith | false ↦ omega (arith, rest) ]

pub position_most : (order : List ℕ) (m : ModuleId) → position order m ≤ length order + 1
position_most order Miniport = omega arith
position_most order (Binding b) = omega arith
position_most order (Filter f) = omega (arith, above_most f order)

-- the filter that is found, or else the other target
found_or : (P : Target → Type 0) (has : ℕ → Bool) (fs : List ℕ) (other : Target) → ((f : ℕ) → has f ≡ true → is_in f fs ≡ true → P (Module (Filter f))) → P other → P (first_filter has fs other)
found_or P has [] other f o = o
found_or P has (g ∷ fs) other f o =
    let rest : P (first_filter has fs other) = found_or P has fs other (λ h a i. f h a (more (g == h) (is_in h fs) i)) o in
    let cases : (b : Bool) → has g ≡ b → P (cond b (Module (Filter g)) (first_filter has fs other)) = elim [
      | true ↦ λ t. f g t (grind (arith, nat_tests))
      | false ↦ λ t. rest
    ] in
    cases (has g) refl
  where
    more : (a b : Bool) → b ≡ true → (a || b) ≡ true
    more true b h = refl
    more false b h = h

pub target_most : (order : List ℕ) (to : Target) → position_of_target order to ≤ length order + 1
target_most order (Module m) = position_most order m
target_most order Bindings = omega arith

-- what is among the filters of a part of the order
in_either : (a b c : Bool) → (b ≡ true → c ≡ true) → (a || b) ≡ true → (a || c) ≡ true
in_either true b c k h = refl
in_either false b c k h = k h

in_more : (a b : Bool) → b ≡ true → (a || b) ≡ true
in_more true b h = refl
in_more false b h = h

pub take_in : (f i : ℕ) (fs : List ℕ) → is_in f (take i fs) ≡ true → is_in f fs ≡ true
take_in f zero fs h = cc
take_in f (suc i) [] h = h
take_in f (suc i) (g ∷ fs) h = in_either (g == f) (is_in f (take i fs)) (is_in f fs) (take_in f i fs) h

pub drop_in : (f i : ℕ) (fs : List ℕ) → is_in f (drop i fs) ≡ true → is_in f fs ≡ true
drop_in f zero fs h = h
drop_in f (suc i) [] h = h
drop_in f (suc i) (g ∷ fs) h = in_more (g == f) (is_in f fs) (drop_in f i fs h)

take_above : (f i : ℕ) (fs : List ℕ) → is_in f (take i fs) ≡ true → above f fs < i
take_above f zero fs h = cc
take_above f (suc i) [] h = cc
take_above f (suc i) (g ∷ fs) h =
    let cases : (b : Bool) → (b || is_in f (take i fs)) ≡ true → cond b 0 (above f fs + 1) < suc i = elim [
      | true ↦ λ x. omega arith
      | false ↦ λ x. let rest = take_above f i fs x in omega (arith, rest)
    ] in
    cases (g == f) h

pub in_above : (f : ℕ) (fs : List ℕ) → is_in f fs ≡ true → above f fs < length fs
in_above f [] h = cc
in_above f (g ∷ fs) h =
    let cases : (b : Bool) → (b || is_in f fs) ≡ true → cond b 0 (above f fs + 1) < length (g ∷ fs) = elim [
      | true ↦ λ x. omega arith
      | false ↦ λ x. let rest = in_above f fs x in omega (arith, rest)
    ] in
    cases (g == f) h

pub drop_above : (f i : ℕ) (fs : List ℕ) → IsDistinct fs → is_in f (drop i fs) ≡ true → i ≤ above f fs
drop_above f zero fs d h = omega arith
drop_above f (suc i) [] d h = cc
drop_above f (suc i) (g ∷ fs) d h =
    let there : is_in f fs ≡ true = drop_in f i fs h in
    let rest = drop_above f i fs d.1 h in
    let other : (g == f) ≡ false = apart (g == f) refl d.0 there in
    rw other (omega (arith, rest))
  where
    apart : (b : Bool) → (g == f) ≡ b → is_in g fs ≡ false → is_in f fs ≡ true → (g == f) ≡ false
    apart true t x y = let same : g ≡ f = grind (arith, nat_tests) in let z : is_in g fs ≡ true = ap (λ k. is_in k fs) same ∙ y in cc
    apart false t x y = t

drop_take : (f i n : ℕ) (fs : List ℕ) → is_in f (drop i (take n fs)) ≡ true → is_in f (drop i fs) ≡ true
drop_take f zero n fs h = take_in f n fs h
drop_take f (suc i) zero fs h = cc
drop_take f (suc i) (suc n) [] h = h
drop_take f (suc i) (suc n) (g ∷ fs) h = drop_take f i n fs h

in_snoc : (f g : ℕ) (fs : List ℕ) → is_in f (fs ++ g ∷ []) ≡ true → (is_in f fs || (g == f)) ≡ true
in_snoc f g [] h = off (g == f) h
  where
    off : (b : Bool) → (b || false) ≡ true → b ≡ true
    off true h = refl
    off false h = h
in_snoc f g (x ∷ fs) h = assoc (x == f) (is_in f (fs ++ g ∷ [])) (is_in f fs) (g == f) (in_snoc f g fs) h
  where
    assoc : (a b c d : Bool) → (b ≡ true → (c || d) ≡ true) → (a || b) ≡ true → ((a || c) || d) ≡ true
    assoc true b c d k h = refl
    assoc false b c d k h = k h

pub reverse_in : (f : ℕ) (fs : List ℕ) → is_in f (reverse fs) ≡ true → is_in f fs ≡ true
reverse_in f [] h = h
reverse_in f (g ∷ fs) h =
    let turned : is_in f (reverse fs ++ g ∷ []) ≡ true = ap (is_in f) (sym (reverse-append (g ∷ []) fs)) ∙ h in
    swap (is_in f (reverse fs)) (is_in f fs) (g == f) (reverse_in f fs) (in_snoc f g (reverse fs) turned)
  where
    swap : (a b c : Bool) → (a ≡ true → b ≡ true) → (a || c) ≡ true → (c || b) ≡ true
    swap a b true k h = refl
    swap true b false k h = k refl
    swap false b false k h = cc

-- a send goes further down
pub down_far : (ms : Modules) (i : ℕ) → IsDistinct ms.order → i < length ms.order + 1 → i < position_of_target ms.order (next_down ms i)
down_far ms i d a =
    found_or (λ t. i < position_of_target ms.order t) (has_send ms) (drop i ms.order) (Module Miniport)
    (λ f h x. let far = drop_above f i ms.order d x in omega (arith, far))
    a

pub down_least : (ms : Modules) (i : ℕ) → 1 ≤ position_of_target ms.order (next_down ms i)
down_least ms i = found_or (λ t. 1 ≤ position_of_target ms.order t) (has_send ms) (drop i ms.order) (Module Miniport) (λ f h x. omega arith) (omega arith)

-- a receive and a status go further up
near_by : (ms : Modules) (i : ℕ) (has : ℕ → Bool) → position_of_target ms.order (first_filter has (reverse (filters_above ms i)) Bindings) ≤ i - 1
near_by ms i has =
    found_or (λ t. position_of_target ms.order t ≤ i - 1) has (reverse (filters_above ms i)) Bindings
    (λ f h x. let near = take_above f (i - 1) ms.order (reverse_in f (take (i - 1) ms.order) x) in omega (arith, near))
    (omega arith)

pub up_near : (ms : Modules) (i : ℕ) → position_of_target ms.order (next_up ms i) ≤ i - 1
up_near ms i = near_by ms i (has_receive ms)

pub status_near : (ms : Modules) (i : ℕ) → position_of_target ms.order (next_status ms i) ≤ i - 1
status_near ms i = near_by ms i (has_status ms)

-- a done send goes further up, a returned receive further down
pub done_near : (ms : Modules) (i m : ℕ) (owner : ModuleId) → i - 1 ≤ m → position ms.order owner ≤ m → position_of_target ms.order (next_done ms i owner) ≤ m
done_near ms i m owner a b =
    let top : ℕ = position ms.order owner in
    found_or (λ t. position_of_target ms.order t ≤ m) (has_send ms) (reverse (drop top (take (i - 1) ms.order))) (Module owner)
    (λ f h x. let near = take_above f (i - 1) ms.order (drop_in f top (take (i - 1) ms.order) (reverse_in f (drop top (take (i - 1) ms.order)) x)) in omega (arith, near))
    b

pub back_far : (ms : Modules) (i : ℕ) (owner : ModuleId) → IsDistinct ms.order → i < position ms.order owner → i < position_of_target ms.order (next_back ms i owner)
back_far ms i owner d a =
    let n : ℕ = position ms.order owner - 1 in
    found_or (λ t. i < position_of_target ms.order t) (has_receive ms) (drop i (take n ms.order)) (Module owner)
    (λ f h x. let far = drop_above f i ms.order d (drop_take f i n ms.order x) in omega (arith, far))
    a

pub back_least : (ms : Modules) (i : ℕ) (owner : ModuleId) → 1 ≤ position ms.order owner → 1 ≤ position_of_target ms.order (next_back ms i owner)
back_least ms i owner a =
    let n : ℕ = position ms.order owner - 1 in
    found_or (λ t. 1 ≤ position_of_target ms.order t) (has_receive ms) (drop i (take n ms.order)) (Module owner) (λ f h x. omega arith) a

-- where a done send stops: at its owner, or below it; a returned receive: at its owner, or above it
pub done_below : (ms : Modules) (i : ℕ) (owner : ModuleId) (P : Target → Type 0) → IsDistinct ms.order → ((f : ℕ) → position ms.order owner < position ms.order (Filter f) → P (Module (Filter f))) → P (Module owner) → P (next_done ms i owner)
done_below ms i owner P d f o =
    let top : ℕ = position ms.order owner in
    found_or P (has_send ms) (reverse (drop top (take (i - 1) ms.order))) (Module owner)
    (λ g h x. f g (let far = drop_above g top ms.order d (drop_take g top (i - 1) ms.order (reverse_in g (drop top (take (i - 1) ms.order)) x)) in omega (arith, far)))
    o

pub back_above : (ms : Modules) (i : ℕ) (owner : ModuleId) (P : Target → Type 0) → ((f : ℕ) → position ms.order (Filter f) < position ms.order owner → P (Module (Filter f))) → P (Module owner) → P (next_back ms i owner)
back_above ms i owner P f o =
    let n : ℕ = position ms.order owner - 1 in
    found_or P (has_receive ms) (drop i (take n ms.order)) (Module owner)
    (λ g h x. f g (let near = take_above g n ms.order (drop_in g i (take n ms.order) x) in omega (arith, near)))
    o

-- where a send goes down to and a receive goes up to
pub down_to : (ms : Modules) (i : ℕ) (P : Target → Type 0) → ((f : ℕ) → has_send ms f ≡ true → is_in f ms.order ≡ true → P (Module (Filter f))) → P (Module Miniport) → P (next_down ms i)
down_to ms i P f o = found_or P (has_send ms) (drop i ms.order) (Module Miniport) (λ g h x. f g h (drop_in g i ms.order x)) o

pub up_to : (ms : Modules) (i : ℕ) (P : Target → Type 0) → ((f : ℕ) → has_receive ms f ≡ true → is_in f ms.order ≡ true → P (Module (Filter f))) → P Bindings → P (next_up ms i)
up_to ms i P f o = found_or P (has_receive ms) (reverse (filters_above ms i)) Bindings (λ g h x. f g h (take_in g (i - 1) ms.order (reverse_in g (take (i - 1) ms.order) x))) o

pub status_to : (ms : Modules) (i : ℕ) (P : Target → Type 0) → ((f : ℕ) → P (Module (Filter f))) → P Bindings → P (next_status ms i)
status_to ms i P f o = found_or P (has_status ms) (reverse (filters_above ms i)) Bindings (λ g h x. f g) o
