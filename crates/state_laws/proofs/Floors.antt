-- The positions from the top: how many of them pass a test, and which modules are at each.
use Rattle.std.proofs.Common.{◌≡◌, ℕ, zero, suc, ◌+◌, ◌<◌, ◌≤◌, ◌==◌, ◌&&◌, not, nat_lt, Bool, true, false, cond, List, [], ◌∷◌, ◌++◌, length, get_or, replicate, reverse, refl, arith, ap, sym, subst, map, ◌∙◌}
use Rattle.std.specs.List.{list_all}
use Rattle.std.proofs.lemmas.Bool.Decides.{nat_tests}
use Rattle.std.proofs.lemmas.List.{reverse-append, length-reverse}
use Rattle.ndis_base.specs.declared.ModuleId.{ModuleId}
use Rattle.ndis_base.specs.declared.ModuleId.TheVariants.{Miniport, Filter}
use Rattle.ndis_base.specs.declared.ModuleState.{ModuleState}
use Rattle.ndis_base.specs.declared.ModuleState.TheVariants as state
use Rattle.stack_rules.specs.Net.{Net, Modules, after_rows, is_detached, filter_after}
use Rattle.stack_rules.specs.Tests.{is_paused, is_running}
use Rattle.stack_rules.specs.Pauses.{binding_ids, one, floors, state_rows, all_are, count_front, first_unpaused, running_floors}
use Rattle.rule_basics.proofs.Plain.{all_are-bindings}
use Rattle.state_laws.specs.Shape.{state_at, FiltersAre, StatesAre, IsDistinct}
use Rattle.state_laws.proofs.Takes.{IsPut, put_bindings, put_filter, put_miniport}

-- what each position's modules answer
abbrev pub TestsAre : (List ModuleId → Bool) → (ℕ → Bool) → ℕ → List (List ModuleId) → Type 0
TestsAre test passes p [] = Unit {0}
TestsAre test passes p (x ∷ xs) = (test x ≡ passes p) × TestsAre test passes (p + 1) xs

-- the positions above q pass, and q doesn't
pub count_down : (test : List ModuleId → Bool) (passes : ℕ → Bool) (q p : ℕ) (xs : List (List ModuleId)) → ((i : ℕ) → i < q → passes i ≡ true) → passes q ≡ false → TestsAre test passes p xs → p ≤ q → q < p + length xs → count_front test xs + p ≡ q
count_down test passes q p [] y n h a b = absurd (omega arith)
count_down test passes q p (x ∷ xs) y n h a b =
    let cases : (c : Bool) → (p == q) ≡ c → count_front test (x ∷ xs) + p ≡ q = elim [
      | true ↦ λ t.
          let same : p ≡ q = grind (arith, nat_tests) in
          let fails : test x ≡ false = h.0 ∙ ap passes same ∙ n in
          rw fails (omega arith)
      | false ↦ λ t.
          let less : p < q = grind (arith, nat_tests) in
          let is : test x ≡ true = h.0 ∙ y p less in
          let rest : count_front test xs + (p + 1) ≡ q = count_down test passes q (p + 1) xs y n h.1 (omega arith) (omega arith) in
          rw is (omega (arith, rest))
    ] in
    cases (p == q) refl

-- one more position at the end
pub count-snoc : (test : List ModuleId → Bool) (ys : List (List ModuleId)) (x : List ModuleId) → count_front test (ys ++ x ∷ []) ≡ cond (count_front test ys == length ys) (cond (test x) (length ys + 1) (length ys)) (count_front test ys)
count-snoc test [] x = elim (test x) as (λ b. cond {A = ℕ} b (0 + 1) 0 ≡ cond b (0 + 1) 0) [ true ↦ refl | false ↦ refl ]
count-snoc test (y ∷ ys) x =
    let rest = count-snoc test ys x in
    grind (arith, nat_tests)

reverse-cons : {X : Type 0} (x : X) (xs : List X) → reverse (x ∷ xs) ≡ reverse xs ++ x ∷ []
reverse-cons x xs = reverse-append (x ∷ []) xs

pub count_reverse : (test : List ModuleId → Bool) (x : List ModuleId) (xs : List (List ModuleId)) → count_front test (reverse (x ∷ xs)) ≡ cond (count_front test (reverse xs) == length xs) (cond (test x) (length xs + 1) (length xs)) (count_front test (reverse xs))
count_reverse test x xs =
    ap (count_front test) (reverse-cons x xs)
    ∙ count-snoc test (reverse xs) x
    ∙ ap (λ n. cond (count_front test (reverse xs) == n) (cond (test x) (n + 1) n) (count_front test (reverse xs))) (length-reverse xs)

-- all pass from below
all_up : (test : List ModuleId → Bool) (passes : ℕ → Bool) (q p : ℕ) (xs : List (List ModuleId)) → ((i : ℕ) → q ≤ i → passes i ≡ true) → TestsAre test passes p xs → q ≤ p → count_front test (reverse xs) ≡ length xs
all_up test passes q p [] y h a = refl
all_up test passes q p (x ∷ xs) y h a =
    let rest : count_front test (reverse xs) ≡ length xs = all_up test passes q (p + 1) xs y h.1 (omega arith) in
    let is : test x ≡ true = h.0 ∙ y p a in
    count_reverse test x xs ∙ grind (arith, nat_tests)

-- the positions from q on pass, and those above don't
pub count_up : (test : List ModuleId → Bool) (passes : ℕ → Bool) (q p : ℕ) (xs : List (List ModuleId)) → ((i : ℕ) → q ≤ i → passes i ≡ true) → ((i : ℕ) → i < q → passes i ≡ false) → TestsAre test passes p xs → p ≤ q → q ≤ p + length xs → count_front test (reverse xs) + q ≡ p + length xs
count_up test passes q p [] y n h a b = omega arith
count_up test passes q p (x ∷ xs) y n h a b =
    let cases : (c : Bool) → (p == q) ≡ c → count_front test (reverse (x ∷ xs)) + q ≡ p + length (x ∷ xs) = elim [
      | true ↦ λ t.
          let same : p ≡ q = grind (arith, nat_tests) in
          omega (arith, all_up test passes q p (x ∷ xs) y h (omega arith), same)
      | false ↦ λ t.
          let less : p < q = grind (arith, nat_tests) in
          let fails : test x ≡ false = h.0 ∙ n p less in
          let rest : count_front test (reverse xs) + q ≡ p + 1 + length xs = count_up test passes q (p + 1) xs y n h.1 (omega arith) (omega arith) in
          let whole : count_front test (reverse (x ∷ xs)) ≡ count_front test (reverse xs) = count_reverse test x xs ∙ grind (arith, nat_tests) in
          omega (arith, whole, rest)
    ] in
    cases (p == q) refl

-- the positions below the bindings
abbrev pub low : List ℕ → List (List ModuleId)
low order = map (λ f. one (Filter f)) order ++ one Miniport ∷ []

pub length-low : (fs : List ℕ) → length (low fs) ≡ length fs + 1
length-low [] = refl
length-low (f ∷ fs) = omega (arith, length-low fs)

and_true : (b : Bool) → (b && true) ≡ b
and_true true = refl
and_true false = refl

tests_low : (test : ModuleState → Bool) (net : Net) (states : ℕ → ModuleState) (p : ℕ) (fs : List ℕ) → FiltersAre states net.modules.filters p fs → net.modules.miniport ≡ states (p + length fs) → TestsAre (all_are test net) (λ i. test (states i)) p (low fs)
tests_low test net states p [] h m =
    let at : p + 0 ≡ p = omega arith in
    (and_true (test net.modules.miniport) ∙ ap test m ∙ ap (λ i. test (states i)) at, tt)
tests_low test net states p (f ∷ fs) h m =
    let at : p + length (f ∷ fs) ≡ p + 1 + length fs = omega arith in
    (and_true _ ∙ ap test h.0, tests_low test net states (p + 1) fs h.1 (m ∙ ap states at))

all_replicate : (test : ModuleState → Bool) (s : ModuleState) (n : ℕ) → 0 < n → list_all test (replicate n s) ≡ test s
all_replicate test s zero h = absurd (omega arith)
all_replicate test s (suc zero) h = and_true (test s)
all_replicate test s (suc (suc n)) h = rw (all_replicate test s (suc n) (omega arith)) (same (test s))
  where
    same : (b : Bool) → (b && b) ≡ b
    same true = refl
    same false = refl

tests_bindings : (test : ModuleState → Bool) (net : Net) (many : ℕ) (states : ℕ → ModuleState) → 0 < many → StatesAre many net.modules states → all_are test net (binding_ids 0 net.modules.bindings) ≡ test (states 0)
tests_bindings test net many states some h =
    all_are-bindings test net ∙ ap (list_all test) h.bindings ∙ all_replicate test (states 0) many some

pub length-floors : (ms : Modules) → length (floors ms) ≡ length ms.order + 2
length-floors ms = omega (arith, length-low ms.order)

-- the first position that isn't Paused
paused_at : (q r i : ℕ) → is_paused (state_at q r i) ≡ nat_lt i q
paused_at q r i = by (nat_lt i q) (nat_lt i r)
  where
    by : (a b : Bool) → is_paused (cond a state.Paused (cond b state.Pausing state.Running)) ≡ a
    by true b = refl
    by false true = refl
    by false false = refl

running_at : (q i : ℕ) → is_running (state_at q q i) ≡ not (nat_lt i q)
running_at q i = by (nat_lt i q)
  where
    by : (a : Bool) → is_running (cond a state.Paused (cond a state.Pausing state.Running)) ≡ not a
    by true = refl
    by false = refl

pub first_unpaused_is : (net : Net) (many q r : ℕ) → 0 < many → q ≤ length net.modules.order + 1 → StatesAre many net.modules (state_at q r) → first_unpaused net ≡ q
first_unpaused_is net many q r some within h =
    let states : ℕ → ModuleState = state_at q r in
    let passes : ℕ → Bool = λ i. is_paused (states i) in
    let at : length net.modules.order + 1 ≡ 1 + length net.modules.order = omega arith in
    let tests : TestsAre (all_are is_paused net) passes 0 (floors net.modules) =
    (tests_bindings is_paused net many states some h, tests_low is_paused net states 1 net.modules.order h.filters (h.miniport ∙ ap states at)) in
    let yes_below : (i : ℕ) → i < q → passes i ≡ true = λ i a. paused_at q r i ∙ grind (arith, nat_tests) in
    let not_here : passes q ≡ false = paused_at q r q ∙ grind (arith, nat_tests) in
    let count : first_unpaused net + 0 ≡ q = count_down (all_are is_paused net) passes q 0 (floors net.modules) yes_below not_here tests (omega arith) (omega (arith, length-floors net.modules)) in
    omega (arith, count)

-- the positions that run, from below; without bindings the top passes with the rest
pub running_floors_are : (net : Net) (many q : ℕ) → 0 < q → q ≤ length net.modules.order + 2 → StatesAre many net.modules (state_at q q) → (0 < many → running_floors net + q ≡ length net.modules.order + 2) × ((q ≡ 1 → ⊥) → running_floors net + q ≡ length net.modules.order + 2) × (many ≡ 0 → q ≡ 1 → running_floors net ≡ length net.modules.order + 2)
running_floors_are net many q some within h =
    let states : ℕ → ModuleState = state_at q q in
    let passes : ℕ → Bool = λ i. is_running (states i) in
    let at : length net.modules.order + 1 ≡ 1 + length net.modules.order = omega arith in
    let test : List ModuleId → Bool = all_are is_running net in
    let yes_from : (i : ℕ) → q ≤ i → passes i ≡ true = λ i a. running_at q i ∙ grind (arith, nat_tests) in
    let not_above : (i : ℕ) → i < q → passes i ≡ false = λ i a. running_at q i ∙ grind (arith, nat_tests) in
    let size : length (low net.modules.order) ≡ length net.modules.order + 1 = length-low net.modules.order in
    let rest : count_front test (reverse (low net.modules.order)) + q ≡ 1 + length (low net.modules.order) =
    count_up test passes q 1 (low net.modules.order) yes_from not_above (tests_low is_running net states 1 net.modules.order h.filters (h.miniport ∙ ap states at)) (omega arith) (omega (arith, size)) in
    let top : List ModuleId = binding_ids 0 net.modules.bindings in
    let whole : running_floors net ≡ cond (count_front test (reverse (low net.modules.order)) == length (low net.modules.order)) (cond (test top) (length (low net.modules.order) + 1) (length (low net.modules.order))) (count_front test (reverse (low net.modules.order))) =
    count_reverse test top (low net.modules.order) in (
      λ m.
          let fails : test top ≡ false = tests_bindings is_running net many states m h ∙ not_above 0 some in
          found _ _ q (length net.modules.order) (test top) (running_floors net) whole rest size (λ e. absurd (cc (e, fails))),
      λ o. found _ _ q (length net.modules.order) (test top) (running_floors net) whole rest size (λ e. o),
      λ m e.
          let none : net.modules.bindings ≡ [] = h.bindings ∙ ap (λ n. replicate n (states 0)) m in
          let passes_top : test top ≡ true = ap (λ ss. test (binding_ids 0 ss)) none in
          past _ _ q (length net.modules.order) (test top) (running_floors net) whole rest size passes_top e,
    )
  where
    found : (c n q k : ℕ) (t : Bool) (w : ℕ) → w ≡ cond (c == n) (cond t (n + 1) n) c → c + q ≡ 1 + n → n ≡ k + 1 → (t ≡ true → q ≡ 1 → ⊥) → w + q ≡ k + 2
    found c n q k true w e r s o =
        let other : q ≡ 1 → ⊥ = o refl in
        let apart : (c == n) ≡ false = grind (arith, nat_tests) in
        let is : w ≡ c = e ∙ rw apart refl in
        omega (arith, is, r, s)
    found c n q k false w e r s o = grind (arith, nat_tests)

    past : (c n q k : ℕ) (t : Bool) (w : ℕ) → w ≡ cond (c == n) (cond t (n + 1) n) c → c + q ≡ 1 + n → n ≡ k + 1 → t ≡ true → q ≡ 1 → w ≡ k + 2
    past c n q k t w e r s p o = grind (arith, nat_tests)

-- which modules are at a position below the bindings
pub low_filter : (fs : List ℕ) (j : ℕ) → j < length fs → get_or (low fs) j [] ≡ one (Filter (get_or fs j 0))
low_filter [] j h = absurd (omega arith)
low_filter (f ∷ fs) zero h = refl
low_filter (f ∷ fs) (suc j) h = low_filter fs j (omega arith)

pub low_miniport : (fs : List ℕ) → get_or (low fs) (length fs) [] ≡ one Miniport
low_miniport [] = refl
low_miniport (f ∷ fs) = low_miniport fs

-- a state that a filter may take
pub record IsPlain (s : ModuleState) : Type 0 where
  pub stays : is_detached s ≡ false
  pub old : (f n : ℕ) → filter_after (Filter f) s n ≡ n

pub put_low : (net : Net) (s : ModuleState) (j : ℕ) → j ≤ length net.modules.order → IsDistinct net.modules.order → IsPlain s → IsPut net (after_rows net (state_rows (s ∷ []) (get_or (low net.modules.order) j []))) (j + 1) s
put_low net s j l d p =
    let cases : (b : Bool) → nat_lt j (length net.modules.order) ≡ b → IsPut net (after_rows net (state_rows (s ∷ []) (get_or (low net.modules.order) j []))) (j + 1) s = elim [
      | true ↦ λ t.
          let less : j < length net.modules.order = grind (arith, nat_tests) in
          subst (λ ms. IsPut net (after_rows net (state_rows (s ∷ []) ms)) (j + 1) s) (sym (low_filter net.modules.order j less)) (put_filter net s j less d p.stays p.old)
      | false ↦ λ t.
          let same : j ≡ length net.modules.order = grind (arith, nat_tests) in
          subst (λ i. IsPut net (after_rows net (state_rows (s ∷ []) (get_or (low net.modules.order) i []))) (i + 1) s) (sym same)
          (subst (λ ms. IsPut net (after_rows net (state_rows (s ∷ []) ms)) (length net.modules.order + 1) s) (sym (low_miniport net.modules.order)) (put_miniport net s))
    ] in
    cases (nat_lt j (length net.modules.order)) refl

-- a position takes a state
pub put_floor : (net : Net) (s : ModuleState) (i : ℕ) → i ≤ length net.modules.order + 1 → IsDistinct net.modules.order → IsPlain s → IsPut net (after_rows net (state_rows (s ∷ []) (get_or (floors net.modules) i []))) i s
put_floor net s zero l d p = put_bindings net s
put_floor net s (suc j) l d p =
    let at : j + 1 ≡ suc j = omega arith in
    subst (λ i. IsPut net (after_rows net (state_rows (s ∷ []) (get_or (low net.modules.order) j []))) i s) at (put_low net s j (omega arith) d p)
