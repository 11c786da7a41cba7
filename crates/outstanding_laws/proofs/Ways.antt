-- The position of a list on its way follows from its way and its target.
use Rattle.std.proofs.Common.{◌≡◌, ℕ, zero, suc, ◌+◌, ◌-◌, ◌<◌, ◌≤◌, ◌==◌, ◌||◌, nat_lt, Bool, true, false, cond, List, [], ◌∷◌, ◌++◌, Some, length, take, drop, reverse, refl, arith, ap, sym, subst, ◌∙◌}
use Rattle.std.proofs.lemmas.Bool.Decides.{nat_tests}
use Rattle.std.proofs.lemmas.List.{reverse-append}
use Rattle.ndis_base.specs.declared.ModuleId.{ModuleId}
use Rattle.ndis_base.specs.declared.ModuleId.TheVariants.{Miniport, Filter, Binding}
use Rattle.journal_types.specs.declared.PassWay.TheVariants as way
use Rattle.journal_types.specs.declared.Target.{Target}
use Rattle.journal_types.specs.declared.Target.TheVariants.{Module, Bindings}
use Rattle.stack_rules.specs.declared.LiveList.{LiveList}
use Rattle.stack_rules.specs.declared.Stand.{Stand}
use Rattle.stack_rules.specs.declared.Stand.TheVariants as stand
use Rattle.stack_rules.specs.Tests.{is_down}
use Rattle.stack_rules.specs.Net.{Net, Modules, seen}
use Rattle.stack_rules.specs.Places.{position, above, position_of_target, position_in, is_passed}
use Rattle.stack_rules.specs.Targets.{has_send, has_receive, first_filter, next_up, next_done}
use Rattle.stack_rules.specs.Rewires.{is_in}
use Rattle.state_laws.specs.Shape.{IsDistinct}
use Rattle.state_laws.proofs.Tops.{position_most}
use Rattle.pause_laws.proofs.Places.{found_or, up_nearest, done_low}
use Rattle.pause_laws.proofs.Turns.{held_journal}
use Rattle.place_laws.proofs.Spots.{in_drop, in_reverse, drop_low, take_high}
use Rattle.outstanding_laws.specs.Outstanding.{passes_sends, passes_receives, nearest_below, way_position, IsAtItsWay, EachIsAtItsWay}
use Rattle.outstanding_laws.proofs.Rows.{Fits}
use Rattle.outstanding_laws.proofs.Routes.{and_first, and_second, passer_low}
use Rattle.outstanding_laws.proofs.Turns.{distinct_of, each_right}

-- the filters of a list are counted one by one in the order, from a number on
abbrev Counts : List ℕ → ℕ → List ℕ → Type 0
Counts order n [] = Unit {0}
Counts order n (f ∷ fs) = (above f order ≡ n) × Counts order (n + 1) fs

shifted : (g : ℕ) (order : List ℕ) (n : ℕ) (fs : List ℕ) → is_in g fs ≡ false → Counts order n fs → Counts (g ∷ order) (n + 1) fs
shifted g order n [] a h = tt
shifted g order n (f ∷ fs) a h =
    let other : (g == f) ≡ false = grind (arith, nat_tests) in
    let rest : is_in g fs ≡ false = grind (arith, nat_tests) in
    let here : above f order ≡ n = h.0 in
    (rw other (omega (arith, here)), shifted g order (n + 1) fs rest h.1)

counts : (order : List ℕ) → IsDistinct order → Counts order 0 order
counts [] d = tt
counts (g ∷ order) d = (grind (arith, nat_tests), shifted g order 0 order d.0 (counts order d.1))

drop_counts : (order : List ℕ) (i n : ℕ) (fs : List ℕ) → Counts order n fs → Counts order (n + i) (drop i fs)
drop_counts order zero n fs h = let at : n ≡ n + 0 = omega arith in subst (λ k. Counts order k fs) at h
drop_counts order (suc i) n [] h = tt
drop_counts order (suc i) n (f ∷ fs) h = let at : n + 1 + i ≡ n + suc i = omega arith in subst (λ k. Counts order k (drop i fs)) at (drop_counts order i (n + 1) fs h.1)

take_counts : (order : List ℕ) (i n : ℕ) (fs : List ℕ) → Counts order n fs → Counts order n (take i fs)
take_counts order zero n fs h = tt
take_counts order (suc i) n [] h = tt
take_counts order (suc i) n (f ∷ fs) h = (h.0, take_counts order i (n + 1) fs h.1)

-- a filter of the list is not above its first one
counts_low : (order : List ℕ) (n f : ℕ) (fs : List ℕ) → Counts order n fs → is_in f fs ≡ true → n ≤ above f order
counts_low order n f [] h i = cc
counts_low order n f (g ∷ fs) h i =
    let cases : (b : Bool) → (g == f) ≡ b → (b || is_in f fs) ≡ true → n ≤ above f order = elim [
      | true ↦ λ t i. let same : g ≡ f = grind (arith, nat_tests) in let here : above f order ≡ n = ap (λ x. above x order) (sym same) ∙ h.0 in omega (arith, here)
      | false ↦ λ t i. omega (arith, counts_low order (n + 1) f fs h.1 i)
    ] in
    cases (g == f) refl i

-- what is counted early enough is among the first, and what is counted late enough is past them
among_first : (order : List ℕ) (n i f : ℕ) (fs : List ℕ) → Counts order n fs → is_in f fs ≡ true → above f order < n + i → is_in f (take i fs) ≡ true
among_first order n zero f fs h i a = absurd (omega (arith, counts_low order n f fs h i))
among_first order n (suc i) f [] h a b = cc
among_first order n (suc i) f (g ∷ fs) h a b =
    let cases : (c : Bool) → (g == f) ≡ c → (c || is_in f fs) ≡ true → (c || is_in f (take i fs)) ≡ true = elim [
      | true ↦ λ t x. refl
      | false ↦ λ t x. among_first order (n + 1) i f fs h.1 x (omega (arith, b))
    ] in
    cases (g == f) refl a

past_first : (order : List ℕ) (n i f : ℕ) (fs : List ℕ) → Counts order n fs → is_in f fs ≡ true → n + i ≤ above f order → is_in f (drop i fs) ≡ true
past_first order n zero f fs h a b = a
past_first order n (suc i) f [] h a b = cc
past_first order n (suc i) f (g ∷ fs) h a b =
    let cases : (c : Bool) → (g == f) ≡ c → (c || is_in f fs) ≡ true → is_in f (drop i fs) ≡ true = elim [
      | true ↦ λ t x. let same : g ≡ f = grind (arith, nat_tests) in let here : above f order ≡ n = ap (λ y. above y order) (sym same) ∙ h.0 in absurd (omega (arith, here, b))
      | false ↦ λ t x. past_first order (n + 1) i f fs h.1 x (omega (arith, b))
    ] in
    cases (g == f) refl a

not_both : (b : Bool) → b ≡ true → b ≡ false → ⊥
not_both b h k = cc

-- no filter that has the pair is above the first one
first_low : (order : List ℕ) (has : ℕ → Bool) (n : ℕ) (fs : List ℕ) (other : Target) (f : ℕ) → Counts order n fs → has f ≡ true → is_in f fs ≡ true → position_of_target order (first_filter has fs other) ≤ above f order + 1
first_low order has n [] other f h a i = cc
first_low order has n (g ∷ fs) other f h a i =
    let low : n ≤ above f order = counts_low order n f (g ∷ fs) h i in
    let here : above g order ≡ n = h.0 in
    let cases : (b : Bool) → has g ≡ b → position_of_target order (cond b (Module (Filter g)) (first_filter has fs other)) ≤ above f order + 1 = elim [
      | true ↦ λ t. omega (arith, low, here)
      | false ↦ λ t. first_low order has (n + 1) fs other f h.1 a (later (g == f) refl t i)
    ] in
    cases (has g) refl
  where
    later : (b : Bool) → (g == f) ≡ b → has g ≡ false → (b || is_in f fs) ≡ true → is_in f fs ≡ true
    later true e t i = let same : g ≡ f = grind (arith, nat_tests) in absurd (not_both (has g) (ap has same ∙ a) t)
    later false e t i = i

-- the last filter of some that has the pair
reverse-cons : (x : ℕ) (xs : List ℕ) → reverse (x ∷ xs) ≡ reverse xs ++ x ∷ []
reverse-cons x xs = reverse-append (x ∷ []) xs

snoc_first : (has : ℕ → Bool) (x : ℕ) (fs : List ℕ) (other : Target) → first_filter has (fs ++ x ∷ []) other ≡ first_filter has fs (cond (has x) (Module (Filter x)) other)
snoc_first has x [] other = refl
snoc_first has x (g ∷ fs) other = ap (cond (has g) (Module (Filter g))) (snoc_first has x fs other)

last_first : (has : ℕ → Bool) (x : ℕ) (fs : List ℕ) (other : Target) → first_filter has (reverse (x ∷ fs)) other ≡ first_filter has (reverse fs) (cond (has x) (Module (Filter x)) other)
last_first has x fs other = ap (λ gs. first_filter has gs other) (reverse-cons x fs) ∙ snoc_first has x (reverse fs) other

last_low : (order : List ℕ) (has : ℕ → Bool) (n : ℕ) (fs : List ℕ) (other : Target) → Counts order n fs → position_of_target order other ≤ n → position_of_target order other ≤ position_of_target order (first_filter has (reverse fs) other)
last_low order has n fs other h a =
    found_or (λ t. position_of_target order other ≤ position_of_target order t) has (reverse fs) other
    (λ f b x. omega (arith, counts_low order n f fs h (sym (in_reverse f fs) ∙ x), a))
    (omega arith)

last_most : (order : List ℕ) (has : ℕ → Bool) (n : ℕ) (fs : List ℕ) (other : Target) (f : ℕ) → Counts order n fs → has f ≡ true → is_in f fs ≡ true → above f order + 1 ≤ position_of_target order (first_filter has (reverse fs) other)
last_most order has n [] other f h a i = cc
last_most order has n (g ∷ fs) other f h a i =
    let cases : (b : Bool) → (g == f) ≡ b → (b || is_in f fs) ≡ true → above f order + 1 ≤ position_of_target order (first_filter has (reverse fs) (cond (has g) (Module (Filter g)) other)) = elim [
      | true ↦ λ t i.
          let same : g ≡ f = grind (arith, nat_tests) in
          let here : above g order ≡ n = h.0 in
          let is : has g ≡ true = ap has same ∙ a in
          let low : position_of_target order (Module (Filter g)) ≤ position_of_target order (first_filter has (reverse fs) (Module (Filter g))) = last_low order has (n + 1) fs (Module (Filter g)) h.1 (omega (arith, here)) in
          let at : above f order ≡ above g order = ap (λ x. above x order) (sym same) in
          rw is (omega (arith, low, at))
      | false ↦ λ t i. last_most order has (n + 1) fs _ f h.1 a i
    ] in
    let rest = cases (g == f) refl i in
    subst (λ t. above f order + 1 ≤ position_of_target order t) (sym (last_first has g fs other)) rest

-- a module that has the pair: the miniport, or a filter of the order
abbrev HasPair : List ℕ → (ℕ → Bool) → ModuleId → Type 0
HasPair order has Miniport = Unit {0}
HasPair order has (Filter f) = (is_in f order ≡ true) × (has f ≡ true)
HasPair order has (Binding b) = ⊥

sends_pair : (ms : Modules) (m : ModuleId) → passes_sends ms m ≡ true → HasPair ms.order (has_send ms) m
sends_pair ms Miniport h = tt
sends_pair ms (Filter f) h = (and_first (is_in f ms.order) (has_send ms f) h, and_second (is_in f ms.order) (has_send ms f) h)
sends_pair ms (Binding b) h = absurd (cc)

receives_pair : (ms : Modules) (m : ModuleId) → passes_receives ms m ≡ true → HasPair ms.order (has_receive ms) m
receives_pair ms Miniport h = tt
receives_pair ms (Filter f) h = (and_first (is_in f ms.order) (has_receive ms f) h, and_second (is_in f ms.order) (has_receive ms f) h)
receives_pair ms (Binding b) h = absurd (cc)

module _ (ms : Modules) (d : IsDistinct ms.order) (has : ℕ → Bool) where
  -- no filter with the pair stands between two positions
  abbrev IsClose : ℕ → ℕ → Type 0
  IsClose from to = (f : ℕ) → has f ≡ true → is_in f ms.order ≡ true → position ms.order (Filter f) < from → position ms.order (Filter f) ≤ to

  all : Counts ms.order 0 ms.order
  all = counts ms.order d

  high_enough : (m : ModuleId) (i : ℕ) → HasPair ms.order has m → i < position ms.order m → nearest_below ms has i ≤ position ms.order m
  high_enough Miniport i h a =
      found_or (λ t. position_of_target ms.order t ≤ length ms.order + 1) has (drop i ms.order) (Module Miniport) (λ f b x. position_most ms.order (Filter f)) (omega arith)
  high_enough (Filter f) i h a =
      first_low ms.order has (0 + i) (drop i ms.order) (Module Miniport) f (drop_counts ms.order i 0 ms.order all) h.1 (past_first ms.order 0 i f ms.order all h.0 (omega (arith, a)))
  high_enough (Binding b) i h a = absurd h

  low_enough : (m : ModuleId) (i : ℕ) → IsClose (position ms.order m) i → position ms.order m ≤ nearest_below ms has i
  low_enough m i near =
      found_or (λ t. position ms.order m ≤ position_of_target ms.order t) has (drop i ms.order) (Module Miniport)
      (λ f b x.
      let below : i ≤ above f ms.order = drop_low f i ms.order d x in
      let cases : (c : Bool) → nat_lt (position ms.order (Filter f)) (position ms.order m) ≡ c → position ms.order m ≤ position ms.order (Filter f) = elim [
        | true ↦ λ t. let less : position ms.order (Filter f) < position ms.order m = grind (arith, nat_tests) in absurd (omega (arith, near f b (in_drop f i ms.order x) less, below))
        | false ↦ λ t. grind (arith, nat_tests)
      ] in
      cases (nat_lt (position ms.order (Filter f)) (position ms.order m)) refl)
      (position_most ms.order m)

  nearest_is : (m : ModuleId) (i : ℕ) → HasPair ms.order has m → i < position ms.order m → IsClose (position ms.order m) i → position ms.order m ≡ nearest_below ms has i
  nearest_is m i h a near = omega (arith, high_enough m i h a, low_enough m i near)

module _ (ms : Modules) (d : IsDistinct ms.order) where
  -- a done send goes to the nearest filter with the pair above, where one is below its owner
  done_close : (i : ℕ) (owner : ModuleId) → IsClose ms d (has_send ms) i (position_of_target ms.order (next_done ms i owner))
  done_close i owner f h x a =
      let top : ℕ = position ms.order owner in
      let fs : List ℕ = drop top (take (i - 1) ms.order) in
      let front : Counts ms.order 0 (take (i - 1) ms.order) = take_counts ms.order (i - 1) 0 ms.order (counts ms.order d) in
      let inside : is_in f (take (i - 1) ms.order) ≡ true = among_first ms.order 0 (i - 1) f ms.order (counts ms.order d) x (omega (arith, a)) in
      let low : top ≤ position_of_target ms.order (next_done ms i owner) = done_low ms i owner d in
      let cases : (c : Bool) → nat_lt (above f ms.order) top ≡ c → position ms.order (Filter f) ≤ position_of_target ms.order (next_done ms i owner) = elim [
        | true ↦ λ t. let less : above f ms.order < top = grind (arith, nat_tests) in omega (arith, less, low)
        | false ↦ λ t.
            let more : top ≤ above f ms.order = grind (arith, nat_tests) in
            last_most ms.order (has_send ms) (0 + top) fs (Module owner) f (drop_counts ms.order top 0 (take (i - 1) ms.order) front) h (past_first ms.order 0 top f (take (i - 1) ms.order) front inside (omega (arith, more)))
      ] in
      cases (nat_lt (above f ms.order) top) refl

  done_above : (i : ℕ) (owner : ModuleId) → position ms.order owner < i → position_of_target ms.order (next_done ms i owner) < i
  done_above i owner a =
      let fs : List ℕ = drop (position ms.order owner) (take (i - 1) ms.order) in
      found_or (λ t. position_of_target ms.order t < i) (has_send ms) (reverse fs) (Module owner)
      (λ f h x. omega (arith, take_high f (i - 1) ms.order (in_drop f (position ms.order owner) (take (i - 1) ms.order) (sym (in_reverse f fs) ∙ x)))) a

  up_above : (i : ℕ) → 1 ≤ i → position_of_target ms.order (next_up ms i) < i
  up_above i a =
      found_or (λ t. position_of_target ms.order t < i) (has_receive ms) (reverse (take (i - 1) ms.order)) Bindings
      (λ f h x. omega (arith, take_high f (i - 1) ms.order (sym (in_reverse f (take (i - 1) ms.order)) ∙ x))) (omega (arith, a))

  pub told_at : (l : LiveList) (s : Stand) → Fits ms (is_down l.direction) l.owner l.last s → is_passed s ≡ true → position_in ms.order l.last s ≡ way_position ms s
  told_at l stand.Unplaced h p = absurd (cc)
  told_at l (stand.Kept m) h p = absurd (cc)
  told_at l (stand.Passed way.Down to) h p = refl
  told_at l (stand.Passed (way.Back status) to) h p = refl
  told_at l (stand.Passed way.Up to) h p =
      let i : ℕ = position ms.order l.last in
      subst (λ t. Some i ≡ Some (nearest_below ms (has_receive ms) (position_of_target ms.order t))) (sym h.1.1.0)
      (ap (λ n. Some n) (nearest_is ms d (has_receive ms) l.last (position_of_target ms.order (next_up ms i)) (receives_pair ms l.last h.1.0) (up_above i (passer_low ms l.last h.1.0)) (up_nearest ms i d)))
  told_at l (stand.Passed (way.Done status) to) h p =
      let i : ℕ = position ms.order l.last in
      subst (λ t. Some i ≡ Some (nearest_below ms (has_send ms) (position_of_target ms.order t))) (sym h.1.1.0)
      (ap (λ n. Some n) (nearest_is ms d (has_send ms) l.last (position_of_target ms.order (next_done ms i l.owner)) (sends_pair ms l.last h.1.0) (done_above i l.owner h.1.1.1) (done_close i l.owner)))

pub each_is_told : EachIsAtItsWay
each_is_told head turns s bound =
    let net : Net = seen head turns in
    each_right head turns (IsAtItsWay net.modules) s bound (λ l h p. told_at net.modules (distinct_of net (held_journal head turns s).shape) l l.stand h.0 p)
