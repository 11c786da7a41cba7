-- Inserting, removing and replacing a filter, in a stack whose modules are all Paused.
use Rattle.std.proofs.Common.{◌≡◌, ℕ, zero, suc, ◌+◌, ◌-◌, ◌<◌, ◌==◌, ◌||◌, ◌&&◌, not, Bool, true, false, cond, List, [], ◌∷◌, ◌++◌, Option, Some, None, option_map, inr, length, filter, refl, arith, ap, sym, subst, map, ◌∙◌}
use Rattle.std.specs.List.{insert}
use Rattle.std.proofs.lemmas.Bool.Decides.{nat_tests}
use Rattle.ndis_base.specs.declared.FilterKind.{FilterKind}
use Rattle.ndis_base.specs.declared.ModuleState.TheVariants as state
use Rattle.ndis_base.specs.declared.Phase.TheVariants as phase
use Rattle.journal_types.specs.declared.Setup.{Setup}
use Rattle.stack_rules.specs.declared.Attached.{Attached}
use Rattle.stack_rules.specs.Net.{Net, after_rows, attached, with_state, with_filter}
use Rattle.stack_rules.specs.Places.{state_in}
use Rattle.stack_rules.specs.Rewires.{is_in, swapped, inserted, removed, replaced}
use Rattle.state_laws.specs.Shape.{FiltersAre, StatesAre, IsDistinct, AllBelow, AllIn, IsWired, IsShaped}
use Rattle.state_laws.proofs.Takes.{attached-with_state, attached-is, AllIn-with_state}
use Rattle.state_laws.proofs.Halts.{less}
use Rattle.state_laws.proofs.Changes.{IsChanged, fitted}

-- the filters of an order are Paused
abbrev ArePaused : List Attached → ℕ → List ℕ → Type 0
ArePaused entries p fs = FiltersAre (λ i. state.Paused) entries p fs

abbrev IsPausedIn : List Attached → ℕ → Type 0
IsPausedIn entries f = state_in (attached f entries) ≡ state.Paused

-- orders
fresh : (n : ℕ) (fs : List ℕ) → AllBelow n fs → is_in n fs ≡ false
fresh n [] h = refl
fresh n (f ∷ fs) h =
    let less : f < n = h.0 in
    let rest : is_in n fs ≡ false = fresh n fs h.1 in
    grind (arith, nat_tests)

below : (g n : ℕ) (fs : List ℕ) → AllBelow n fs → is_in g fs ≡ true → g < n
below g n [] h i = cc
below g n (f ∷ fs) h i =
    let cases : (b : Bool) → (f == g) ≡ b → (b || is_in g fs) ≡ true → g < n = elim [
      | true ↦ λ t i. let same : f ≡ g = grind (arith, nat_tests) in omega (arith, h.0, same)
      | false ↦ λ t i. below g n fs h.1 i
    ] in
    cases (f == g) refl i

is_in-insert : (g f i : ℕ) (fs : List ℕ) → is_in g (insert fs i f) ≡ ((f == g) || is_in g fs)
is_in-insert g f zero fs = refl
is_in-insert g f (suc i) [] = refl
is_in-insert g f (suc i) (h ∷ fs) = rw (is_in-insert g f i fs) (swap (h == g) (f == g) (is_in g fs))
  where
    swap : (a b c : Bool) → (a || (b || c)) ≡ (b || (a || c))
    swap true true c = refl
    swap true false c = refl
    swap false b c = refl

distinct-insert : (f i : ℕ) (fs : List ℕ) → is_in f fs ≡ false → IsDistinct fs → IsDistinct (insert fs i f)
distinct-insert f zero fs n h = (n, h)
distinct-insert f (suc i) [] n h = (refl, tt)
distinct-insert f (suc i) (g ∷ fs) n h =
    let here : is_in g (insert fs i f) ≡ false = is_in-insert g f i fs ∙ grind (arith, nat_tests) in
    (here, distinct-insert f i fs (grind (arith, nat_tests)) h.1)

below-more : (n : ℕ) (fs : List ℕ) → AllBelow n fs → AllBelow (n + 1) fs
below-more n [] h = tt
below-more n (f ∷ fs) h = (omega (arith, h.0), below-more n fs h.1)

below-insert : (n f i : ℕ) (fs : List ℕ) → f < n → AllBelow n fs → AllBelow n (insert fs i f)
below-insert n f zero fs l h = (l, h)
below-insert n f (suc i) [] l h = (l, tt)
below-insert n f (suc i) (g ∷ fs) l h = (h.0, below-insert n f i fs l h.1)

-- what is attached is in an order that has more
in_more : (order more : List ℕ) (entries : List Attached) → ((g : ℕ) → is_in g order ≡ true → is_in g more ≡ true) → AllIn order entries → AllIn more entries
in_more order more [] f h = tt
in_more order more (a ∷ entries) f h = (f a.filter h.0, in_more order more entries f h.1)

in_append : (order : List ℕ) (entries : List Attached) (a : Attached) → AllIn order entries → is_in a.filter order ≡ true → AllIn order (entries ++ a ∷ [])
in_append order [] a h i = (i, tt)
in_append order (x ∷ entries) a h i = (h.0, in_append order entries a h.1 i)

-- the filter that is new
attached_new : (f : ℕ) (order : List ℕ) (entries : List Attached) (a : Attached) → a.filter ≡ f → is_in f order ≡ false → AllIn order entries → attached f (entries ++ a ∷ []) ≡ Some a
attached_new f order [] a e n h = grind (arith, nat_tests)
attached_new f order (x ∷ entries) a e n h =
    let rest : attached f (entries ++ a ∷ []) ≡ Some a = attached_new f order entries a e n h.1 in
    let cases : (b : Bool) → (x.filter == f) ≡ b → cond b (Some x) (attached f (entries ++ a ∷ [])) ≡ Some a = elim [
      | true ↦ λ t. let same : x.filter ≡ f = grind (arith, nat_tests) in absurd (cc (h.0, ap (λ g. is_in g order) same, n))
      | false ↦ λ t. rest
    ] in
    cases (x.filter == f) refl

attached_old : (g : ℕ) (entries : List Attached) (a : Attached) → (a.filter == g) ≡ false → attached g (entries ++ a ∷ []) ≡ attached g entries
attached_old g [] a e = rw e refl
attached_old g (x ∷ entries) a e = rw (attached_old g entries a e) refl

attached_less : (g f : ℕ) (entries : List Attached) → (g == f) ≡ false → attached g (less f entries) ≡ attached g entries
attached_less g f [] e = refl
attached_less g f (x ∷ entries) e =
    let rest : attached g (less f entries) ≡ attached g entries = attached_less g f entries e in
    let cases : (b : Bool) → (x.filter == f) ≡ b → attached g (cond (not b) (x ∷ less f entries) (less f entries)) ≡ cond (x.filter == g) (Some x) (attached g entries) = elim [
      | true ↦ λ t. let other : (x.filter == g) ≡ false = apart x.filter f g t e in rest ∙ rw other refl
      | false ↦ λ t. rw rest refl
    ] in
    cases (x.filter == f) refl
  where
    apart : (x f g : ℕ) → (x == f) ≡ true → (g == f) ≡ false → (x == g) ≡ false
    apart x f g t e = grind (arith, nat_tests)

-- the new filter takes its two states
abbrev set_two : ℕ → List Attached → List Attached
set_two f entries = map (with_state f state.Paused) (map (with_state f state.Attaching) entries)

set_attached : (g f : ℕ) (entries : List Attached) → attached g (set_two f entries) ≡ option_map (with_state f state.Paused) (option_map (with_state f state.Attaching) (attached g entries))
set_attached g f entries =
    attached-with_state g f state.Paused (map (with_state f state.Attaching) entries)
    ∙ ap (option_map (with_state f state.Paused)) (attached-with_state g f state.Attaching entries)

new_paused : (f : ℕ) (entries : List Attached) (a : Attached) → a.filter ≡ f → attached f entries ≡ Some a → IsPausedIn (set_two f entries) f
new_paused f entries a e h =
    ap state_in (set_attached f f entries ∙ ap (λ o. option_map (with_state f state.Paused) (option_map (with_state f state.Attaching) o)) h)
    ∙ twice a (grind (arith, nat_tests))
  where
    twice : (a : Attached) → (a.filter == f) ≡ true → (with_state f state.Paused (with_state f state.Attaching a)).state ≡ state.Paused
    twice a t = rw (t, t) refl

old_paused : (g f : ℕ) (entries : List Attached) → (g == f) ≡ false → IsPausedIn entries g → IsPausedIn (set_two f entries) g
old_paused g f entries e h = ap state_in (set_attached g f entries) ∙ at (attached g entries) refl ∙ h
  where
    stays : (a : Attached) → (a.filter == f) ≡ false → (with_state f state.Paused (with_state f state.Attaching a)).state ≡ a.state
    stays a t = rw (t, t) refl

    at : (o : Option Attached) → attached g entries ≡ o → state_in (option_map (with_state f state.Paused) (option_map (with_state f state.Attaching) o)) ≡ state_in o
    at None is = refl
    at (Some a) is = let same : a.filter ≡ g = attached-is g entries a is in stays a (grind (arith, nat_tests))

-- where each filter of an order is Paused
paused_each : (entries : List Attached) (p : ℕ) (fs : List ℕ) → ((g : ℕ) → is_in g fs ≡ true → IsPausedIn entries g) → ArePaused entries p fs
paused_each entries p [] h = tt
paused_each entries p (f ∷ fs) h = (h f (grind (arith, nat_tests)), paused_each entries (p + 1) fs (λ g i. h g (more (f == g) (is_in g fs) i)))
  where
    more : (a b : Bool) → b ≡ true → (a || b) ≡ true
    more true b h = refl
    more false b h = h

each_paused : (entries : List Attached) (p : ℕ) (fs : List ℕ) (g : ℕ) → ArePaused entries p fs → is_in g fs ≡ true → IsPausedIn entries g
each_paused entries p [] g h i = cc
each_paused entries p (f ∷ fs) g h i =
    let cases : (b : Bool) → (f == g) ≡ b → (b || is_in g fs) ≡ true → IsPausedIn entries g = elim [
      | true ↦ λ t i. let same : f ≡ g = grind (arith, nat_tests) in subst (IsPausedIn entries) same h.0
      | false ↦ λ t i. each_paused entries (p + 1) fs g h.1 i
    ] in
    cases (f == g) refl i

-- where a filter was
either : (f g : ℕ) (b : Bool) (P : Type 0) → ((f == g) || b) ≡ true → (f ≡ g → P) → ((g == f) ≡ false → b ≡ true → P) → P
either f g b P h x y =
    let cases : (c : Bool) → (f == g) ≡ c → (c || b) ≡ true → P = elim [
      | true ↦ λ t h. x (grind (arith, nat_tests))
      | false ↦ λ t h. y (grind (arith, nat_tests)) h
    ] in
    cases (f == g) refl h

pub was_inserted : (net : Net) (s : IsShaped net) (kind : FilterKind) (position : ℕ) (setup : Setup) → net.phase ≡ phase.Paused → s.front ≡ length net.modules.order + 2 → IsWired net.next.filter net.modules → StatesAre (length net.head.bindings) net.modules (λ p. state.Paused) →
    IsChanged net (after_rows (with_filter net.next.filter kind setup net) (inserted net position).rows) s
was_inserted net s kind position setup e f w h =
    let n : ℕ = net.next.filter in
    let new : Attached = record { filter = n; kind = kind; setup = setup; state = state.Detached } in
    let order : List ℕ = insert net.modules.order (position - 1) n in
    let entries : List Attached = net.modules.filters ++ new ∷ [] in
    let free : is_in n net.modules.order ≡ false = fresh n net.modules.order w.below in
    let whole : AllIn order entries =
    in_append order net.modules.filters new (in_more net.modules.order order net.modules.filters (λ g i. is_in-insert g n (position - 1) net.modules.order ∙ more (n == g) (is_in g net.modules.order) i) w.within)
    (is_in-insert n n (position - 1) net.modules.order ∙ grind (arith, nat_tests)) in
    let paused : (g : ℕ) → is_in g order ≡ true → IsPausedIn (set_two n entries) g =
    λ g i. either n g (is_in g net.modules.order) (IsPausedIn (set_two n entries) g) (sym (is_in-insert g n (position - 1) net.modules.order) ∙ i)
    (λ same. subst (IsPausedIn (set_two n entries)) same (new_paused n entries new refl (attached_new n net.modules.order net.modules.filters new refl free w.within)))
    (λ other old. old_paused g n entries other (ap state_in (attached_old g net.modules.filters new (turned g n other)) ∙ each_paused net.modules.filters 1 net.modules.order g h.filters old)) in
    record {
      head = refl;
      list = refl;
      things = refl;
      shape = record {
        front = length order + 2;
        fits = fitted (length net.head.bindings) (n + 1) phase.Paused (length order + 2) (after_rows (with_filter net.next.filter kind setup net) (inserted net position).rows) refl refl e (
          record {
            distinct = distinct-insert n (position - 1) net.modules.order free w.distinct;
            below = below-insert (n + 1) n (position - 1) net.modules.order (omega arith) (below-more n net.modules.order w.below);
            within = AllIn-with_state order n state.Paused (map (with_state n state.Attaching) entries) (AllIn-with_state order n state.Attaching entries whole);
          },
          (record { bindings = h.bindings; filters = paused_each (set_two n entries) 1 order paused; miniport = h.miniport }, refl),
        );
      };
      kind = inr f;
    }
  where
    more : (a b : Bool) → b ≡ true → (a || b) ≡ true
    more true b h = refl
    more false b h = h

    turned : (g n : ℕ) → (g == n) ≡ false → (n == g) ≡ false
    turned g n h = grind (arith, nat_tests)

-- an order without a filter
abbrev but : ℕ → List ℕ → List ℕ
but f fs = filter (λ g. not (g == f)) fs

is_in-but : (g f : ℕ) (fs : List ℕ) → is_in g (but f fs) ≡ (not (g == f) && is_in g fs)
is_in-but g f [] = grind (arith, nat_tests)
is_in-but g f (x ∷ fs) = grind (arith, nat_tests, is_in-but g f fs)

distinct-but : (f : ℕ) (fs : List ℕ) → IsDistinct fs → IsDistinct (but f fs)
distinct-but f [] h = tt
distinct-but f (x ∷ fs) h =
    let absent : is_in x (but f fs) ≡ false = is_in-but x f fs ∙ off (not (x == f)) (is_in x fs) h.0 in
    elim (x == f) as (λ b. IsDistinct (cond (not b) (x ∷ but f fs) (but f fs))) [
      | true ↦ distinct-but f fs h.1
      | false ↦ (absent, distinct-but f fs h.1)
    ]
  where
    off : (a b : Bool) → b ≡ false → (a && b) ≡ false
    off true b h = h
    off false b h = refl

below-but : (n f : ℕ) (fs : List ℕ) → AllBelow n fs → AllBelow n (but f fs)
below-but n f [] h = tt
below-but n f (x ∷ fs) h =
    elim (x == f) as (λ b. AllBelow n (cond (not b) (x ∷ but f fs) (but f fs))) [
      | true ↦ below-but n f fs h.1
      | false ↦ (h.0, below-but n f fs h.1)
    ]

within_less : (f : ℕ) (order more : List ℕ) (entries : List Attached) → ((g : ℕ) → (g == f) ≡ false → is_in g order ≡ true → is_in g more ≡ true) → AllIn order entries → AllIn more (less f entries)
within_less f order more [] k h = tt
within_less f order more (a ∷ entries) k h =
    let rest : AllIn more (less f entries) = within_less f order more entries k h.1 in
    let cases : (b : Bool) → (a.filter == f) ≡ b → AllIn more (cond (not b) (a ∷ less f entries) (less f entries)) = elim [
      | true ↦ λ t. rest
      | false ↦ λ t. (k a.filter t h.0, rest)
    ] in
    cases (a.filter == f) refl

both_of : (a b : Bool) → (not a && b) ≡ true → (a ≡ false) × (b ≡ true)
both_of true b h = cc
both_of false b h = (refl, h)

pub was_removed : (net : Net) (s : IsShaped net) (f : ℕ) → net.phase ≡ phase.Paused → s.front ≡ length net.modules.order + 2 → IsWired net.next.filter net.modules → StatesAre (length net.head.bindings) net.modules (λ p. state.Paused) →
    IsChanged net (after_rows net (removed net f).rows) s
was_removed net s f e full w h =
    let order : List ℕ = but f net.modules.order in
    let entries : List Attached = less f net.modules.filters in
    let paused : (g : ℕ) → is_in g order ≡ true → IsPausedIn entries g =
    λ g i.
    let both = both_of (g == f) (is_in g net.modules.order) (sym (is_in-but g f net.modules.order) ∙ i) in
    ap state_in (attached_less g f net.modules.filters both.0) ∙ each_paused net.modules.filters 1 net.modules.order g h.filters both.1 in
    record {
      head = refl;
      list = refl;
      things = refl;
      shape = record {
        front = length order + 2;
        fits = fitted (length net.head.bindings) net.next.filter phase.Paused (length order + 2) (after_rows net (removed net f).rows) refl refl e (
          record {
            distinct = distinct-but f net.modules.order w.distinct;
            below = below-but net.next.filter f net.modules.order w.below;
            within = within_less f net.modules.order order net.modules.filters (λ g o i. is_in-but g f net.modules.order ∙ rw (o, i) refl) w.within;
          },
          (record { bindings = h.bindings; filters = paused_each entries 1 order paused; miniport = h.miniport }, refl),
        );
      };
      kind = inr full;
    }

-- an order with another filter in the place of one
abbrev swaps : ℕ → ℕ → List ℕ → List ℕ
swaps f n fs = map (swapped f n) fs

same_swap : (f n g x : ℕ) → g < n → x < n → (swapped f n x == swapped f n g) ≡ (x == g)
same_swap f n g x a b =
    let cases : (c d : Bool) → (x == f) ≡ c → (g == f) ≡ d → (cond c n x == cond d n g) ≡ (x == g) = elim [
      | true ↦ elim [ true ↦ λ t u. grind (arith, nat_tests) | false ↦ λ t u. grind (arith, nat_tests) ]
      | false ↦ elim [ true ↦ λ t u. grind (arith, nat_tests) | false ↦ λ t u. refl ]
    ] in
    cases (x == f) (g == f) refl refl

is_in-swaps : (f n g : ℕ) (fs : List ℕ) → g < n → AllBelow n fs → is_in (swapped f n g) (swaps f n fs) ≡ is_in g fs
is_in-swaps f n g [] a h = refl
is_in-swaps f n g (x ∷ fs) a h = rw (same_swap f n g x a h.0, is_in-swaps f n g fs a h.1) refl

distinct-swaps : (f n : ℕ) (fs : List ℕ) → AllBelow n fs → IsDistinct fs → IsDistinct (swaps f n fs)
distinct-swaps f n [] h d = tt
distinct-swaps f n (x ∷ fs) h d = (is_in-swaps f n x fs h.0 h.1 ∙ d.0, distinct-swaps f n fs h.1 d.1)

below-swaps : (f n : ℕ) (fs : List ℕ) → AllBelow n fs → AllBelow (n + 1) (swaps f n fs)
below-swaps f n [] h = tt
below-swaps f n (x ∷ fs) h =
    let less : x < n = h.0 in
    (elim (x == f) as (λ b. cond b n x < n + 1) [ true ↦ omega arith | false ↦ omega arith ], below-swaps f n fs h.1)

-- where a filter of the new order was
swapped_from : (f n g : ℕ) (fs : List ℕ) (P : Type 0) → is_in g (swaps f n fs) ≡ true → (g ≡ n → P) → ((g == f) ≡ false → is_in g fs ≡ true → P) → P
swapped_from f n g [] P i x y = cc
swapped_from f n g (h ∷ fs) P i x y =
    let cases : (b : Bool) → (h == f) ≡ b → ((cond b n h == g) || is_in g (swaps f n fs)) ≡ true → P = elim [
      | true ↦ λ t i. either n g (is_in g (swaps f n fs)) P i (λ e. x (sym e)) (λ _ r. swapped_from f n g fs P r x (λ o q. y o (more (h == g) (is_in g fs) q)))
      | false ↦ λ t i.
          either h g (is_in g (swaps f n fs)) P i (λ e. y (turned h g f e t) (grind (arith, nat_tests)))
          (λ _ r. swapped_from f n g fs P r x (λ o q. y o (more (h == g) (is_in g fs) q)))
    ] in
    cases (h == f) refl i
  where
    more : (a b : Bool) → b ≡ true → (a || b) ≡ true
    more true b h = refl
    more false b h = h

    turned : (h g f : ℕ) → h ≡ g → (h == f) ≡ false → (g == f) ≡ false
    turned h g f e t = grind (arith, nat_tests)

pub was_replaced : (net : Net) (s : IsShaped net) (f : ℕ) (kind : FilterKind) (setup : Setup) → is_in f net.modules.order ≡ true → net.phase ≡ phase.Paused → s.front ≡ length net.modules.order + 2 → IsWired net.next.filter net.modules → StatesAre (length net.head.bindings) net.modules (λ p. state.Paused) →
    IsChanged net (after_rows (with_filter net.next.filter kind setup net) (replaced net f).rows) s
was_replaced net s f kind setup there e full w h =
    let n : ℕ = net.next.filter in
    let new : Attached = record { filter = n; kind = kind; setup = setup; state = state.Detached } in
    let order : List ℕ = swaps f n net.modules.order in
    let entries : List Attached = less f (net.modules.filters ++ new ∷ []) in
    let free : is_in n net.modules.order ≡ false = fresh n net.modules.order w.below in
    let less_than : f < n = below f n net.modules.order w.below there in
    let kept : (n == f) ≡ false = grind (arith, nat_tests) in
    let old_in : (g : ℕ) → (g == f) ≡ false → is_in g net.modules.order ≡ true → is_in g order ≡ true =
    λ g o i. ap (λ x. is_in x order) (sym (stays f n g o)) ∙ is_in-swaps f n g net.modules.order (below g n net.modules.order w.below i) w.below ∙ i in
    let new_in : is_in n order ≡ true = ap (λ x. is_in x order) (sym (goes f n)) ∙ is_in-swaps f n f net.modules.order less_than w.below ∙ there in
    let whole : AllIn order entries = less_append f order net.modules.filters new kept (within_less f net.modules.order order net.modules.filters old_in w.within) new_in in
    let found_new : attached n entries ≡ Some new = attached_less n f (net.modules.filters ++ new ∷ []) kept ∙ attached_new n net.modules.order net.modules.filters new refl free w.within in
    let paused : (g : ℕ) → is_in g order ≡ true → IsPausedIn (set_two n entries) g =
    λ g i. swapped_from f n g net.modules.order (IsPausedIn (set_two n entries) g) i
    (λ same. subst (IsPausedIn (set_two n entries)) (sym same) (new_paused n entries new refl found_new))
    (λ other old.
    let small : g < n = below g n net.modules.order w.below old in
    let apart : (g == n) ≡ false = grind (arith, nat_tests) in
    let apart_too : (n == g) ≡ false = grind (arith, nat_tests) in
    old_paused g n entries apart (ap state_in (attached_less g f (net.modules.filters ++ new ∷ []) other ∙ attached_old g net.modules.filters new apart_too) ∙ each_paused net.modules.filters 1 net.modules.order g h.filters old)) in
    record {
      head = refl;
      list = refl;
      things = refl;
      shape = record {
        front = length order + 2;
        fits = fitted (length net.head.bindings) (n + 1) phase.Paused (length order + 2) (after_rows (with_filter net.next.filter kind setup net) (replaced net f).rows) refl refl e (
          record {
            distinct = distinct-swaps f n net.modules.order w.below w.distinct;
            below = below-swaps f n net.modules.order w.below;
            within = AllIn-with_state order n state.Paused (map (with_state n state.Attaching) entries) (AllIn-with_state order n state.Attaching entries whole);
          },
          (record { bindings = h.bindings; filters = paused_each (set_two n entries) 1 order paused; miniport = h.miniport }, refl),
        );
      };
      kind = inr full;
    }
  where
    stays : (f n g : ℕ) → (g == f) ≡ false → swapped f n g ≡ g
    stays f n g o = rw o refl

    goes : (f n : ℕ) → swapped f n f ≡ n
    goes f n = grind (arith, nat_tests)

    less_append : (f : ℕ) (order : List ℕ) (entries : List Attached) (a : Attached) → (a.filter == f) ≡ false → AllIn order (less f entries) → is_in a.filter order ≡ true → AllIn order (less f (entries ++ a ∷ []))
    less_append f order [] a o h i = rw o (i, tt)
    less_append f order (x ∷ entries) a o h i =
        let cases : (b : Bool) → AllIn order (cond (not b) (x ∷ less f entries) (less f entries)) → AllIn order (cond (not b) (x ∷ less f (entries ++ a ∷ [])) (less f (entries ++ a ∷ []))) = elim [
          | true ↦ λ h. less_append f order entries a o h i
          | false ↦ λ h. (h.0, less_append f order entries a o h.1 i)
        ] in
        cases (x.filter == f) h
