-- What an event that changes states of modules leaves.
use Rattle.std.proofs.Common.{◌≡◌, ℕ, suc, zero, ◌+◌, ◌<◌, ◌≤◌, ◌==◌, nat_lt, Bool, true, false, cond, List, [], ◌∷◌, ◌⊎◌, inl, length, get_or, refl, arith, ap, sym, subst, ◌∙◌}
use Rattle.std.proofs.lemmas.Bool.Decides.{nat_tests}
use Rattle.ndis_base.specs.declared.ModuleId.TheVariants.{Miniport, Filter}
use Rattle.ndis_base.specs.declared.ModuleState.{ModuleState}
use Rattle.ndis_base.specs.declared.ModuleState.TheVariants as state
use Rattle.ndis_base.specs.declared.Phase.{Phase}
use Rattle.stack_rules.specs.Net.{Net, Modules, after, after_rows, is_detached}
use Rattle.stack_rules.specs.Places.{outstanding}
use Rattle.stack_rules.specs.Targets.{has_receive}
use Rattle.stack_rules.specs.Pauses.{floors, state_row, state_rows}
use Rattle.state_laws.specs.Shape.{state_at, StatesAre, IsDistinct, AllBelow, AllIn, IsWired, Fits, IsShaped}
use Rattle.state_laws.proofs.Takes.{IsPut, NoneDetached, put, StatesAre-same, put_bindings_two, put_filter, put_miniport}
use Rattle.state_laws.proofs.Floors.{low, low_filter, low_miniport, put_floor, IsPlain}

-- the positions stay as they are, and at most one more of them is Paused, where nothing is outstanding
pub record IsMove (net next : Net) (front to : ℕ) : Type 0 where
  pub order : next.modules.order ≡ net.modules.order
  pub receives : (f : ℕ) → has_receive next.modules f ≡ has_receive net.modules f
  pub steps : (to ≤ front) ⊎ ((to ≡ front + 1) × (outstanding net front ≡ 0))

-- the lists stay as they are; the positions change only where all are Paused
pub record IsChanged (net next : Net) (s : IsShaped net) : Type 0 where
  pub head : next.head ≡ net.head
  pub list : next.next.list ≡ net.next.list
  pub things : next.things ≡ net.things
  pub shape : IsShaped next
  pub kind : IsMove net next s.front shape.front ⊎ (s.front ≡ length net.modules.order + 2)

pub unchanged : (net : Net) (s : IsShaped net) → IsChanged net net s
unchanged net s = record { head = refl; list = refl; things = refl; shape = s; kind = inl record { order = refl; receives = λ f. refl; steps = inl (omega arith) } }

-- a shape by what the state has
pub fitted : (many n : ℕ) (p : Phase) (front : ℕ) (next : Net) → length next.head.bindings ≡ many → next.next.filter ≡ n → next.phase ≡ p → Fits many n next.modules front p → Fits (length next.head.bindings) next.next.filter next.modules front next.phase
fitted many n p front next h f e fits =
    subst (λ q. Fits (length next.head.bindings) next.next.filter next.modules front q) (sym e)
    (subst (λ k. Fits (length next.head.bindings) k next.modules front p) (sym f) (subst (λ k. Fits k n next.modules front p) (sym h) fits))

abbrev pub shaped : (many n : ℕ) (p : Phase) (front : ℕ) (next : Net) → length next.head.bindings ≡ many → next.next.filter ≡ n → next.phase ≡ p → Fits many n next.modules front p → IsShaped next
shaped many n p front next h f e fits = record { front = front; fits = fitted many n p front next h f e fits }

-- positions take states, one after the other
pub record IsTold (net next : Net) (change : (ℕ → ModuleState) → ℕ → ModuleState) : Type 0 where
  pub head : next.head ≡ net.head
  pub phase : next.phase ≡ net.phase
  pub order : next.modules.order ≡ net.modules.order
  pub filter : next.next.filter ≡ net.next.filter
  pub list : next.next.list ≡ net.next.list
  pub things : next.things ≡ net.things
  pub receives : (f : ℕ) → has_receive next.modules f ≡ has_receive net.modules f
  pub within : (order : List ℕ) → AllIn order net.modules.filters → AllIn order next.modules.filters
  pub none : (states : ℕ → ModuleState) → NoneDetached states → NoneDetached (change states)
  pub states : (many : ℕ) (states : ℕ → ModuleState) → NoneDetached states → StatesAre many net.modules states → StatesAre many next.modules (change states)

pub told_put : (net next : Net) (i : ℕ) (s : ModuleState) → is_detached s ≡ false → IsPut net next i s → IsTold net next (λ states. put states i s)
told_put net next i s d t = record {
  head = t.head;
  phase = t.phase;
  order = t.order;
  filter = t.filter;
  list = t.list;
  things = t.things;
  receives = t.receives;
  within = t.within;
  none = λ states n p. elim (p == i) as (λ b. is_detached (cond b s (states p)) ≡ false) [ true ↦ d | false ↦ n p ];
  states = t.states;
}

pub told_then : (a b c : Net) (f g : (ℕ → ModuleState) → ℕ → ModuleState) → IsTold a b f → IsTold b c g → IsTold a c (λ states. g (f states))
told_then a b c f g t u = record {
  head = u.head ∙ t.head;
  phase = u.phase ∙ t.phase;
  order = u.order ∙ t.order;
  filter = u.filter ∙ t.filter;
  list = u.list ∙ t.list;
  things = u.things ∙ t.things;
  receives = λ k. u.receives k ∙ t.receives k;
  within = λ order h. u.within order (t.within order h);
  none = λ states n. u.none (f states) (t.none states n);
  states = λ many states n h. u.states many (f states) (t.none states n) (t.states many states n h);
}

pub wired_by : (n : ℕ) (a b : Modules) → b.order ≡ a.order → ((order : List ℕ) → AllIn order a.filters → AllIn order b.filters) → IsWired n a → IsWired n b
wired_by n a b e f w = record {
  distinct = subst IsDistinct (sym e) w.distinct;
  below = subst (AllBelow n) (sym e) w.below;
  within = subst (λ o. AllIn o b.filters) (sym e) (f a.order w.within);
}

pub none_at : (q r : ℕ) → NoneDetached (state_at q r)
none_at q r p = by (nat_lt p q) (nat_lt p r)
  where
    by : (a b : Bool) → is_detached (cond a state.Paused (cond b state.Pausing state.Running)) ≡ false
    by true b = refl
    by false true = refl
    by false false = refl

told_same : (a b : Net) (f g : (ℕ → ModuleState) → ℕ → ModuleState) → ((states : ℕ → ModuleState) (i : ℕ) → f states i ≡ g states i) → IsTold a b f → IsTold a b g
told_same a b f g e t = record {
  head = t.head;
  phase = t.phase;
  order = t.order;
  filter = t.filter;
  list = t.list;
  things = t.things;
  receives = t.receives;
  within = t.within;
  none = λ states n p. ap is_detached (sym (e states p)) ∙ t.none states n p;
  states = λ many states n h. StatesAre-same (f states) (g states) many b.modules (λ i a. e states i) (t.states many states n h);
}

-- the modules of a position take a state
pub told_floor : (net : Net) (s : ModuleState) (i : ℕ) → i ≤ length net.modules.order + 1 → IsDistinct net.modules.order → IsPlain s → IsTold net (after_rows net (state_rows (s ∷ []) (get_or (floors net.modules) i []))) (λ states. put states i s)
told_floor net s i l d p = told_put net _ i s p.stays (put_floor net s i l d p)

twice : (states : ℕ → ModuleState) (i : ℕ) (q s : ModuleState) (p : ℕ) → put (put states i q) i s p ≡ put states i s p
twice states i q s p = elim (p == i) as (λ b. cond b s (cond b q (states p)) ≡ cond b s (states p)) [ true ↦ refl | false ↦ refl ]

told_twice : (a b c : Net) (i : ℕ) (q s : ModuleState) → is_detached q ≡ false → is_detached s ≡ false → IsPut a b i q → IsPut b c i s → IsTold a c (λ states. put states i s)
told_twice a b c i q s d e t u =
    told_same a c (λ states. put (put states i q) i s) (λ states. put states i s) (λ states p. twice states i q s p)
    (told_then a b c (λ states. put states i q) (λ states. put states i s) (told_put a b i q d t) (told_put b c i s e u))

told_low_two : (net : Net) (q s : ModuleState) (j : ℕ) → j ≤ length net.modules.order → IsDistinct net.modules.order → IsPlain q → IsPlain s → IsTold net (after_rows net (state_rows (q ∷ s ∷ []) (get_or (low net.modules.order) j []))) (λ states. put states (j + 1) s)
told_low_two net q s j l d a b =
    let cases : (c : Bool) → nat_lt j (length net.modules.order) ≡ c → IsTold net (after_rows net (state_rows (q ∷ s ∷ []) (get_or (low net.modules.order) j []))) (λ states. put states (j + 1) s) = elim [
      | true ↦ λ t.
          let less : j < length net.modules.order = grind (arith, nat_tests) in
          let f : ℕ = get_or net.modules.order j 0 in
          let first : Net = after net (state_row q (Filter f)) in
          subst (λ ms. IsTold net (after_rows net (state_rows (q ∷ s ∷ []) ms)) (λ states. put states (j + 1) s)) (sym (low_filter net.modules.order j less))
          (told_twice net first (after first (state_row s (Filter f))) (j + 1) q s a.stays b.stays (put_filter net q j less d a.stays a.old) (put_filter first s j less d b.stays b.old))
      | false ↦ λ t.
          let same : j ≡ length net.modules.order = grind (arith, nat_tests) in
          let first : Net = after net (state_row q Miniport) in
          subst (λ i. IsTold net (after_rows net (state_rows (q ∷ s ∷ []) (get_or (low net.modules.order) i []))) (λ states. put states (i + 1) s)) (sym same)
          (subst (λ ms. IsTold net (after_rows net (state_rows (q ∷ s ∷ []) ms)) (λ states. put states (length net.modules.order + 1) s)) (sym (low_miniport net.modules.order))
          (told_twice net first (after first (state_row s Miniport)) (length net.modules.order + 1) q s a.stays b.stays (put_miniport net q) (put_miniport first s)))
    ] in
    cases (nat_lt j (length net.modules.order)) refl

-- the modules of a position take two states, one after the other
pub told_floor_two : (net : Net) (q s : ModuleState) (i : ℕ) → i ≤ length net.modules.order + 1 → IsDistinct net.modules.order → IsPlain q → IsPlain s → IsTold net (after_rows net (state_rows (q ∷ s ∷ []) (get_or (floors net.modules) i []))) (λ states. put states i s)
told_floor_two net q s zero l d a b = told_put net _ 0 s b.stays (put_bindings_two net q s)
told_floor_two net q s (suc j) l d a b =
    let at : j + 1 ≡ suc j = omega arith in
    subst (λ i. IsTold net (after_rows net (state_rows (q ∷ s ∷ []) (get_or (low net.modules.order) j []))) (λ states. put states i s)) at (told_low_two net q s j (omega arith) d a b)
