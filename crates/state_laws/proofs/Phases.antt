-- Beginning a pause, and the steps of a pause and of a restart.
use Rattle.std.proofs.Common.{◌≡◌, ℕ, suc, ◌+◌, ◌-◌, ◌<◌, ◌≤◌, ◌==◌, nat_lt, Bool, true, false, List, [], ◌∷◌, ◌++◌, inl, inr, length, get_or, reverse, refl, arith, ap, sym, subst, ◌∙◌, if◌then◌else◌}
use Rattle.std.proofs.lemmas.Bool.Decides.{nat_tests}
use Rattle.std.proofs.lemmas.List.{get_or-reverse, get_or_past, length-reverse}
use Rattle.ndis_base.specs.declared.ModuleState.TheVariants as state
use Rattle.ndis_base.specs.declared.Phase.TheVariants as phase
use Rattle.journal_types.specs.declared.StackHead.{StackHead}
use Rattle.journal_types.specs.declared.PhaseOf.TheVariants as of
use Rattle.journal_types.specs.declared.Row.{Row}
use Rattle.journal_types.specs.declared.Row.TheVariants as row
use Rattle.stack_rules.specs.Net.{Net, Modules, after, after_rows}
use Rattle.stack_rules.specs.Places.{outstanding}
use Rattle.stack_rules.specs.Targets.{has_receive}
use Rattle.stack_rules.specs.Pauses.{binding_ids, floors, state_rows, paused_rows, is_top, running_floors}
use Rattle.state_laws.specs.Shape.{state_at, StatesAre, IsDistinct, IsWired, IsPausing, IsRunning, IsShaped}
use Rattle.state_laws.proofs.Rows.{by_test, after_rows-append}
use Rattle.state_laws.proofs.Takes.{IsPut, put, StatesAre-same, put_bindings}
use Rattle.state_laws.proofs.Floors.{low, IsPlain, put_low, running_floors_are, length-floors}
use Rattle.state_laws.proofs.Changes.{IsChanged, shaped, IsTold, told_put, told_then, told_floor, told_floor_two, wired_by, none_at}

pub plain_paused : IsPlain state.Paused
plain_paused = record { stays = refl; old = λ f n. refl }

pub plain_pausing : IsPlain state.Pausing
plain_pausing = record { stays = refl; old = λ f n. refl }

-- states that are equal by their numbers
begun_at : (i : ℕ) → put (state_at 0 0) 0 state.Pausing i ≡ state_at 0 1 i
begun_at i = grind (arith, nat_tests)

paused_next_at : (n i : ℕ) → put (put (state_at n (n + 1)) n state.Paused) (n + 1) state.Pausing i ≡ state_at (n + 1) (n + 1 + 1) i
paused_next_at n i = grind (arith, nat_tests)

paused_last_at : (n i : ℕ) → i ≤ n → put (state_at n (n + 1)) n state.Paused i ≡ state.Paused
paused_last_at n i h = grind (arith, nat_tests)

restarted_at : (j i : ℕ) → put (state_at (j + 1) (j + 1)) j state.Running i ≡ state_at j j i
restarted_at j i = grind (arith, nat_tests)

pub all_paused_at : (q i : ℕ) → i < q → state.Paused ≡ state_at q q i
all_paused_at q i h = grind (arith, nat_tests)

-- a pause begins
pub begun : (net : Net) (s : IsShaped net) → IsWired net.next.filter net.modules → IsRunning (length net.head.bindings) net.modules →
    IsChanged net (after_rows net (row.Phase (of.Stack phase.Pausing) ∷ state_rows (state.Pausing ∷ []) (binding_ids 0 net.modules.bindings))) s
begun net s w r =
    let now : Net = after net (row.Phase (of.Stack phase.Pausing)) in
    let next : Net = after_rows now (state_rows (state.Pausing ∷ []) (binding_ids 0 net.modules.bindings)) in
    let t : IsPut now next 0 state.Pausing = put_bindings now state.Pausing in
    record {
      head = t.head;
      list = t.list;
      things = t.things;
      shape = shaped (length net.head.bindings) net.next.filter phase.Pausing 0 next (ap (λ h. length h.bindings) t.head) t.filter t.phase (
        wired_by net.next.filter net.modules next.modules t.order t.within w,
        record {
          some = r.some;
          within = omega arith;
          states = StatesAre-same _ (state_at 0 (0 + 1)) _ next.modules (λ i a. begun_at i) (t.states (length net.head.bindings) (state_at 0 0) (none_at 0 0) r.states);
        },
      );
      kind = inl record { order = t.order; receives = t.receives; steps = inl (omega arith) };
    }

-- a pause's step at a position: it is Paused, and the next one Pausing
pub paused_next : (net : Net) (s : IsShaped net) (front : ℕ) → s.front ≡ front → IsWired net.next.filter net.modules → IsPausing (length net.head.bindings) front net.modules → outstanding net front ≡ 0 → net.phase ≡ phase.Pausing → front ≤ length net.modules.order →
    IsChanged net (after_rows net (state_rows (state.Paused ∷ []) (get_or (floors net.modules) front []) ++ state_rows (state.Pausing ∷ []) (get_or (floors net.modules) (front + 1) []))) s
paused_next net s front is w p none e l =
    let mid : Net = after_rows net (state_rows (state.Paused ∷ []) (get_or (floors net.modules) front [])) in
    let t : IsTold net mid (λ states. put states front state.Paused) = told_floor net state.Paused front p.within w.distinct plain_paused in
    let next_rows : List Row = state_rows (state.Pausing ∷ []) (get_or (low net.modules.order) front []) in
    let next : Net = after_rows mid next_rows in
    let same : low net.modules.order ≡ low mid.modules.order = ap low (sym t.order) in
    let u : IsTold mid next (λ states. put states (front + 1) state.Pausing) =
    subst (λ fs. IsTold mid (after_rows mid (state_rows (state.Pausing ∷ []) (get_or fs front []))) (λ states. put states (front + 1) state.Pausing)) (sym same)
    (told_put mid _ (front + 1) state.Pausing refl (put_low mid state.Pausing front (omega (arith, ap length t.order)) (subst IsDistinct (sym t.order) w.distinct) plain_pausing)) in
    let both : IsTold net next (λ states. put (put states front state.Paused) (front + 1) state.Pausing) = told_then net mid next _ _ t u in
    let at : suc front ≡ front + 1 = omega arith in
    let rows : after_rows net (state_rows (state.Paused ∷ []) (get_or (floors net.modules) front []) ++ state_rows (state.Pausing ∷ []) (get_or (floors net.modules) (front + 1) [])) ≡ next =
    after_rows-append net (state_rows (state.Paused ∷ []) (get_or (floors net.modules) front [])) _ ∙ ap (λ i. after_rows mid (state_rows (state.Pausing ∷ []) (get_or (floors net.modules) i []))) (sym at) in
    subst (λ n. IsChanged net n s) (sym rows) record {
      head = both.head;
      list = both.list;
      things = both.things;
      shape = shaped (length net.head.bindings) net.next.filter phase.Pausing (front + 1) next (ap (λ h. length h.bindings) both.head) both.filter (both.phase ∙ e) (
        wired_by net.next.filter net.modules next.modules both.order both.within w,
        record {
          some = p.some;
          within = omega (arith, ap length both.order);
          states = StatesAre-same _ (state_at (front + 1) (front + 1 + 1)) _ next.modules (λ i a. paused_next_at front i) (both.states (length net.head.bindings) (state_at front (front + 1)) (none_at front (front + 1)) p.states);
        },
      );
      kind = inl record { order = both.order; receives = both.receives; steps = inr (omega (arith, is), ap (outstanding net) is ∙ none) };
    }

-- the last step, at the miniport
pub paused_last : (net : Net) (s : IsShaped net) (front : ℕ) → s.front ≡ front → IsWired net.next.filter net.modules → IsPausing (length net.head.bindings) front net.modules → outstanding net front ≡ 0 → front ≡ length net.modules.order + 1 →
    IsChanged net (after_rows net (state_rows (state.Paused ∷ []) (get_or (floors net.modules) front []) ++ row.Phase (of.Stack phase.Paused) ∷ [])) s
paused_last net s front is w p none l =
    let mid : Net = after_rows net (state_rows (state.Paused ∷ []) (get_or (floors net.modules) front [])) in
    let t : IsTold net mid (λ states. put states front state.Paused) = told_floor net state.Paused front p.within w.distinct plain_paused in
    let next : Net = after mid (row.Phase (of.Stack phase.Paused)) in
    let rows : after_rows net (state_rows (state.Paused ∷ []) (get_or (floors net.modules) front []) ++ row.Phase (of.Stack phase.Paused) ∷ []) ≡ next =
    after_rows-append net (state_rows (state.Paused ∷ []) (get_or (floors net.modules) front [])) (row.Phase (of.Stack phase.Paused) ∷ []) in
    let size : length mid.modules.order ≡ length net.modules.order = ap length t.order in
    subst (λ n. IsChanged net n s) (sym rows) record {
      head = t.head;
      list = t.list;
      things = t.things;
      shape = shaped (length net.head.bindings) net.next.filter phase.Paused (front + 1) next (ap (λ h. length h.bindings) t.head) t.filter refl (
        wired_by net.next.filter net.modules mid.modules t.order t.within w,
        (
          StatesAre-same (put (state_at front (front + 1)) front state.Paused) (λ i. state.Paused) (length net.head.bindings) mid.modules (λ i a. paused_last_at front i (omega (arith, a, size, l)))
              (t.states (length net.head.bindings) (state_at front (front + 1)) (none_at front (front + 1)) p.states),
          omega (arith, size, l),
        ),
      );
      kind = inl record { order = t.order; receives = t.receives; steps = inr (omega (arith, is), ap (outstanding net) is ∙ none) };
    }

-- a pause's step
pub paused_step : (net : Net) (s : IsShaped net) (front : ℕ) → s.front ≡ front → IsWired net.next.filter net.modules → IsPausing (length net.head.bindings) front net.modules → outstanding net front ≡ 0 → net.phase ≡ phase.Pausing →
    IsChanged net (after_rows net (paused_rows net front)) s
paused_step net s front is w p none e =
    by_test (λ rows. IsChanged net (after_rows net (state_rows (state.Paused ∷ []) (get_or (floors net.modules) front []) ++ rows)) s) (nat_lt (front + 1) (length (floors net.modules))) _ _
    (λ t. let size = length-floors net.modules in paused_next net s front is w p none e (less front (length (floors net.modules)) (length net.modules.order) size t))
    (λ t. let size = length-floors net.modules in paused_last net s front is w p none (last front (length (floors net.modules)) (length net.modules.order) size t p.within))
  where
    less : (q n k : ℕ) → n ≡ k + 2 → nat_lt (q + 1) n ≡ true → q ≤ k
    less q n k e t = grind (arith, nat_tests)

    last : (q n k : ℕ) → n ≡ k + 2 → nat_lt (q + 1) n ≡ false → q ≤ k + 1 → q ≡ k + 1
    last q n k e t l = grind (arith, nat_tests)

plain_restarting : IsPlain state.Restarting
plain_restarting = record { stays = refl; old = λ f n. refl }

plain_running : IsPlain state.Running
plain_running = record { stays = refl; old = λ f n. refl }

-- a restart's step, of a stack whose phase says so already: position j runs
abbrev pub restart_of : Net → ℕ → Bool → List Row
restart_of net i top = state_rows (state.Restarting ∷ state.Running ∷ []) (get_or (reverse (floors net.modules)) i []) ++ (if top then row.Phase (of.Stack phase.Running) ∷ [] else [])

restart_shape : (net next : Net) (j : ℕ) (top : Bool) → net.phase ≡ phase.Restarting → IsWired net.next.filter net.modules → StatesAre (length net.head.bindings) net.modules (state_at (j + 1) (j + 1)) → IsTold net next (λ states. put states j state.Running) →
    j ≤ length net.modules.order + 1 → (top ≡ true → (j ≡ 0) × (0 < length net.head.bindings)) → (top ≡ false → 0 < j) → (shape : IsShaped (after_rows next (if top then row.Phase (of.Stack phase.Running) ∷ [] else []))) × (shape.front ≡ j)
restart_shape net next j true e w h t l a b =
    let now : StatesAre (length net.head.bindings) next.modules (state_at 0 0) = StatesAre-same (put (state_at (j + 1) (j + 1)) j state.Running) (state_at 0 0) (length net.head.bindings) next.modules (λ i q. restarted_at j i ∙ ap (λ n. state_at n n i) (a refl).0) (t.states (length net.head.bindings) (state_at (j + 1) (j + 1)) (none_at (j + 1) (j + 1)) h) in (
      shaped (length net.head.bindings) net.next.filter phase.Running 0 (after next (row.Phase (of.Stack phase.Running))) (ap (λ h. length h.bindings) t.head) t.filter refl
          (wired_by net.next.filter net.modules next.modules t.order t.within w, (record { some = (a refl).1; states = now }, refl)),
      sym (a refl).0,
    )
restart_shape net next j false e w h t l a b = (
  shaped (length net.head.bindings) net.next.filter phase.Restarting j next (ap (λ h. length h.bindings) t.head) t.filter (t.phase ∙ e) (
    wired_by net.next.filter net.modules next.modules t.order t.within w,
    record {
      some = b refl;
      within = omega (arith, ap length t.order);
      states = StatesAre-same (put (state_at (j + 1) (j + 1)) j state.Running) (state_at j j) (length net.head.bindings) next.modules (λ i q. restarted_at j i) (t.states (length net.head.bindings) (state_at (j + 1) (j + 1)) (none_at (j + 1) (j + 1)) h);
    },
  ),
  refl,
)

-- the last row of a restart's step changes nothing but the phase
record IsLast (a b : Net) : Type 0 where
  head : b.head ≡ a.head
  list : b.next.list ≡ a.next.list
  things : b.things ≡ a.things
  modules : b.modules ≡ a.modules

last_stays : (a : Net) (top : Bool) → IsLast a (after_rows a (if top then row.Phase (of.Stack phase.Running) ∷ [] else []))
last_stays a true = record { head = refl; list = refl; things = refl; modules = refl }
last_stays a false = record { head = refl; list = refl; things = refl; modules = refl }

top_is : (i j q k n : ℕ) → n ≡ k + 2 → j + 1 ≡ q → i + q ≡ k + 2 → (i + 1 == n) ≡ true → j ≡ 0
top_is i j q k n s e f t = grind (arith, nat_tests)

other_is : (i j q k n : ℕ) → n ≡ k + 2 → j + 1 ≡ q → i + q ≡ k + 2 → (i + 1 == n) ≡ false → 0 < j
other_is i j q k n s e f t = grind (arith, nat_tests)

-- the move of a restart's step
restart_at : (net now : Net) (s : IsShaped net) (q i j : ℕ) → now.head ≡ net.head → now.next.list ≡ net.next.list → now.things ≡ net.things → now.modules ≡ net.modules → now.next.filter ≡ net.next.filter → now.phase ≡ phase.Restarting → s.front ≡ q →
    IsWired net.next.filter net.modules → StatesAre (length net.head.bindings) net.modules (state_at q q) → j + 1 ≡ q → i + q ≡ length net.modules.order + 2 → (j ≡ 0 → 0 < length net.head.bindings) → IsChanged net (after_rows now (restart_of net i (is_top net i))) s
restart_at net now s q i j he li th mo fi ph is w h e f some =
    let size = length-floors net.modules in
    let from : length (floors net.modules) - 1 - i ≡ j = omega (arith, size, e, f) in
    let floor : get_or (reverse (floors net.modules)) i [] ≡ get_or (floors net.modules) j [] = get_or-reverse (floors net.modules) i [] (omega (arith, size, e, f)) ∙ ap (λ k. get_or (floors net.modules) k []) from in
    let moved : List Row = state_rows (state.Restarting ∷ state.Running ∷ []) (get_or (floors net.modules) j []) in
    let last : List Row = if is_top net i then row.Phase (of.Stack phase.Running) ∷ [] else [] in
    let next : Net = after_rows now moved in
    let wired : IsWired now.next.filter now.modules = subst (λ n. IsWired n now.modules) (sym fi) (subst (IsWired net.next.filter) (sym mo) w) in
    let order : now.modules.order ≡ net.modules.order = ap (λ (ms : Modules). ms.order) mo in
    let within : j ≤ length now.modules.order + 1 = omega (arith, ap length order, e, f) in
    let t : IsTold now next (λ states. put states j state.Running) =
    subst (λ ms. IsTold now (after_rows now (state_rows (state.Restarting ∷ state.Running ∷ []) (get_or (floors ms) j []))) (λ states. put states j state.Running)) mo
    (told_floor_two now state.Restarting state.Running j within wired.distinct plain_restarting plain_running) in
    let many : length now.head.bindings ≡ length net.head.bindings = ap (λ (h : StackHead). length h.bindings) he in
    let states : StatesAre (length now.head.bindings) now.modules (state_at (j + 1) (j + 1)) =
    subst (λ n. StatesAre n now.modules (state_at (j + 1) (j + 1))) (sym many) (subst (λ ms. StatesAre (length net.head.bindings) ms (state_at (j + 1) (j + 1))) (sym mo) (subst (λ k. StatesAre (length net.head.bindings) net.modules (state_at k k)) (sym e) h)) in
    let shape : (shape : IsShaped (after_rows next last)) × (shape.front ≡ j) =
    restart_shape now next j (is_top net i) ph wired states t within
    (λ top. let low : j ≡ 0 = top_is i j q (length net.modules.order) (length (floors net.modules)) size e f top in (low, omega (arith, some low, many)))
    (λ top. other_is i j q (length net.modules.order) (length (floors net.modules)) size e f top) in
    let rows : after_rows now (restart_of net i (is_top net i)) ≡ after_rows next last =
    ap (λ ms. after_rows now (state_rows (state.Restarting ∷ state.Running ∷ []) ms ++ last)) floor ∙ after_rows-append now moved last in
    let stays : IsLast next (after_rows next last) = last_stays next (is_top net i) in
    subst (λ n. IsChanged net n s) (sym rows) record {
      head = stays.head ∙ t.head ∙ he;
      list = stays.list ∙ t.list ∙ li;
      things = stays.things ∙ t.things ∙ th;
      shape = shape.0;
      kind = inl record {
        order = ap (λ (ms : Modules). ms.order) stays.modules ∙ t.order ∙ order;
        receives = λ f. ap (λ ms. has_receive ms f) stays.modules ∙ t.receives f ∙ ap (λ ms. has_receive ms f) mo;
        steps = inl (omega (arith, shape.1, is, e));
      };
    }

-- without bindings the top never runs, and nothing changes
restart_none : (net now : Net) (s : IsShaped net) (i : ℕ) → IsChanged net now s → i ≡ length net.modules.order + 2 → IsChanged net (after_rows now (restart_of net i (is_top net i))) s
restart_none net now s i c e =
    let size = length-floors net.modules in
    let none : get_or (reverse (floors net.modules)) i [] ≡ [] = get_or_past (reverse (floors net.modules)) i [] (omega (arith, size, e, length-reverse (floors net.modules))) in
    let low : is_top net i ≡ false = grind (arith, nat_tests) in
    let rows : restart_of net i (is_top net i) ≡ [] = ap (restart_of net i) low ∙ ap (λ ms. state_rows (state.Restarting ∷ state.Running ∷ []) ms ++ []) none in
    subst (λ rows. IsChanged net (after_rows now rows) s) (sym rows) c

-- a restart's step of a stack that restarts
pub restart_by : (net now : Net) (s : IsShaped net) (q : ℕ) → now.head ≡ net.head → now.next.list ≡ net.next.list → now.things ≡ net.things → now.modules ≡ net.modules → now.next.filter ≡ net.next.filter → now.phase ≡ phase.Restarting → s.front ≡ q →
    IsWired net.next.filter net.modules → StatesAre (length net.head.bindings) net.modules (state_at q q) → 0 < q → q ≤ length net.modules.order + 2 → (q ≡ 1 → IsChanged net now s) → IsChanged net (after_rows now (restart_of net (running_floors net) (is_top net (running_floors net)))) s
restart_by net now s q he li th mo fi ph is w h some within c =
    let floors_run = running_floors_are net (length net.head.bindings) q some within h in
    let before : (q - 1) + 1 ≡ q = omega arith in
    let step : running_floors net + q ≡ length net.modules.order + 2 → (q - 1 ≡ 0 → 0 < length net.head.bindings) → IsChanged net (after_rows now (restart_of net (running_floors net) (is_top net (running_floors net)))) s =
    λ f g. restart_at net now s q (running_floors net) (q - 1) he li th mo fi ph is w h before f g in
    let cases : (b d : Bool) → nat_lt 0 (length net.head.bindings) ≡ b → (q == 1) ≡ d → IsChanged net (after_rows now (restart_of net (running_floors net) (is_top net (running_floors net)))) s = elim [
      | true ↦ λ d t u. let m : 0 < length net.head.bindings = grind (arith, nat_tests) in step (floors_run.0 m) (λ _. m)
      | false ↦ elim [
        | true ↦ λ t u.
            let m : length net.head.bindings ≡ 0 = grind (arith, nat_tests) in
            let o : q ≡ 1 = grind (arith, nat_tests) in
            restart_none net now s (running_floors net) (c o) (floors_run.2 m o)
        | false ↦ λ t u.
            let o : q ≡ 1 → ⊥ = λ e. grind (arith, nat_tests) in
            step (floors_run.1 o) (λ e. absurd (o (omega (arith, before))))
      ]
    ] in
    cases (nat_lt 0 (length net.head.bindings)) (q == 1) refl refl
