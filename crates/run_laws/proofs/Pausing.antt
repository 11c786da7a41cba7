-- Beginning a pause, its steps, and the drains in between.
use Rattle.std.proofs.Common.{◌≡◌, ℕ, suc, ◌+◌, ◌<◌, ◌≤◌, ◌==◌, ◌⊎◌, inl, inr, Bool, true, false, cond, List, [], ◌∷◌, ◌++◌, length, get_or, nat_lt, count_by, refl, arith, ap, sym, subst, ◌∙◌}
use Rattle.std.proofs.lemmas.Bool.Decides.{nat_tests}
use Rattle.ndis_base.specs.declared.ModuleState.TheVariants as state
use Rattle.ndis_base.specs.declared.Phase.TheVariants as phase
use Rattle.journal_types.specs.declared.Event.TheVariants as event
use Rattle.journal_types.specs.declared.PhaseOf.TheVariants as of
use Rattle.journal_types.specs.declared.Reply.{Reply}
use Rattle.journal_types.specs.declared.Reply.TheVariants as reply
use Rattle.journal_types.specs.declared.Row.{Row}
use Rattle.journal_types.specs.declared.Row.TheVariants as row
use Rattle.journal_types.specs.declared.StackHead.{StackHead}
use Rattle.journal_types.specs.declared.Turn.{Turn}
use Rattle.stack_rules.specs.declared.Thing.{Thing}
use Rattle.stack_rules.specs.Tests.{phase_is_pausing, phase_is_running}
use Rattle.stack_rules.specs.Net.{Net, Modules, after, after_rows, after_turn, lists, seen}
use Rattle.stack_rules.specs.Places.{is_counted_at, outstanding}
use Rattle.stack_rules.specs.Outcome.{Outcome}
use Rattle.stack_rules.specs.Pauses.{begin_outcome, binding_ids, first_unpaused, floors, pause_at, pause_outcome, state_rows}
use Rattle.stack_rules.specs.Drains.{drain_outcome}
use Rattle.stack_rules.specs.Work.{work}
use Rattle.home_laws.proofs.Known.{by_test}
use Rattle.state_laws.specs.Shape.{state_at, IsDistinct, IsPausing}
use Rattle.state_laws.proofs.Rows.{IsSame, after_rows-append}
use Rattle.state_laws.proofs.Takes.{put, StatesAre-same}
use Rattle.state_laws.proofs.Floors.{first_unpaused_is, length-floors, low, put_low}
use Rattle.state_laws.proofs.Changes.{none_at, told_floor, told_put, told_then, IsTold}
use Rattle.state_laws.proofs.Phases.{plain_paused, plain_pausing}
use Rattle.state_laws.proofs.Events.{plain_same}
use Rattle.work_laws.specs.Bounds.{is_pause}
use Rattle.work_laws.proofs.Additions.{each_pause}
use Rattle.work_laws.proofs.InPlace.{all_in_place}
use Rattle.work_laws.proofs.Journals.{sound_still_drain}
use Rattle.drain_laws.proofs.Bounded.{MovesOrIdles, drain_moves, phase_states}
use Rattle.drain_laws.proofs.Idle.{idle_is_empty}
use Rattle.drain_laws.proofs.Pausing.{at_start, IsPausingFrom}
use Rattle.drain_laws.proofs.Tests.{not_both}
use Rattle.run_laws.specs.Turns.{EachTurn, GoesOn, LeadsTo}
use Rattle.run_laws.specs.Pausing.{pause_to_go, Begins, Drains, Pauses, Waits}
use Rattle.run_laws.proofs.Turns.{IsTurn, goes_on, leads, nothing, turn_of}

-- beginning
begun_by : (net : Net) (turn : Turn) → net.phase ≡ phase.Running → IsTurn net turn (begin_outcome net) (after_rows net (begin_outcome net).rows) → LeadsTo net turn reply.Ok phase.Pausing
begun_by net turn p =
    by_test (λ (o : Outcome). IsTurn net turn o (after_rows net o.rows) → LeadsTo net turn reply.Ok phase.Pausing) (phase_is_running net.phase) _ _
    (λ _ t. leads net turn _ _ reply.Ok phase.Pausing t refl (phase_states (after net (row.Phase (of.Stack phase.Pausing))) state.Pausing (binding_ids 0 net.modules.bindings)))
    (λ f. absurd (not_both (phase_is_running net.phase) (ap phase_is_running p) f))

pub begins : EachTurn Begins
begins head turns turn s bound n e p = begun_by (seen head turns) turn p (turn_of (seen head turns) turn event.BeginPause n e)

-- the pause goes on by one position
record IsOn (net next : Net) (front : ℕ) : Type 0 where
  phase : next.phase ≡ phase.Pausing
  order : next.modules.order ≡ net.modules.order
  pausing : IsPausing (length next.head.bindings) (front + 1) next.modules
  within : front ≤ length net.modules.order

next_at : (n i : ℕ) → put (put (state_at n (n + 1)) n state.Paused) (n + 1) state.Pausing i ≡ state_at (n + 1) (n + 1 + 1) i
next_at n i = grind (arith, nat_tests)

-- the front becomes Paused, and the position below it Pausing
abbrev next_rows : Net → ℕ → List Row
next_rows net front = state_rows (state.Paused ∷ []) (get_or (floors net.modules) front []) ++ state_rows (state.Pausing ∷ []) (get_or (floors net.modules) (front + 1) [])

next_told : (net : Net) (front : ℕ) → IsPausingFrom net front → front ≤ length net.modules.order → IsTold net (after_rows net (next_rows net front)) (λ states. put (put states front state.Paused) (front + 1) state.Pausing)
next_told net front h l =
    let first : List Row = state_rows (state.Paused ∷ []) (get_or (floors net.modules) front []) in
    let mid : Net = after_rows net first in
    let t : IsTold net mid (λ states. put states front state.Paused) = told_floor net state.Paused front h.pausing.within h.wired.distinct plain_paused in
    let next : Net = after_rows mid (state_rows (state.Pausing ∷ []) (get_or (low net.modules.order) front [])) in
    let u : IsTold mid next (λ states. put states (front + 1) state.Pausing) =
    subst (λ fs. IsTold mid (after_rows mid (state_rows (state.Pausing ∷ []) (get_or fs front []))) (λ states. put states (front + 1) state.Pausing)) (ap low t.order)
    (told_put mid _ (front + 1) state.Pausing refl (put_low mid state.Pausing front (omega (arith, l, ap length t.order)) (subst IsDistinct (sym t.order) h.wired.distinct) plain_pausing)) in
    let at : suc front ≡ front + 1 = omega arith in
    let rows : after_rows net (next_rows net front) ≡ next = after_rows-append net first _ ∙ ap (λ i. after_rows mid (state_rows (state.Pausing ∷ []) (get_or (floors net.modules) i []))) (sym at) in
    subst (λ m. IsTold net m (λ states. put (put states front state.Paused) (front + 1) state.Pausing)) (sym rows) (told_then net mid next _ _ t u)

next_position : (net : Net) (front : ℕ) → IsPausingFrom net front → front ≤ length net.modules.order → IsOn net (after_rows net (next_rows net front)) front
next_position net front h l =
    let next : Net = after_rows net (next_rows net front) in
    let t : IsTold net next (λ states. put (put states front state.Paused) (front + 1) state.Pausing) = next_told net front h l in
    let many : length next.head.bindings ≡ length net.head.bindings = ap (λ (h : StackHead). length h.bindings) t.head in
    record {
      phase = t.phase ∙ h.phase;
      order = t.order;
      pausing = subst (λ k. IsPausing k (front + 1) next.modules) (sym many) record {
        some = h.pausing.some;
        within = omega (arith, l, ap length t.order);
        states = StatesAre-same _ (state_at (front + 1) (front + 1 + 1)) _ next.modules (λ i a. next_at front i) (t.states (length net.head.bindings) (state_at front (front + 1)) (none_at front (front + 1)) h.pausing.states);
      };
      within = l;
    }

-- a step of the pause from the first position that isn't Paused
abbrev Steps : Net → ℕ → Reply → Net → Type 0
Steps net front r next =
    ((r ≡ reply.Next) × IsOn net next front)
    ⊎ (((r ≡ reply.Paused) × (next.phase ≡ phase.Paused)) ⊎ ((many : ℕ) × (r ≡ reply.Waiting many) × (next ≡ net) × (0 < length net.things)))

abbrev OutcomeSteps : Net → ℕ → Outcome → Type 0
OutcomeSteps net front o = Steps net front o.reply (after_rows net o.rows)

-- where a list is counted, something is live
counted : (net : Net) (i : ℕ) → (outstanding net i == 0) ≡ false → 0 < length net.things
counted net i = of_things net.things
  where
    of_things : (ts : List Thing) → (count_by (is_counted_at net.modules.order i) (lists ts) == 0) ≡ false → 0 < length ts
    of_things [] z = cc
    of_things (t ∷ ts) z = omega arith

steps_at : (net : Net) (front : ℕ) → IsPausingFrom net front → OutcomeSteps net front (pause_at net front)
steps_at net front h =
    by_test (OutcomeSteps net front) (outstanding net front == 0) _ _
    (λ _. done (nat_lt (front + 1) (length (floors net.modules))) refl)
    (λ z. inr (inr (outstanding net front, refl, refl, counted net front z)))
  where
    first : List Row
    first = state_rows (state.Paused ∷ []) (get_or (floors net.modules) front [])

    done : (b : Bool) → nat_lt (front + 1) (length (floors net.modules)) ≡ b → OutcomeSteps net front (record {
      reply = cond b reply.Next reply.Paused;
      rows = first ++ cond b (state_rows (state.Pausing ∷ []) (get_or (floors net.modules) (front + 1) [])) (row.Phase (of.Stack phase.Paused) ∷ []);
    })
    done true t =
        let many = length-floors net.modules in
        let less : front + 1 < length (floors net.modules) = grind (arith, nat_tests) in
        inl (refl, next_position net front h (omega (arith, many, less)))
    done false t = inr (inl (refl, ap (λ (m : Net). m.phase) (after_rows-append net first (row.Phase (of.Stack phase.Paused) ∷ []))))

front_is : (net : Net) (front : ℕ) → IsPausing (length net.head.bindings) front net.modules → first_unpaused net ≡ front
front_is net front h = first_unpaused_is net (length net.head.bindings) front (front + 1) h.some h.within h.states

pause_steps : (net : Net) (front : ℕ) → IsPausingFrom net front → OutcomeSteps net front (pause_outcome net)
pause_steps net front h =
    by_test (OutcomeSteps net front) (phase_is_pausing net.phase) (pause_at net (first_unpaused net)) _
    (λ _. subst (λ i. OutcomeSteps net front (pause_at net i)) (sym (front_is net front h.pausing)) (steps_at net front h))
    (λ f. absurd (not_both (phase_is_pausing net.phase) (ap phase_is_pausing h.phase) f))

pub pauses : EachTurn Pauses
pauses head turns turn s bound n e p = by (pause_steps net front h)
  where
    net : Net
    net = seen head turns

    front : ℕ
    front = (at_start head turns s p).0

    h : IsPausingFrom net front
    h = (at_start head turns s p).1

    next : Net
    next = after_rows net (pause_outcome net).rows

    t : IsTurn net turn (pause_outcome net) next
    t = turn_of net turn event.PauseNext n e

    less : IsOn net next front → pause_to_go next < pause_to_go net
    less on =
        let least : work (after_turn net turn) ≤ work net + 0 = each_pause head turns turn s n (ap is_pause e) in
        let there : work (after_turn net turn) ≡ work next = ap work t.after in
        let order : length next.modules.order ≡ length net.modules.order = ap length on.order in
        let old : first_unpaused net ≡ front = front_is net front h.pausing in
        let new : first_unpaused next ≡ front + 1 = front_is next (front + 1) on.pausing in
        let within = on.within in
        omega (arith, least, there, order, old, new, within)

    by : OutcomeSteps net front (pause_outcome net) → GoesOn net turn reply.Next phase.Pausing pause_to_go ⊎ (LeadsTo net turn reply.Paused phase.Paused ⊎ Waits net turn)
    by (inl g) = inl (goes_on net turn _ next reply.Next phase.Pausing pause_to_go t g.0 g.1.phase (less g.1))
    by (inr (inl d)) = inr (inl (leads net turn _ next reply.Paused phase.Paused t d.0 d.1))
    by (inr (inr w)) = inr (inr record { many = w.0; stays = nothing net turn _ next (reply.Waiting w.0) t w.1 w.2; some = w.3 })

-- a drain in between
pub drains : EachTurn Drains
drains head turns turn s bound n e p free some = by (drain_moves net n.choice.keeps)
  where
    net : Net
    net = seen head turns

    next : Net
    next = after_rows net (drain_outcome net n.choice.keeps).rows

    t : IsTurn net turn (drain_outcome net n.choice.keeps) next
    t = turn_of net turn event.Drain n e

    same : IsSame net next
    same = plain_same net event.Drain n.choice refl

    less : work (after_turn net turn) + 1 ≤ work net → pause_to_go next < pause_to_go net
    less l =
        let start = at_start head turns s p in
        let front : ℕ = start.0 in
        let h : IsPausing (length net.head.bindings) front net.modules = start.1.pausing in
        let many : length next.head.bindings ≡ length net.head.bindings = ap (λ (h : StackHead). length h.bindings) same.head in
        let later : IsPausing (length next.head.bindings) front next.modules = subst (λ k. IsPausing k front next.modules) (sym many) (subst (IsPausing (length net.head.bindings) front) (sym same.modules) h) in
        let there : work (after_turn net turn) ≡ work next = ap work t.after in
        let order : length next.modules.order ≡ length net.modules.order = ap (λ (ms : Modules). length ms.order) same.modules in
        let old : first_unpaused net ≡ front = front_is net front h in
        let new : first_unpaused next ≡ front = front_is next front later in
        omega (arith, l, there, order, old, new)

    by : MovesOrIdles (drain_outcome net n.choice.keeps) → GoesOn net turn reply.Moved phase.Pausing pause_to_go
    by (inl m) =
        goes_on net turn _ next reply.Moved phase.Pausing pause_to_go t m (same.phase ∙ p) (less (sound_still_drain head turns turn s bound (ap phase_is_running p) n e (t.answer ∙ m)))
    by (inr i) =
        let none : net.things ≡ [] = (idle_is_empty all_in_place head turns turn s n p free e (t.answer ∙ i.0)).0 in
        let size : length net.things ≡ 0 = ap length none in
        absurd (omega (arith, size, some))
