-- A pause that drains while it has to wait comes to its end in a bounded number of turns.
use Rattle.std.proofs.Common.{◌≡◌, ℕ, suc, ◌+◌, ◌-◌, ◌*◌, ◌≤◌, ◌<◌, ◌==◌, ◌&&◌, Bool, true, false, cond, List, [], ◌∷◌, ◌++◌, refl, arith, ap, sym, subst, ◌∙◌, ◌⊎◌, inl, inr, get_or, length, nat_lt, count_by}
use Rattle.std.specs.List.{All}
use Rattle.std.proofs.lemmas.List.Elements.{All-cons, All-nil}
use Rattle.std.proofs.lemmas.Bool.Decides.{nat_tests}
use Rattle.ndis_base.specs.declared.ModuleState.TheVariants as state
use Rattle.ndis_base.specs.declared.Phase.TheVariants as phase
use Rattle.journal_types.specs.declared.Event.{Event}
use Rattle.journal_types.specs.declared.Event.TheVariants as event
use Rattle.journal_types.specs.declared.PhaseOf.TheVariants as of
use Rattle.journal_types.specs.declared.Reply.{Reply}
use Rattle.journal_types.specs.declared.Reply.TheVariants as reply
use Rattle.journal_types.specs.declared.Row.{Row}
use Rattle.journal_types.specs.declared.Row.TheVariants as row
use Rattle.journal_types.specs.declared.StackHead.{StackHead}
use Rattle.journal_types.specs.declared.Turn.{Turn}
use Rattle.stack_rules.specs.declared.LiveList.{LiveList}
use Rattle.stack_rules.specs.declared.Thing.{Thing}
use Rattle.stack_rules.specs.Tests.{phase_is_pausing, phase_is_running}
use Rattle.stack_rules.specs.Net.{Net, Modules, after, after_rows, after_turn, lists, seen, told}
use Rattle.stack_rules.specs.Places.{is_counted_at, is_crossed, outstanding}
use Rattle.stack_rules.specs.Outcome.{Outcome}
use Rattle.stack_rules.specs.Pauses.{binding_ids, floors, state_rows, first_unpaused, begin_outcome, pause_at, pause_outcome}
use Rattle.stack_rules.specs.Drains.{drain_outcome}
use Rattle.stack_rules.specs.Sound.{outcome, Next, Sound, SoundFrom}
use Rattle.stack_rules.specs.Work.{work}
use Rattle.rule_basics.specs.Live.{Each}
use Rattle.rule_basics.proofs.Counts.{one_if}
use Rattle.home_laws.proofs.Known.{by_test}
use Rattle.home_laws.specs.Standing.{IsYounger}
use Rattle.home_laws.proofs.Standing.{lists_stand, sound_front}
use Rattle.state_laws.specs.Shape.{state_at, IsDistinct, IsWired, IsPausing, IsShaped}
use Rattle.state_laws.proofs.Rows.{IsSame, after_rows-append}
use Rattle.state_laws.proofs.Changes.{IsTold, told_floor, told_put, told_then, wired_by, none_at}
use Rattle.state_laws.proofs.Takes.{put, StatesAre-same}
use Rattle.state_laws.proofs.Floors.{low, length-floors, first_unpaused_is, put_low}
use Rattle.state_laws.proofs.Phases.{plain_paused, plain_pausing}
use Rattle.state_laws.proofs.Events.{state_after, at_phase, plain_same, turn_is, shaped_journal}
use Rattle.work_laws.specs.Bounds.{is_drain}
use Rattle.place_laws.specs.Kept.{IsInPlace}
use Rattle.work_laws.specs.InPlace.{EachInPlace}
use Rattle.work_laws.proofs.Drains.{drain_lowers, loops_running}
use Rattle.drain_laws.specs.Resting.{IsResting}
use Rattle.drain_laws.specs.Drains.{is_draining, is_moved, drains_some, NoneCrossed, is_waiting_reply, ends_pause, goes_on, is_ended, PauseBegins, PausesAndDrains, PausesInTime}
use Rattle.drain_laws.proofs.Reached.{IsReached, reached_front, reached_next, some_binding, sound_rest, of_reached}
use Rattle.drain_laws.proofs.Bounded.{MovesOrIdles, drain_moves, is_still, still_runs, phase_states, turn_lessens, in_place}
use Rattle.drain_laws.proofs.Resting.{Rest, none}
use Rattle.drain_laws.proofs.Rested.{drain_rest}
use Rattle.drain_laws.proofs.Rests.{rests_journal, lists_rest}
use Rattle.drain_laws.proofs.Idle.{idle_drain, idle_empty, idle_is_empty}
use Rattle.drain_laws.proofs.Tests.{and_last, not_both, or_none}

-- the stack pauses, and this is the first position that isn't Paused
pub record IsPausingFrom (net : Net) (front : ℕ) : Type 0 where
  pub phase : net.phase ≡ phase.Pausing
  pub wired : IsWired net.next.filter net.modules
  pub pausing : IsPausing (length net.head.bindings) front net.modules

pub at_start : (head : StackHead) (turns : List Turn) → Sound head turns → (seen head turns).phase ≡ phase.Pausing → (front : ℕ) × IsPausingFrom (seen head turns) front
at_start head turns s p =
    let net : Net = seen head turns in
    let shape : IsShaped net = shaped_journal head turns s in
    let f = at_phase net phase.Pausing shape p in
    (shape.front, record { phase = p; wired = f.0; pausing = f.1 })

-- the pause goes on by one position
pub record IsOn (net next : Net) (front : ℕ) : Type 0 where
  pub at : IsPausingFrom next (front + 1)
  pub order : next.modules.order ≡ net.modules.order
  pub things : next.things ≡ net.things
  pub within : front ≤ length net.modules.order

next_at : (n i : ℕ) → put (put (state_at n (n + 1)) n state.Paused) (n + 1) state.Pausing i ≡ state_at (n + 1) (n + 1 + 1) i
next_at n i = grind (arith, nat_tests)

next_position : (net : Net) (front : ℕ) → IsPausingFrom net front → front ≤ length net.modules.order →
    IsOn net (after_rows net (state_rows (state.Paused ∷ []) (get_or (floors net.modules) front []) ++ state_rows (state.Pausing ∷ []) (get_or (floors net.modules) (front + 1) []))) front
next_position net front h l =
    let mid : Net = after_rows net (state_rows (state.Paused ∷ []) (get_or (floors net.modules) front [])) in
    let t : IsTold net mid (λ states. put states front state.Paused) = told_floor net state.Paused front h.pausing.within h.wired.distinct plain_paused in
    let next_rows : List Row = state_rows (state.Pausing ∷ []) (get_or (low net.modules.order) front []) in
    let next : Net = after_rows mid next_rows in
    let same : low net.modules.order ≡ low mid.modules.order = ap low (sym t.order) in
    let u : IsTold mid next (λ states. put states (front + 1) state.Pausing) =
    subst (λ fs. IsTold mid (after_rows mid (state_rows (state.Pausing ∷ []) (get_or fs front []))) (λ states. put states (front + 1) state.Pausing)) (sym same)
    (told_put mid _ (front + 1) state.Pausing refl (put_low mid state.Pausing front (omega (arith, ap length t.order)) (subst IsDistinct (sym t.order) h.wired.distinct) plain_pausing)) in
    let both : IsTold net next (λ states. put (put states front state.Paused) (front + 1) state.Pausing) = told_then net mid next _ _ t u in
    let at : suc front ≡ front + 1 = omega arith in
    let rows : after_rows net (state_rows (state.Paused ∷ []) (get_or (floors net.modules) front []) ++ state_rows (state.Pausing ∷ []) (get_or (floors net.modules) (front + 1) [])) ≡ next =
    after_rows-append net (state_rows (state.Paused ∷ []) (get_or (floors net.modules) front [])) _ ∙ ap (λ i. after_rows mid (state_rows (state.Pausing ∷ []) (get_or (floors net.modules) i []))) (sym at) in
    let many : length next.head.bindings ≡ length net.head.bindings = ap (λ (h : StackHead). length h.bindings) both.head in
    let pausing : IsPausing (length net.head.bindings) (front + 1) next.modules = record {
      some = h.pausing.some;
      within = omega (arith, ap length both.order);
      states = StatesAre-same _ (state_at (front + 1) (front + 1 + 1)) _ next.modules (λ i a. next_at front i) (both.states (length net.head.bindings) (state_at front (front + 1)) (none_at front (front + 1)) h.pausing.states);
    } in
    subst (λ n. IsOn net n front) (sym rows) record {
      at = record {
        phase = both.phase ∙ h.phase;
        wired = subst (λ k. IsWired k next.modules) (sym both.filter) (wired_by net.next.filter net.modules next.modules both.order both.within h.wired);
        pausing = subst (λ k. IsPausing k (front + 1) next.modules) (sym many) pausing;
      };
      order = both.order;
      things = both.things;
      within = l;
    }

-- a PauseNext waits for a list that is live, ends the pause, or goes on
abbrev Waits : Net → Reply → List Row → Type 0
Waits net r rows = (is_waiting_reply r ≡ true) × (rows ≡ []) × (lists net.things ≡ [] → ⊥)

abbrev Ends : Reply → Type 0
Ends r = ends_pause r ≡ true

abbrev GoesOn : Net → ℕ → Reply → List Row → Type 0
GoesOn net front r rows = (r ≡ reply.Next) × IsOn net (after_rows net rows) front

waiting_on : (r : Reply) → is_waiting_reply r ≡ true → goes_on r ≡ true
waiting_on (reply.Waiting n) h = refl
waiting_on _ h = cc

ending_on : (r : Reply) → ends_pause r ≡ true → goes_on r ≡ true
ending_on reply.Paused h = refl
ending_on _ h = cc

moved_on : (r : Reply) → is_moved r ≡ true → goes_on r ≡ true
moved_on reply.Moved h = refl
moved_on _ h = cc

abbrev Steps : Net → ℕ → Reply → List Row → Type 0
Steps net front r rows = Waits net r rows ⊎ (Ends r ⊎ GoesOn net front r rows)

abbrev OutcomeSteps : Net → ℕ → Outcome → Type 0
OutcomeSteps net front o = Steps net front o.reply o.rows

steps_at : (net : Net) (front : ℕ) → IsPausingFrom net front → OutcomeSteps net front (pause_at net front)
steps_at net front h =
    by_test (OutcomeSteps net front) (outstanding net front == 0) _ _
    (λ z. done (nat_lt (front + 1) (length (floors net.modules))) refl)
    (λ z. inl (refl, refl, λ e. absurd (counted (lists net.things) e z)))
  where
    counted : (ls : List LiveList) → ls ≡ [] → (count_by (is_counted_at net.modules.order front) ls == 0) ≡ false → ⊥
    counted [] e z = cc
    counted (l ∷ ls) e z = cc

    done : (b : Bool) → nat_lt (front + 1) (length (floors net.modules)) ≡ b → OutcomeSteps net front (record {
      reply = cond b reply.Next reply.Paused;
      rows = state_rows (state.Paused ∷ []) (get_or (floors net.modules) front []) ++ cond b (state_rows (state.Pausing ∷ []) (get_or (floors net.modules) (front + 1) [])) (row.Phase (of.Stack phase.Paused) ∷ []);
    })
    done true t =
        let many = length-floors net.modules in
        let less : front + 1 < length (floors net.modules) = grind (arith, nat_tests) in
        inr (inr (refl, next_position net front h (omega (arith, many, less))))
    done false t = inr (inl refl)

pause_steps : (net : Net) (front : ℕ) → IsPausingFrom net front → OutcomeSteps net front (pause_outcome net)
pause_steps net front h =
    by_test (OutcomeSteps net front) (phase_is_pausing net.phase) (pause_at net (first_unpaused net)) _
    (λ _. subst (λ i. OutcomeSteps net front (pause_at net i)) (sym here) (steps_at net front h))
    (λ f. absurd (not_both (phase_is_pausing net.phase) (ap phase_is_pausing h.phase) f))
  where
    here : first_unpaused net ≡ front
    here = first_unpaused_is net (length net.head.bindings) front (front + 1) h.pausing.some h.pausing.within h.pausing.states

-- the turn of a PauseNext
turn_steps : (net : Net) (front : ℕ) (turn : Turn) → IsPausingFrom net front → Next net turn → turn.event ≡ event.PauseNext → Steps net front turn.reply turn.rows
turn_steps net front turn h n e =
    let o : Outcome = outcome net turn.event n.choice in
    let same : o ≡ pause_outcome net = ap (λ (e : Event). outcome net e n.choice) e in
    subst (λ rows. Steps net front turn.reply rows) (sym n.rows) (subst (λ r. Steps net front r o.rows) (sym n.reply) (subst (OutcomeSteps net front) (sym same) (pause_steps net front h)))

turn_after : (net : Net) (turn : Turn) → turn.event ≡ event.PauseNext → after_turn net turn ≡ after_rows net turn.rows
turn_after net turn e = ap (λ (e : Event). after_rows (told net e turn.reply) turn.rows) e

-- the turn of a drain
record IsDrained (net next : Net) (front : ℕ) : Type 0 where
  at : IsPausingFrom next front
  order : next.modules.order ≡ net.modules.order
  free : NoneCrossed next

drained_turn : (head : StackHead) (net : Net) (front : ℕ) (turn : Turn) → IsReached head net → IsPausingFrom net front → NoneCrossed net → Next net turn → turn.event ≡ event.Drain → IsDrained net (after_turn net turn) front
drained_turn head net front turn r h free n e =
    let next : Net = state_after net event.Drain (drain_outcome net n.choice.keeps) in
    let is : after_turn net turn ≡ next = turn_is net turn n ∙ ap (λ (e : Event). state_after net e (outcome net e n.choice)) e in
    let same : IsSame net next = plain_same net event.Drain n.choice refl in
    let many : length next.head.bindings ≡ length net.head.bindings = ap (λ (h : StackHead). length h.bindings) same.head in
    let rest : Rest net none net = of_reached (λ m. Rest m none m) head net r (rests_journal head) in
    subst (λ m. IsDrained net m front) (sym is) record {
      at = record {
        phase = same.phase ∙ h.phase;
        wired = subst (λ k. IsWired k next.modules) (sym same.filter) (subst (IsWired net.next.filter) (sym same.modules) h.wired);
        pausing = subst (λ k. IsPausing k front next.modules) (sym many) (subst (IsPausing (length net.head.bindings) front) (sym same.modules) h.pausing);
      };
      order = ap (λ (ms : Modules). ms.order) same.modules;
      free = (drain_rest net rest n.choice.keeps).free free;
    }

-- it moves something where a list is live
module _ (each : EachInPlace) (head : StackHead) (some : 1 ≤ length head.bindings) where
  idle_reached : (net : Net) (turn : Turn) → IsReached head net → net.phase ≡ phase.Pausing → NoneCrossed net → Next net turn → turn.event ≡ event.Drain → turn.reply ≡ reply.Idle → lists net.things ≡ []
  idle_reached net turn r =
      subst (λ m. m.phase ≡ phase.Pausing → NoneCrossed m → Next m turn → turn.event ≡ event.Drain → turn.reply ≡ reply.Idle → lists m.things ≡ []) r.is
      (λ p free n e i. ap lists (idle_is_empty each head r.turns turn r.sound n p free e i).0)

  moves : (net : Net) (turn : Turn) → IsReached head net → net.phase ≡ phase.Pausing → NoneCrossed net → Next net turn → turn.event ≡ event.Drain → (lists net.things ≡ [] → ⊥) → drains_some turn ≡ true
  moves net turn r p free n e live = by (drain_moves net n.choice.keeps)
    where
      reply_is : turn.reply ≡ (drain_outcome net n.choice.keeps).reply
      reply_is = n.reply ∙ ap (λ (e : Event). (outcome net e n.choice).reply) e

      by : MovesOrIdles (drain_outcome net n.choice.keeps) → drains_some turn ≡ true
      by (inl m) = ap (λ (e : Event). is_drain e && is_moved turn.reply) e ∙ ap is_moved (reply_is ∙ m)
      by (inr i) = absurd (live (idle_reached net turn r p free n e (reply_is ∙ i.0)))

  -- where a list is live there is work to do
  live_work : (net : Net) → IsReached head net → net.phase ≡ phase.Pausing → NoneCrossed net → (lists net.things ≡ [] → ⊥) → 1 ≤ work net
  live_work net r p free live = by (drain_moves net false)
    where
      still : is_still net.phase ≡ true
      still = ap is_still p

      place : IsInPlace net
      place = in_place each head net some r (ap is_still p)

      by : MovesOrIdles (drain_outcome net false) → 1 ≤ work net
      by (inl m) =
          let less : work (after_rows net (drain_outcome net false).rows) + 1 ≤ work net = drain_lowers net false place (inr (loops_running net (still_runs net.phase still))) m in
          omega (arith, less)
      by (inr i) =
          let idle = idle_drain net false i.0 in
          let rests : Each (IsResting net) (lists net.things) = of_reached (λ m. Each (IsResting m) (lists m.things)) head net r (lists_rest head) in
          let young : Each (λ l. IsYounger l.list.0 l.origin) (lists net.things) = of_reached (λ m. Each (λ l. IsYounger l.list.0 l.origin) (lists m.things)) head net r (λ turns s. (lists_stand head turns s).younger) in
          absurd (live (idle_empty net (still_runs net.phase still) place rests young free idle.0 idle.1))

  -- what is left of a pause
  record Left (due : Bool) (net : Net) (front : ℕ) (more : List Turn) : Type 0 where
    most : length more + one_if due ≤ 2 * work net + (length net.modules.order + 2 - front)
    before : is_ended more ≡ false → length more + one_if due + 1 ≤ 2 * work net + (length net.modules.order + 2 - front)
    on : All (λ turn. goes_on turn.reply ≡ true) more

  abbrev EachLeft : List Turn → Type 0
  EachLeft more = (due : Bool) (net : Net) (front : ℕ) → IsReached head net → IsPausingFrom net front → NoneCrossed net → (due ≡ true → lists net.things ≡ [] → ⊥) → SoundFrom net more → PausesAndDrains due more → Left due net front more

  one_more : (turn : Turn) (more : List Turn) → goes_on turn.reply ≡ true → All (λ turn. goes_on turn.reply ≡ true) more → All (λ turn. goes_on turn.reply ≡ true) (turn ∷ more)
  one_more turn more h all = All-cons (λ (t : Turn). goes_on t.reply ≡ true) turn more h all

  none_left : (due : Bool) (net : Net) (front : ℕ) → IsReached head net → IsPausingFrom net front → NoneCrossed net → (due ≡ true → lists net.things ≡ [] → ⊥) → Left due net front []
  none_left true net front r h free live =
      let most = h.pausing.within in
      let busy = live_work net r h.phase free (live refl) in
      record { most = omega (arith, most); before = λ _. omega (arith, most, busy); on = All-nil (λ (t : Turn). goes_on t.reply ≡ true) }
  none_left false net front r h free live =
      let most = h.pausing.within in
      record { most = omega arith; before = λ _. omega (arith, most); on = All-nil (λ (t : Turn). goes_on t.reply ≡ true) }

  drain_left : (turn : Turn) (more : List Turn) → EachLeft more → (net : Net) (front : ℕ) → IsReached head net → IsPausingFrom net front → NoneCrossed net → (lists net.things ≡ [] → ⊥) → SoundFrom net (turn ∷ more) → PausesAndDrains true (turn ∷ more) → Left true net front (turn ∷ more)
  drain_left turn more rest net front r h free live s p =
      let still : is_still net.phase ≡ true = ap is_still h.phase in
      let d : IsDrained net (after_turn net turn) front = drained_turn head net front turn r h free s.0 p.0 in
      let less : one_if (drains_some turn) + work (after_turn net turn) ≤ work net = turn_lessens net turn (in_place each head net some r still) still s.0 (ap is_draining p.0) in
      let moved : drains_some turn ≡ true = moves net turn r h.phase free s.0 p.0 live in
      let one : one_if (drains_some turn) ≡ 1 = ap one_if moved in
      let later : Left false (after_turn net turn) front more = rest false (after_turn net turn) front (reached_next head net turn r s.0) d.at d.free (λ e. absurd (cc)) s.1 p.1 in
      let order : length (after_turn net turn).modules.order ≡ length net.modules.order = ap length d.order in
      let most = later.most in
      record {
        most = omega (arith, less, one, most, order);
        before = λ e. let before = later.before (or_none (ends_pause turn.reply) (is_ended more) e).1 in omega (arith, less, one, before, order);
        on = one_more turn more (moved_on turn.reply (and_last (is_drain turn.event) (is_moved turn.reply) moved)) later.on;
      }

  pause_left : (turn : Turn) (more : List Turn) → EachLeft more → (net : Net) (front : ℕ) → IsReached head net → IsPausingFrom net front → NoneCrossed net → SoundFrom net (turn ∷ more) → PausesAndDrains false (turn ∷ more) → Left false net front (turn ∷ more)
  pause_left turn more rest net front r h free s p = by (turn_steps net front turn h s.0 p.0)
    where
      waits : (next : Net) → next ≡ net → IsReached head next → SoundFrom next more → is_waiting_reply turn.reply ≡ true → (lists net.things ≡ [] → ⊥) → Left true net front more
      waits next e q t w live =
          subst (λ m. IsReached head m → SoundFrom m more → Left true net front more) (sym e)
          (λ q t. rest true net front q h free (λ _. live) t (subst (λ b. PausesAndDrains b more) w p.2)) q t

      by : Steps net front turn.reply turn.rows → Left false net front (turn ∷ more)
      by (inl w) =
          let later : Left true net front more = waits (after_turn net turn) (turn_after net turn p.0 ∙ ap (after_rows net) w.1) (reached_next head net turn r s.0) s.1 w.0 w.2 in
          let most = later.most in
          record {
            most = omega (arith, most);
            before = λ e. let before = later.before (or_none (ends_pause turn.reply) (is_ended more) e).1 in omega (arith, before);
            on = one_more turn more (waiting_on turn.reply w.0) later.on;
          }
      by (inr (inl e)) =
          let none : more ≡ [] = p.1 e in
          let size : length more ≡ 0 = ap length none in
          let within = h.pausing.within in
          record {
            most = omega (arith, size, within);
            before = λ f. absurd (not_both (ends_pause turn.reply) e (or_none (ends_pause turn.reply) (is_ended more) f).0);
            on = one_more turn more (ending_on turn.reply e) (subst (All (λ (t : Turn). goes_on t.reply ≡ true)) (sym none) (All-nil (λ (t : Turn). goes_on t.reply ≡ true)));
          }
      by (inr (inr g)) =
          let still : is_still net.phase ≡ true = ap is_still h.phase in
          let on : IsOn net (after_turn net turn) front = subst (λ m. IsOn net m front) (sym (turn_after net turn p.0)) g.1 in
          let less : one_if (drains_some turn) + work (after_turn net turn) ≤ work net = turn_lessens net turn (in_place each head net some r still) still s.0 (ap is_draining p.0) in
          let clear : NoneCrossed (after_turn net turn) = subst (λ (ts : List Thing). Each (λ l. is_crossed l.crossed ≡ false) (lists ts)) (sym on.things) free in
          let later : Left false (after_turn net turn) (front + 1) more =
          rest false (after_turn net turn) (front + 1) (reached_next head net turn r s.0) on.at clear (λ e. absurd (cc)) s.1 (subst (λ b. PausesAndDrains b more) (ap is_waiting_reply g.0) p.2) in
          let order : length (after_turn net turn).modules.order ≡ length net.modules.order = ap length on.order in
          let within = on.within in
          let most = later.most in
          record {
            most = omega (arith, less, most, order, within);
            before = λ e. let before = later.before (or_none (ends_pause turn.reply) (is_ended more) e).1 in omega (arith, less, before, order, within);
            on = one_more turn more (ap goes_on g.0) later.on;
          }

  left : (more : List Turn) → EachLeft more
  left [] due net front r h free live s p = none_left due net front r h free live
  left (turn ∷ more) true net front r h free live s p = drain_left turn more (left more) net front r h free (live refl) s p
  left (turn ∷ more) false net front r h free live s p = pause_left turn more (left more) net front r h free s p

pub pauses_in_time : EachInPlace → PausesInTime
pauses_in_time each head turns more s p free d =
    let net : Net = seen head turns in
    let some : 1 ≤ length head.bindings = some_binding head turns (sound_front head turns more s) p in
    let r : IsReached head net = reached_front head turns more s in
    let start = at_start head turns (sound_front head turns more s) p in
    let all : Left each head some false net start.0 more = left each head some more false net start.0 r start.1 free (λ e. absurd (cc)) (sound_rest head turns more s) d in
    let most = all.most in
    record { most = omega (arith, most); before = λ e. let before = all.before e in omega (arith, before); on = all.on }

-- a pause that begins
begins : (net : Net) → (begin_outcome net).reply ≡ reply.Ok → (after_rows net (begin_outcome net).rows).phase ≡ phase.Pausing
begins net =
    by_test (λ (o : Outcome). o.reply ≡ reply.Ok → (after_rows net o.rows).phase ≡ phase.Pausing) (phase_is_running net.phase) _ _
    (λ _ e. phase_states (after net (row.Phase (of.Stack phase.Pausing))) state.Pausing (binding_ids 0 net.modules.bindings))
    (λ _ e. cc)

pub pause_begins : PauseBegins
pause_begins net turn n e i =
    let is : after_turn net turn ≡ after_rows net (begin_outcome net).rows = turn_is net turn n ∙ ap (λ (e : Event). state_after net e (outcome net e n.choice)) e in
    let answer : (begin_outcome net).reply ≡ reply.Ok = sym (ap (λ (e : Event). (outcome net e n.choice).reply) e) ∙ sym n.reply ∙ i in
    ap (λ (m : Net). m.phase) is ∙ begins net answer
