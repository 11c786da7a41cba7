-- Each turn leaves the lists clear of what is Paused.
use Rattle.std.proofs.Common.{◌≡◌, ℕ, ◌+◌, ◌≤◌, Bool, true, false, List, [], ◌∷◌, ◌⊎◌, inl, inr, length, refl, arith, ap, sym, subst, ◌∙◌}
use Rattle.ndis_base.specs.declared.ModuleId.TheVariants.{Filter}
use Rattle.ndis_base.specs.declared.ModuleState.{ModuleState}
use Rattle.ndis_base.specs.declared.ModuleState.TheVariants as state
use Rattle.ndis_base.specs.declared.Phase.{Phase}
use Rattle.ndis_base.specs.declared.Phase.TheVariants as phase
use Rattle.journal_types.specs.declared.StackHead.{StackHead}
use Rattle.journal_types.specs.declared.Event.{Event}
use Rattle.journal_types.specs.declared.Turn.{Turn}
use Rattle.stack_rules.specs.declared.LiveList.{LiveList}
use Rattle.stack_rules.specs.declared.Choice.{Choice}
use Rattle.stack_rules.specs.Tests.{is_running, phase_is_running}
use Rattle.stack_rules.specs.Net.{Net, Modules, start, after_turn, after_turns, seen, lists, attached}
use Rattle.stack_rules.specs.Places.{position}
use Rattle.stack_rules.specs.Sound.{outcome, SoundFrom, Sound}
use Rattle.state_laws.specs.Shape.{state_at, StatesAre, IsWired, IsShaped}
use Rattle.state_laws.proofs.Rows.{IsSame}
use Rattle.state_laws.proofs.Quiet.{is_plain}
use Rattle.state_laws.proofs.Changes.{IsChanged, IsMove}
use Rattle.state_laws.proofs.Events.{state_after, at_phase, event_kept, plain_same, same_shape, turn_is, shaped_start}
use Rattle.state_laws.proofs.States.{attached_state, running_below}
use Rattle.pause_laws.specs.Clear.{AreClear, IsHeld}
use Rattle.pause_laws.specs.Laws.{PausedHoldsNothing, NothingIsLive}
use Rattle.state_laws.proofs.Tops.{paused_front}
use Rattle.pause_laws.proofs.Works.{Facts}
use Rattle.pause_laws.proofs.Pumps.{plain_clear}
use Rattle.pause_laws.proofs.Fronts.{none_counted, move_clear, none_live}

-- what the states tell, by the states of the positions
facts_by : (net : Net) (front many : ℕ) (states : ℕ → ModuleState) → IsWired net.next.filter net.modules → StatesAre many net.modules states → ((i : ℕ) → is_running (states i) ≡ true → front ≤ i) → (phase_is_running net.phase ≡ true → front ≡ 0) → Facts net front
facts_by net front many states w h below runs = record {
  distinct = w.distinct;
  filter = λ f a e r. below (position net.modules.order (Filter f)) (ap is_running (sym (attached_state many net.modules states f a w.within h e)) ∙ r);
  miniport = λ r. below (length net.modules.order + 1) (ap is_running (sym h.miniport) ∙ r);
  running = runs;
}

runs_not : (net : Net) (p : Phase) (front : ℕ) → net.phase ≡ p → phase_is_running p ≡ false → phase_is_running net.phase ≡ true → front ≡ 0
runs_not net p front e n r = absurd (cc (ap phase_is_running e, n, r))

facts_of : (net : Net) (s : IsShaped net) → Facts net s.front
facts_of net s = by net.phase refl
  where
    by : (p : Phase) → net.phase ≡ p → Facts net s.front
    by phase.Halted e =
        let f = at_phase net phase.Halted s e in
        record {
          distinct = f.0.distinct;
          filter = λ g a h r. absurd (cc (ap (attached g) f.0.filters, h));
          miniport = λ r. absurd (cc (ap is_running f.0.miniport, r));
          running = runs_not net phase.Halted s.front e refl;
        }
    by phase.Paused e =
        let f = at_phase net phase.Paused s e in
        facts_by net s.front (length net.head.bindings) (λ p. state.Paused) f.0 f.1.0 (λ i r. absurd (cc)) (runs_not net phase.Paused s.front e refl)
    by phase.Restarting e =
        let f = at_phase net phase.Restarting s e in
        facts_by net s.front (length net.head.bindings) (state_at s.front s.front) f.0 f.1.states (running_below s.front s.front) (runs_not net phase.Restarting s.front e refl)
    by phase.Running e =
        let f = at_phase net phase.Running s e in
        facts_by net s.front (length net.head.bindings) (state_at 0 0) f.0 f.1.0.states (λ i r. omega (arith, f.1.1)) (λ _. f.1.1)
    by phase.Pausing e =
        let f = at_phase net phase.Pausing s e in
        facts_by net s.front (length net.head.bindings) (state_at s.front (s.front + 1)) f.0 f.1.states (running_below s.front (s.front + 1)) (runs_not net phase.Pausing s.front e refl)

-- an event
plain_held : (net : Net) (e : Event) (c : Choice) → is_plain e ≡ true → IsHeld net → IsHeld (state_after net e (outcome net e c))
plain_held net e c p h =
    let next : Net = state_after net e (outcome net e c) in
    let same : IsSame net next = plain_same net e c p in
    record {
      shape = same_shape net next same h.shape;
      clear = subst (λ (ms : Modules). AreClear ms h.shape.front (lists next.things) next.next.list) (sym same.modules) (plain_clear net h.shape.front (facts_of net h.shape) e c p h.clear);
    }

nothing_clear : (ms : Modules) (front next : ℕ) (ls : List LiveList) → ls ≡ [] → AreClear ms front ls next
nothing_clear ms front next ls e = subst (λ ys. AreClear ms front ys next) (sym e) record { apart = tt; below = tt; each = tt }

changed_held : (net next : Net) (h : IsHeld net) → IsChanged net next h.shape → IsHeld next
changed_held net next h c = record {
  shape = c.shape;
  clear = subst (λ ts. AreClear next.modules c.shape.front (lists ts) next.next.list) (sym c.things) (subst (AreClear next.modules c.shape.front (lists net.things)) (sym c.list) (by c.kind));
}
  where
    by : (IsMove net next h.shape.front c.shape.front ⊎ (h.shape.front ≡ length net.modules.order + 2)) → AreClear next.modules c.shape.front (lists net.things) net.next.list
    by (inl m) = move_clear net next h.shape.front c.shape.front m h.clear
    by (inr e) = nothing_clear next.modules c.shape.front net.next.list (lists net.things) (none_live net.modules h.shape.front (lists net.things) e h.clear.each)

pub event_held : (net : Net) (e : Event) (c : Choice) → IsHeld net → IsHeld (state_after net e (outcome net e c))
event_held net e c h =
    let cases : (b : Bool) → is_plain e ≡ b → IsHeld (state_after net e (outcome net e c)) = elim [
      | true ↦ λ p. plain_held net e c p h
      | false ↦ λ p. changed_held net (state_after net e (outcome net e c)) h (event_kept net h.shape e c p)
    ] in
    cases (is_plain e) refl

pub held_start : (head : StackHead) → IsHeld (start head)
held_start head = record { shape = shaped_start head; clear = record { apart = tt; below = tt; each = tt } }

held_turns : (net : Net) (turns : List Turn) → IsHeld net → SoundFrom net turns → IsHeld (after_turns net turns)
held_turns net [] h s = h
held_turns net (turn ∷ turns) h s =
    held_turns (after_turn net turn) turns (subst IsHeld (sym (turn_is net turn s.0)) (event_held net turn.event s.0.choice h)) s.1

pub held_journal : (head : StackHead) (turns : List Turn) → Sound head turns → IsHeld (seen head turns)
held_journal head turns s = held_turns (start head) turns (held_start head) s

-- the laws
pub holds_nothing : (head : StackHead) (turns : List Turn) → Sound head turns → PausedHoldsNothing (seen head turns)
holds_nothing head turns s m e =
    let net : Net = seen head turns in
    let h : IsHeld net = held_journal head turns s in
    none_counted net.modules h.shape.front (position net.modules.order m) (lists net.things) (paused_front net h.shape m e) h.clear.each

pub none_while_paused : (head : StackHead) (turns : List Turn) → Sound head turns → (seen head turns).phase ≡ phase.Paused → NothingIsLive (seen head turns)
none_while_paused head turns s e =
    let net : Net = seen head turns in
    let h : IsHeld net = held_journal head turns s in
    none_live net.modules h.shape.front (lists net.things) (at_phase net phase.Paused h.shape e).1.1 h.clear.each

pub none_while_halted : (head : StackHead) (turns : List Turn) → Sound head turns → (seen head turns).phase ≡ phase.Halted → NothingIsLive (seen head turns)
none_while_halted head turns s e =
    let net : Net = seen head turns in
    let h : IsHeld net = held_journal head turns s in
    none_live net.modules h.shape.front (lists net.things) (at_phase net phase.Halted h.shape e).1 h.clear.each
