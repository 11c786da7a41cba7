-- While a stack pauses its drains lower the work and nothing else adds to it.
use Rattle.std.proofs.Common.{◌≡◌, ℕ, ◌+◌, ◌&&◌, ◌≤◌, ◌==◌, Bool, true, false, List, [], ◌∷◌, ◌++◌, Option, Some, None, length, nat_lt, slice_index_or, count_by, refl, arith, ap, sym, subst, ◌∙◌, ◌⊎◌, inl, inr}
use Rattle.std.specs.List.{All}
use Rattle.std.proofs.lemmas.List.Elements.{All-head, All-tail}
use Rattle.ndis_base.specs.declared.ModuleId.{ModuleId}
use Rattle.ndis_base.specs.declared.ModuleState.{ModuleState}
use Rattle.ndis_base.specs.declared.ModuleState.TheVariants as state
use Rattle.ndis_base.specs.declared.Phase.{Phase}
use Rattle.ndis_base.specs.declared.Phase.TheVariants as phase
use Rattle.journal_types.specs.declared.Event.{Event}
use Rattle.journal_types.specs.declared.Event.TheVariants as event
use Rattle.journal_types.specs.declared.Reply.{Reply}
use Rattle.journal_types.specs.declared.Reply.TheVariants as reply
use Rattle.journal_types.specs.declared.Row.{Row}
use Rattle.journal_types.specs.declared.StackHead.{StackHead}
use Rattle.journal_types.specs.declared.Turn.{Turn}
use Rattle.stack_rules.specs.declared.Choice.{Choice}
use Rattle.stack_rules.specs.declared.Thing.{Thing}
use Rattle.stack_rules.specs.Tests.{phase_is_running, phase_is_pausing}
use Rattle.stack_rules.specs.Net.{Net, after, after_rows, after_turn, told, seen}
use Rattle.stack_rules.specs.Places.{outstanding, agenda_first}
use Rattle.stack_rules.specs.Outcome.{Outcome}
use Rattle.stack_rules.specs.Pauses.{floors, state_row, state_rows, first_unpaused, paused_rows, pause_outcome}
use Rattle.stack_rules.specs.Pumps.{request_pump, pump_of, is_pump_moving, pump_outcome}
use Rattle.stack_rules.specs.Requests.{Giving, next_giving}
use Rattle.stack_rules.specs.Drains.{drain_rows, drained, drain_outcome}
use Rattle.stack_rules.specs.Sound.{outcome, Next, SoundFrom}
use Rattle.stack_rules.specs.Work.{work}
use Rattle.rule_basics.proofs.Counts.{one_if, count_by-cons}
use Rattle.home_laws.proofs.Known.{by_test}
use Rattle.home_laws.proofs.Standing.{sound_front}
use Rattle.state_laws.proofs.Rows.{after_rows-append}
use Rattle.state_laws.proofs.Events.{state_after, plain_same, turn_is}
use Rattle.place_laws.specs.Kept.{IsInPlace}
use Rattle.work_laws.specs.Bounds.{is_drain}
use Rattle.work_laws.specs.InPlace.{EachInPlace}
use Rattle.work_laws.proofs.Adds.{AddsAtMost, pause_adds}
use Rattle.work_laws.proofs.Filters.{Lowers}
use Rattle.work_laws.proofs.Drains.{drain_lowers, loops_running}
use Rattle.drain_laws.specs.Drains.{is_draining, is_moved, drains_some, DrainsAreBounded}
use Rattle.drain_laws.proofs.Reached.{IsReached, reached_front, reached_next, some_binding, sound_rest}

-- a drain moves something, or is idle and leaves all as it is
abbrev pub MovesOrIdles : Outcome → Type 0
MovesOrIdles o = (o.reply ≡ reply.Moved) ⊎ ((o.reply ≡ reply.Idle) × (o.rows ≡ []))

request_moves : (net : Net) (g : Option Giving) → MovesOrIdles (request_pump net g)
request_moves net None = inr (refl, refl)
request_moves net (Some g) = inl refl

pump_of_moves : (net : Net) (keeps : Bool) (t : Option Thing) → MovesOrIdles (pump_of net keeps t)
pump_of_moves net keeps None = request_moves net (next_giving net)
pump_of_moves net keeps (Some t) = inl refl

drained_moves : (rows : List Row) → MovesOrIdles (drained rows)
drained_moves [] = inr (refl, refl)
drained_moves (r ∷ rows) = inl refl

pub drain_moves : (net : Net) (keeps : Bool) → MovesOrIdles (drain_outcome net keeps)
drain_moves net keeps =
    by_test MovesOrIdles (is_pump_moving net) (pump_outcome net keeps) (drained (drain_rows net)) (λ _. pump_of_moves net keeps (agenda_first net)) (λ _. drained_moves (drain_rows net))

-- the stack pauses or is Paused
abbrev pub is_still : Phase → Bool
is_still phase.Pausing = true
is_still phase.Paused = true
is_still _ = false

pub still_runs : (p : Phase) → is_still p ≡ true → phase_is_running p ≡ false
still_runs phase.Pausing h = refl
still_runs phase.Paused h = refl
still_runs _ h = cc

pub still_there : (p : Phase) → is_still p ≡ true → p ≡ phase.Halted → ⊥
still_there phase.Halted h e = cc
still_there _ h e = cc

-- modules that take a state leave the phase
pub phase_states : (net : Net) (s : ModuleState) (ms : List ModuleId) → (after_rows net (state_rows (s ∷ []) ms)).phase ≡ net.phase
phase_states net s [] = refl
phase_states net s (m ∷ ms) = phase_states (after net (state_row s m)) s ms

abbrev StillAfter : Net → Outcome → Type 0
StillAfter net o = is_still (after_rows net o.rows).phase ≡ true

pause_still : (net : Net) → is_still net.phase ≡ true → StillAfter net (pause_outcome net)
pause_still net h =
    let i : ℕ = first_unpaused net in
    by_test (StillAfter net) (phase_is_pausing net.phase) _ _
    (λ _. by_test (StillAfter net) (outstanding net i == 0) _ _ (λ _. rows i) (λ _. h))
    (λ _. h)
  where
    rows : (i : ℕ) → is_still (after_rows net (paused_rows net i)).phase ≡ true
    rows i =
        let first : List Row = state_rows (state.Paused ∷ []) (slice_index_or (floors net.modules) i []) in
        let mid : Net = after_rows net first in
        let same : is_still mid.phase ≡ true = ap is_still (phase_states net state.Paused (slice_index_or (floors net.modules) i [])) ∙ h in
        by_test (λ last. is_still (after_rows net (first ++ last)).phase ≡ true) (nat_lt (i + 1) (length (floors net.modules))) _ _
        (λ _. ap (λ n. is_still n.phase) (after_rows-append net first _) ∙ (ap is_still (phase_states mid state.Pausing (slice_index_or (floors net.modules) (i + 1) [])) ∙ same))
        (λ _. ap (λ n. is_still n.phase) (after_rows-append net first _))

event_still : (net : Net) (e : Event) (c : Choice) → is_draining e ≡ true → is_still net.phase ≡ true → is_still (state_after net e (outcome net e c)).phase ≡ true
event_still net event.Drain c d h = ap is_still (plain_same net event.Drain c refl).phase ∙ h
event_still net event.PauseNext c d h = pause_still net h
event_still net _ c d h = cc

pub turn_still : (net : Net) (turn : Turn) → Next net turn → is_draining turn.event ≡ true → is_still net.phase ≡ true → is_still (after_turn net turn).phase ≡ true
turn_still net turn n d h = ap (λ m. is_still m.phase) (turn_is net turn n) ∙ event_still net turn.event n.choice d h

one_most : (b : Bool) → one_if b ≤ 1
one_most true = omega arith
one_most false = omega arith

-- a turn's work, and one more where a drain moves something
abbrev Lessens : Net → Event → Reply → List Row → Type 0
Lessens net e r rows = one_if (is_drain e && is_moved r) + work (after_rows (told net e r) rows) ≤ work net

drain_lessens : (net : Net) (r : Reply) (rows : List Row) (choice : Choice) → IsInPlace net → is_still net.phase ≡ true → r ≡ (drain_outcome net choice.keeps).reply → rows ≡ (drain_outcome net choice.keeps).rows → Lessens net event.Drain r rows
drain_lessens net r rows choice h s a b = by (drain_moves net choice.keeps)
  where
    by : MovesOrIdles (drain_outcome net choice.keeps) → Lessens net event.Drain r rows
    by (inl m) =
        let less : work (after_rows net rows) + 1 ≤ work net = subst (Lowers net) (sym b) (drain_lowers net choice.keeps h (inr (loops_running net (still_runs net.phase s))) m) in
        let most = one_most (is_moved r) in
        omega (arith, less, most)
    by (inr i) =
        let idle : is_moved r ≡ false = ap is_moved (a ∙ i.0) in
        let same : work (after_rows net rows) ≤ work net = subst (λ rs. work (after_rows net rs) ≤ work net) (sym (b ∙ i.1)) (omega arith) in
        rw idle (omega (arith, same))

event_lessens : (net : Net) (e : Event) (r : Reply) (rows : List Row) (choice : Choice) → IsInPlace net → is_still net.phase ≡ true → is_draining e ≡ true → r ≡ (outcome net e choice).reply → rows ≡ (outcome net e choice).rows → Lessens net e r rows
event_lessens net event.Drain r rows choice h s d a b = drain_lessens net r rows choice h s a b
event_lessens net event.PauseNext r rows choice h s d a b =
    let least : work (after_rows net rows) ≤ work net + 0 = subst (AddsAtMost net 0) (sym b) (pause_adds net) in
    omega (arith, least)
event_lessens net _ r rows choice h s d a b = cc

pub turn_lessens : (net : Net) (turn : Turn) → IsInPlace net → is_still net.phase ≡ true → Next net turn → is_draining turn.event ≡ true → one_if (drains_some turn) + work (after_turn net turn) ≤ work net
turn_lessens net turn h s n d = event_lessens net turn.event turn.reply turn.rows n.choice h s d n.reply n.rows

-- everything stands in its place where a stack is still
pub in_place : EachInPlace → (head : StackHead) (net : Net) → 1 ≤ length head.bindings → IsReached head net → is_still net.phase ≡ true → IsInPlace net
in_place each head net some r s =
    subst IsInPlace r.is (each head r.turns r.sound some (still_there (seen head r.turns).phase (ap (λ m. is_still m.phase) r.is ∙ s)))

bounded : EachInPlace → (head : StackHead) → 1 ≤ length head.bindings → (net : Net) (more : List Turn) → IsReached head net → is_still net.phase ≡ true → SoundFrom net more → All (λ turn. is_draining turn.event ≡ true) more → count_by drains_some more ≤ work net
bounded each head some net [] r s n d = omega arith
bounded each head some net (turn ∷ more) r s n d =
    let here : is_draining turn.event ≡ true = All-head (λ t. is_draining t.event ≡ true) turn more d in
    let first = turn_lessens net turn (in_place each head net some r s) s n.0 here in
    let rest = bounded each head some (after_turn net turn) more (reached_next head net turn r n.0) (turn_still net turn n.0 here s) n.1 (All-tail (λ t. is_draining t.event ≡ true) turn more d) in
    let whole = count_by-cons drains_some turn more in
    omega (arith, first, rest, whole)

pub drains_bounded : EachInPlace → DrainsAreBounded
drains_bounded each head turns more s p d =
    bounded each head (some_binding head turns (sound_front head turns more s) p) (seen head turns) more (reached_front head turns more s) (ap is_still p) (sound_rest head turns more s) d
