-- After each sound journal each list, status and filter stands in place.
use Rattle.std.proofs.Common.{◌≡◌, ℕ, ◌+◌, ◌≢◌, ◌==◌, ◌||◌, ◌⊎◌, inl, inr, Bool, true, false, List, [], ◌∷◌, ◌++◌, Option, Some, None, length, refl, arith, ap, sym, subst, ◌∙◌}
use Rattle.std.proofs.lemmas.Bool.Decides.{nat_tests}
use Rattle.std.proofs.lemmas.List.{length-replicate}
use Rattle.ndis_base.specs.declared.ModuleId.TheVariants.{Miniport, Filter, Binding}
use Rattle.ndis_base.specs.declared.ModuleState.{ModuleState}
use Rattle.ndis_base.specs.declared.ModuleState.TheVariants as state
use Rattle.ndis_base.specs.declared.Phase.{Phase}
use Rattle.ndis_base.specs.declared.Phase.TheVariants as phase
use Rattle.journal_types.specs.declared.PassWay.TheVariants as way
use Rattle.journal_types.specs.declared.Target.TheVariants.{Module, Bindings}
use Rattle.journal_types.specs.declared.StackHead.{StackHead}
use Rattle.journal_types.specs.declared.Event.{Event}
use Rattle.journal_types.specs.declared.Turn.{Turn}
use Rattle.stack_rules.specs.declared.Attached.{Attached}
use Rattle.stack_rules.specs.declared.Choice.{Choice}
use Rattle.stack_rules.specs.declared.LiveList.{LiveList}
use Rattle.stack_rules.specs.declared.Stand.{Stand}
use Rattle.stack_rules.specs.declared.Stand.TheVariants as stand
use Rattle.stack_rules.specs.Tests.{is_down, is_virtual}
use Rattle.stack_rules.specs.Net.{Net, Modules, start, after_turn, after_turns, seen, lists, list_of, attached, is_detached}
use Rattle.stack_rules.specs.Places.{state_in}
use Rattle.stack_rules.specs.Rewires.{is_in}
use Rattle.stack_rules.specs.Sound.{Next, outcome, SoundFrom, Sound}
use Rattle.rule_basics.proofs.Each.{Each-implies}
use Rattle.state_laws.specs.Shape.{state_at, FiltersAre, StatesAre, IsDistinct, IsShaped}
use Rattle.state_laws.proofs.Rows.{IsSame}
use Rattle.state_laws.proofs.Quiet.{is_plain}
use Rattle.state_laws.proofs.Takes.{attached-is, NoneDetached}
use Rattle.state_laws.proofs.Changes.{IsChanged, IsMove, none_at}
use Rattle.state_laws.proofs.Events.{state_after, at_phase, event_kept, plain_same, turn_is}
use Rattle.pause_laws.specs.Clear.{IsHeld}
use Rattle.pause_laws.proofs.Fronts.{none_live}
use Rattle.pause_laws.proofs.Turns.{held_journal}
use Rattle.place_laws.specs.Kept.{StandsPlaced, IsPlaced, HasOriginal}
use Rattle.place_laws.specs.Listed.{EachIsListed}
use Rattle.place_laws.proofs.Good.{StandsAt, cloned_from, IsWell, IsFrom, AreGood, good_none}
use Rattle.place_laws.proofs.Looks.{look}
use Rattle.place_laws.proofs.Statuses.{AllGoUp}
use Rattle.place_laws.proofs.Rows.{IsGood}
use Rattle.place_laws.proofs.Keepers.{Good, all_found}
use Rattle.place_laws.proofs.Events.{plain_leaves}

-- no filter is twice in the order
distinct_of : (net : Net) (s : IsShaped net) → IsDistinct net.modules.order
distinct_of net s = by net.phase refl
  where
    by : (p : Phase) → net.phase ≡ p → IsDistinct net.modules.order
    by phase.Halted e = (at_phase net phase.Halted s e).0.distinct
    by phase.Paused e = (at_phase net phase.Paused s e).0.distinct
    by phase.Restarting e = (at_phase net phase.Restarting s e).0.distinct
    by phase.Running e = (at_phase net phase.Running s e).0.distinct
    by phase.Pausing e = (at_phase net phase.Pausing s e).0.distinct

-- an event that changes no state of a module
plain_good : (net : Net) (e : Event) (c : Choice) → is_plain e ≡ true → IsHeld net → Good net net → Good (state_after net e (outcome net e c)) (state_after net e (outcome net e c))
plain_good net e c p h g =
    let next : Net = state_after net e (outcome net e c) in
    let same : IsSame net next = plain_same net e c p in
    let left : Good net next = plain_leaves net record { distinct = distinct_of net h.shape; apart = h.clear.apart; good = g } e c p in
    subst (λ (head : StackHead). IsGood next.modules.order (is_virtual head.kind) next) (sym same.head)
    (subst (λ (ms : Modules). IsGood ms.order (is_virtual net.head.kind) next) (sym same.modules) left)

-- an event that initialises, pauses, restarts, halts or rewires
changed_good : (net next : Net) (h : IsHeld net) → IsChanged net next h.shape → Good net net → Good next next
changed_good net next h c g = record {
  good = subst (λ (head : StackHead). AreGood next.modules.order (is_virtual head.kind) next.next.list (look next)) (sym c.head)
      (subst (λ n. AreGood next.modules.order (is_virtual net.head.kind) n (look next)) (sym c.list)
      (subst (λ ts. AreGood next.modules.order (is_virtual net.head.kind) net.next.list (λ n. list_of n (lists ts))) (sym c.things) (by c.kind)));
  statuses = subst AllGoUp (sym c.things) g.statuses;
}
  where
    by : (IsMove net next h.shape.front c.shape.front ⊎ (h.shape.front ≡ length net.modules.order + 2)) → AreGood next.modules.order (is_virtual net.head.kind) net.next.list (look net)
    by (inl m) = subst (λ order. AreGood order (is_virtual net.head.kind) net.next.list (look net)) (sym m.order) g.good
    by (inr e) =
        let none : lists net.things ≡ [] = none_live net.modules h.shape.front (lists net.things) e h.clear.each in
        good_none next.modules.order (is_virtual net.head.kind) net.next.list (look net) (λ n. ap (list_of n) none)

event_good : (net : Net) (e : Event) (c : Choice) → IsHeld net → Good net net → Good (state_after net e (outcome net e c)) (state_after net e (outcome net e c))
event_good net e c h g =
    let cases : (b : Bool) → is_plain e ≡ b → Good (state_after net e (outcome net e c)) (state_after net e (outcome net e c)) = elim [
      | true ↦ λ p. plain_good net e c p h g
      | false ↦ λ p. changed_good net (state_after net e (outcome net e c)) h (event_kept net h.shape e c p) g
    ] in
    cases (is_plain e) refl

event_head : (net : Net) (e : Event) (c : Choice) → IsHeld net → (state_after net e (outcome net e c)).head ≡ net.head
event_head net e c h =
    let cases : (b : Bool) → is_plain e ≡ b → (state_after net e (outcome net e c)).head ≡ net.head = elim [
      | true ↦ λ p. (plain_same net e c p).head
      | false ↦ λ p. (event_kept net h.shape e c p).head
    ] in
    cases (is_plain e) refl

-- one more turn at the end
turns-snoc : (net : Net) (before : List Turn) (turn : Turn) → after_turns net (before ++ turn ∷ []) ≡ after_turn (after_turns net before) turn
turns-snoc net [] turn = refl
turns-snoc net (t ∷ before) turn = turns-snoc (after_turn net t) before turn

sound-snoc : (net : Net) (before : List Turn) (turn : Turn) → SoundFrom net before → Next (after_turns net before) turn → SoundFrom net (before ++ turn ∷ [])
sound-snoc net [] turn s n = (n, tt)
sound-snoc net (t ∷ before) turn s n = (s.0, sound-snoc (after_turn net t) before turn s.1 n)

-- the state after a journal
record IsKept (head : StackHead) (net : Net) : Type 0 where
  before : List Turn
  sound : Sound head before
  at : seen head before ≡ net
  good : Good net net
  same : net.head ≡ head

held_of : (head : StackHead) (net : Net) → IsKept head net → IsHeld net
held_of head net k = subst IsHeld k.at (held_journal head k.before k.sound)

turn_kept : (head : StackHead) (net : Net) (turn : Turn) → Next net turn → IsKept head net → IsKept head (after_turn net turn)
turn_kept head net turn n k =
    let held : IsHeld net = held_of head net k in
    record {
      before = k.before ++ turn ∷ [];
      sound = sound-snoc (start head) k.before turn k.sound (subst (λ x. Next x turn) (sym k.at) n);
      at = turns-snoc (start head) k.before turn ∙ ap (λ x. after_turn x turn) k.at;
      good = subst (λ x. Good x x) (sym (turn_is net turn n)) (event_good net turn.event n.choice held k.good);
      same = ap (λ (x : Net). x.head) (turn_is net turn n) ∙ event_head net turn.event n.choice held ∙ k.same;
    }

kept_turns : (head : StackHead) (net : Net) (turns : List Turn) → IsKept head net → SoundFrom net turns → IsKept head (after_turns net turns)
kept_turns head net [] k s = k
kept_turns head net (turn ∷ turns) k s = kept_turns head (after_turn net turn) turns (turn_kept head net turn s.0 k) s.1

kept_start : (head : StackHead) → IsKept head (start head)
kept_start head = record {
  before = [];
  sound = tt;
  at = refl;
  good = record { good = good_none [] (is_virtual head.kind) 1 (λ n. list_of n []) (λ n. refl); statuses = tt };
  same = refl;
}

-- filters whose states are known are attached
attached_of : (states : ℕ → ModuleState) (entries : List Attached) (f p : ℕ) (fs : List ℕ) → NoneDetached states → FiltersAre states entries p fs → is_in f fs ≡ true → (a : Attached) × (attached f entries ≡ Some a) × (a.filter ≡ f)
attached_of states entries f p [] d h i = cc
attached_of states entries f p (g ∷ fs) d h i =
    let cases : (b : Bool) → (g == f) ≡ b → (b || is_in f fs) ≡ true → (a : Attached) × (attached f entries ≡ Some a) × (a.filter ≡ f) = elim [
      | true ↦ λ t i. let same : g ≡ f = grind (arith, nat_tests) in here (attached f entries) refl (ap (λ x. state_in (attached x entries)) (sym same) ∙ h.0)
      | false ↦ λ t i. attached_of states entries f (p + 1) fs d h.1 i
    ] in
    cases (g == f) refl i
  where
    here : (o : Option Attached) → attached f entries ≡ o → state_in (attached f entries) ≡ states p → (a : Attached) × (attached f entries ≡ Some a) × (a.filter ≡ f)
    here None e s = absurd (not_detached (states p) (sym (ap state_in e) ∙ s) (d p))
      where
        not_detached : (x : ModuleState) → state.Detached ≡ x → is_detached x ≡ false → ⊥
        not_detached x e d = cc (ap is_detached e, d)
    here (Some a) e s = (a, e, attached-is f entries a e)

-- the states of a stack that isn't Halted
record HasStates (net : Net) : Type 0 where
  states : ℕ → ModuleState
  none : NoneDetached states
  are : StatesAre (length net.head.bindings) net.modules states

states_of : (net : Net) (s : IsShaped net) → net.phase ≢ phase.Halted → HasStates net
states_of net s other = by net.phase refl
  where
    by : (p : Phase) → net.phase ≡ p → HasStates net
    by phase.Halted e = absurd (other e)
    by phase.Paused e = record { states = λ i. state.Paused; none = λ i. refl; are = (at_phase net phase.Paused s e).1.0 }
    by phase.Restarting e = record { states = state_at s.front s.front; none = none_at s.front s.front; are = (at_phase net phase.Restarting s e).1.states }
    by phase.Running e = record { states = state_at 0 0; none = none_at 0 0; are = (at_phase net phase.Running s e).1.0.states }
    by phase.Pausing e = record { states = state_at s.front (s.front + 1); none = none_at s.front (s.front + 1); are = (at_phase net phase.Pausing s e).1.states }

-- what is kept says where each list stands
stands_of : (ms : Modules) (l : LiveList) (s : Stand) → StandsAt ms.order (is_down l.direction) l.owner s → StandsPlaced ms l s
stands_of ms l stand.Unplaced h = tt
stands_of ms l (stand.Kept Miniport) h = h
stands_of ms l (stand.Kept (Filter f)) h = h.there
stands_of ms l (stand.Kept (Binding b)) h = h
stands_of ms l (stand.Passed way.Down (Module Miniport)) h = h
stands_of ms l (stand.Passed way.Down (Module (Filter f))) h = (h.0, h.1.there)
stands_of ms l (stand.Passed way.Down (Module (Binding b))) h = h
stands_of ms l (stand.Passed way.Down Bindings) h = h
stands_of ms l (stand.Passed way.Up Bindings) h = h
stands_of ms l (stand.Passed way.Up (Module (Filter f))) h = (h.0, h.1.there)
stands_of ms l (stand.Passed way.Up (Module Miniport)) h = h
stands_of ms l (stand.Passed way.Up (Module (Binding b))) h = h
stands_of ms l (stand.Passed (way.Done status) (Module m)) h = h
stands_of ms l (stand.Passed (way.Done status) Bindings) h = h
stands_of ms l (stand.Passed (way.Back status) (Module m)) h = h
stands_of ms l (stand.Passed (way.Back status) Bindings) h = h

placed_of : (net : Net) → Good net net → (l : LiveList) → look net l.list.0 ≡ Some l → IsPlaced net l
placed_of net g l f =
    let w : IsWell net.modules.order (is_virtual net.head.kind) l = g.good.well l.list.0 l f in
    record { down = w.down; up = w.up; stands = stands_of net.modules l l.stand w.stands; crossed = w.crossed }

original_of : (net : Net) → Good net net → (c : LiveList) → look net c.list.0 ≡ Some c → HasOriginal net c
original_of net g c f o l made e =
    let w : IsFrom net.modules.order (is_virtual net.head.kind) c l = g.good.from c.list.0 o.0 c l f (ap cloned_from made) e in
    record { kept = w.kept; filter = w.filter; same = w.same; down = w.down; up = w.up }

-- the law
pub lists_stand : EachIsListed
lists_stand head turns s bound other =
    let net : Net = seen head turns in
    let k : IsKept head net = kept_turns head (start head) turns (kept_start head) s in
    let held : IsHeld net = held_journal head turns s in
    let has : HasStates net = states_of net held.shape other in
    let many : length net.head.bindings ≡ length head.bindings = ap (λ (h : StackHead). length h.bindings) k.same in
    let all : length net.modules.bindings ≡ length net.head.bindings = ap length has.are.bindings ∙ length-replicate (length net.head.bindings) (has.states 0) in
    record {
      bound = omega (arith, bound, many, all);
      ordered = record { distinct = distinct_of net held.shape; attached = λ f i. attached_of has.states net.modules.filters f 1 net.modules.order has.none has.are.filters i };
      numbered = record { apart = held.clear.apart; below = held.clear.below };
      placed = Each-implies (λ l. look net l.list.0 ≡ Some l) (IsPlaced net) (placed_of net k.good) (lists net.things) (all_found (lists net.things) held.clear.apart);
      originals = Each-implies (λ l. look net l.list.0 ≡ Some l) (HasOriginal net) (original_of net k.good) (lists net.things) (all_found (lists net.things) held.clear.apart);
      statuses = k.good.statuses;
    }
