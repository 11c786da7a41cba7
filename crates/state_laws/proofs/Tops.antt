-- The Paused modules are at the top.
use Rattle.std.proofs.Common.{◌≡◌, ℕ, ◌+◌, ◌<◌, ◌≤◌, ◌==◌, true, false, cond, List, [], ◌∷◌, Option, Some, None, length, get_or, replicate, refl, arith, ap, sym, ◌∙◌}
use Rattle.std.proofs.lemmas.Bool.Decides.{nat_tests}
use Rattle.std.proofs.lemmas.List.{get_or-replicate, length-replicate}
use Rattle.ndis_base.specs.declared.ModuleId.{ModuleId}
use Rattle.ndis_base.specs.declared.ModuleId.TheVariants.{Miniport, Filter, Binding}
use Rattle.ndis_base.specs.declared.ModuleState.{ModuleState}
use Rattle.ndis_base.specs.declared.ModuleState.TheVariants as state
use Rattle.ndis_base.specs.declared.Phase.{Phase}
use Rattle.ndis_base.specs.declared.Phase.TheVariants as phase
use Rattle.journal_types.specs.declared.StackHead.{StackHead}
use Rattle.journal_types.specs.declared.Turn.{Turn}
use Rattle.stack_rules.specs.declared.Attached.{Attached}
use Rattle.stack_rules.specs.Tests.{is_paused, is_running}
use Rattle.stack_rules.specs.Net.{Net, attached, seen}
use Rattle.stack_rules.specs.Places.{above, position, state_of, state_in}
use Rattle.stack_rules.specs.Sound.{Sound}
use Rattle.state_laws.specs.Shape.{state_at, StatesAre, IsWired, IsShaped}
use Rattle.state_laws.specs.Laws.{AllAre, IsThere, PausedFromTheTop, RunsAsItsBindings}
use Rattle.state_laws.proofs.Takes.{StatesAre-same}
use Rattle.state_laws.proofs.Events.{at_phase, shaped_journal}
use Rattle.state_laws.proofs.States.{filter_at, attached_state, binding_state, paused_above}

-- no module is below the miniport
above_most : (f : ℕ) (fs : List ℕ) → above f fs ≤ length fs
above_most f [] = omega arith
above_most f (g ∷ fs) = let rest = above_most f fs in elim (g == f) as (λ b. cond b 0 (above f fs + 1) ≤ length (g ∷ fs)) [ true ↦ omega arith | false ↦ omega (arith, rest) ]

pub position_most : (order : List ℕ) (m : ModuleId) → position order m ≤ length order + 1
position_most order Miniport = omega arith
position_most order (Binding b) = omega arith
position_most order (Filter f) = omega (arith, above_most f order)

-- a module that is Paused is above the front
paused_by : (net : Net) (front many : ℕ) (states : ℕ → ModuleState) → IsWired net.next.filter net.modules → StatesAre many net.modules states → ((i : ℕ) → i ≤ length net.modules.order + 1 → is_paused (states i) ≡ true → i < front) → (m : ModuleId) → state_of net m ≡ state.Paused → position net.modules.order m < front
paused_by net front many states w h above_front Miniport e = above_front (length net.modules.order + 1) (omega arith) (ap is_paused (sym h.miniport ∙ e))
paused_by net front many states w h above_front (Binding b) e =
    above_front 0 (omega arith) (ap is_paused (sym (binding_state many net.modules.bindings (states 0) b h.bindings (ap is_paused e)) ∙ e))
paused_by net front many states w h above_front (Filter f) e = at (attached f net.modules.filters) refl
  where
    at : (o : Option Attached) → attached f net.modules.filters ≡ o → position net.modules.order (Filter f) < front
    at None is = absurd (cc (sym (ap state_in is) ∙ e))
    at (Some a) is =
        let same : a.state ≡ state.Paused = sym (ap state_in is) ∙ e in
        above_front (position net.modules.order (Filter f)) (position_most net.modules.order (Filter f)) (ap is_paused (sym (attached_state many net.modules states f a w.within h is) ∙ same))

-- nothing is Paused in a stack that is Halted
halted_not : (net : Net) (s : IsShaped net) (m : ModuleId) → net.phase ≡ phase.Halted → state_of net m ≡ state.Paused → ⊥
halted_not net s Miniport e q = let f = at_phase net phase.Halted s e in cc (sym f.0.miniport ∙ q)
halted_not net s (Binding b) e q =
    let f = at_phase net phase.Halted s e in
    cc (ap is_paused (sym (binding_state (length net.head.bindings) net.modules.bindings state.Unbound b f.0.bindings (ap is_paused q)) ∙ q))
halted_not net s (Filter g) e q = let f = at_phase net phase.Halted s e in cc (sym (ap (λ entries. state_in (attached g entries)) f.0.filters) ∙ q)

pub paused_front : (net : Net) (s : IsShaped net) (m : ModuleId) → state_of net m ≡ state.Paused → position net.modules.order m < s.front
paused_front net s m q = by net.phase refl
  where
    by : (p : Phase) → net.phase ≡ p → position net.modules.order m < s.front
    by phase.Halted e = absurd (halted_not net s m e q)
    by phase.Paused e =
        let f = at_phase net phase.Paused s e in
        paused_by net s.front (length net.head.bindings) (λ p. state.Paused) f.0 f.1.0 (λ i a r. omega (arith, a, f.1.1)) m q
    by phase.Restarting e =
        let f = at_phase net phase.Restarting s e in
        paused_by net s.front (length net.head.bindings) (state_at s.front s.front) f.0 f.1.states (λ i a r. paused_above s.front s.front i r) m q
    by phase.Running e =
        let f = at_phase net phase.Running s e in
        paused_by net s.front (length net.head.bindings) (state_at 0 0) f.0 f.1.0.states (λ i a r. omega (arith, paused_above 0 0 i r)) m q
    by phase.Pausing e =
        let f = at_phase net phase.Pausing s e in
        paused_by net s.front (length net.head.bindings) (state_at s.front (s.front + 1)) f.0 f.1.states (λ i a r. paused_above s.front (s.front + 1) i r) m q

-- a module of the configuration has the state of its position
there_state : (net : Net) (many : ℕ) (states : ℕ → ModuleState) (m : ModuleId) → StatesAre many net.modules states → IsThere net m → state_of net m ≡ states (position net.modules.order m)
there_state net many states Miniport h t = h.miniport
there_state net many states (Filter f) h t =
    let at : 1 + above f net.modules.order ≡ position net.modules.order (Filter f) = omega arith in
    filter_at states net.modules.filters 1 f net.modules.order h.filters t ∙ ap states at
there_state net many states (Binding b) h t =
    let few : b < many = omega (arith, t, ap length h.bindings, length-replicate many (states 0)) in
    ap (λ ss. get_or ss b state.Unbound) h.bindings ∙ get_or-replicate many b (states 0) state.Unbound few

above_is : (q r i : ℕ) → i < q → state_at q r i ≡ state.Paused
above_is q r i h = grind (arith, nat_tests)

front_paused : (net : Net) (s : IsShaped net) (m below : ModuleId) → state_of net below ≡ state.Paused → IsThere net m → position net.modules.order m < s.front → state_of net m ≡ state.Paused
front_paused net s m below q t a = by net.phase refl
  where
    by : (p : Phase) → net.phase ≡ p → state_of net m ≡ state.Paused
    by phase.Halted e = absurd (halted_not net s below e q)
    by phase.Paused e = let f = at_phase net phase.Paused s e in there_state net (length net.head.bindings) (λ p. state.Paused) m f.1.0 t
    by phase.Restarting e =
        let f = at_phase net phase.Restarting s e in
        there_state net (length net.head.bindings) (state_at s.front s.front) m f.1.states t ∙ above_is s.front s.front (position net.modules.order m) a
    by phase.Running e = let f = at_phase net phase.Running s e in absurd (omega (arith, a, f.1.1))
    by phase.Pausing e =
        let f = at_phase net phase.Pausing s e in
        there_state net (length net.head.bindings) (state_at s.front (s.front + 1)) m f.1.states t ∙ above_is s.front (s.front + 1) (position net.modules.order m) a

-- the laws
pub from_the_top : (head : StackHead) (turns : List Turn) → Sound head turns → PausedFromTheTop (seen head turns)
from_the_top head turns h m higher q t a =
    let net : Net = seen head turns in
    let s : IsShaped net = shaped_journal head turns h in
    front_paused net s higher m q t (omega (arith, a, paused_front net s m q))

pub all_paused : (head : StackHead) (turns : List Turn) → Sound head turns → (seen head turns).phase ≡ phase.Paused → AllAre state.Paused (seen head turns)
all_paused head turns h e = (at_phase (seen head turns) phase.Paused (shaped_journal head turns h) e).1.0

pub all_running : (head : StackHead) (turns : List Turn) → Sound head turns → (seen head turns).phase ≡ phase.Running → AllAre state.Running (seen head turns)
all_running head turns h e =
    let net : Net = seen head turns in
    StatesAre-same (state_at 0 0) (λ p. state.Running) (length net.head.bindings) net.modules (λ i a. runs i) (at_phase net phase.Running (shaped_journal head turns h) e).1.0.states
  where
    runs : (i : ℕ) → state_at 0 0 i ≡ state.Running
    runs i = grind (arith, nat_tests)

-- bindings that run are those of a stack that runs
running_phase : (net : Net) (s : IsShaped net) → 0 < length net.head.bindings → net.modules.bindings ≡ replicate (length net.head.bindings) state.Running → net.phase ≡ phase.Running
running_phase net s some b = by net.phase refl
  where
    same : (t : ModuleState) → net.modules.bindings ≡ replicate (length net.head.bindings) t → state.Running ≡ t
    same t e =
        sym (get_or-replicate (length net.head.bindings) 0 state.Running state.Unbound some) ∙ ap (λ ss. get_or ss 0 state.Unbound) (sym b ∙ e) ∙ get_or-replicate (length net.head.bindings) 0 t state.Unbound some

    top : (q : ℕ) → is_running (state_at q (q + 1) 0) ≡ false
    top q = grind (arith, nat_tests)

    by : (p : Phase) → net.phase ≡ p → net.phase ≡ phase.Running
    by phase.Running e = e
    by phase.Halted e = let f = at_phase net phase.Halted s e in absurd (cc (same state.Unbound f.0.bindings))
    by phase.Paused e = let f = at_phase net phase.Paused s e in absurd (cc (same state.Paused f.1.0.bindings))
    by phase.Restarting e =
        let f = at_phase net phase.Restarting s e in
        let is : state.Running ≡ state.Paused = same (state_at s.front s.front 0) f.1.states.bindings ∙ above_is s.front s.front 0 f.1.some in
        absurd (cc is)
    by phase.Pausing e =
        let f = at_phase net phase.Pausing s e in
        let is : true ≡ false = ap is_running (same (state_at s.front (s.front + 1) 0) f.1.states.bindings) ∙ top s.front in
        absurd (cc is)

pub runs_as_bindings : (head : StackHead) (turns : List Turn) → Sound head turns → RunsAsItsBindings (seen head turns)
runs_as_bindings head turns h some = ((λ e. (all_running head turns h e).bindings), (λ b. running_phase (seen head turns) (shaped_journal head turns h) some b))
