-- Each event keeps the shape.
use Rattle.std.proofs.Common.{◌≡◌, ℕ, ◌+◌, ◌==◌, ◌||◌, Bool, true, false, List, [], ◌∷◌, ◌++◌, length, refl, subst, sym, ap, ◌∙◌, arith, if◌then◌else◌}
use Rattle.std.proofs.lemmas.Bool.Decides.{nat_tests}
use Rattle.journal_types.specs.declared.PhaseOf.TheVariants as of
use Rattle.journal_types.specs.declared.Row.TheVariants as row
use Rattle.ndis_base.specs.declared.FilterKind.{FilterKind}
use Rattle.ndis_base.specs.declared.Phase.{Phase}
use Rattle.ndis_base.specs.declared.Phase.TheVariants as phase
use Rattle.ndis_base.specs.declared.ModuleState.TheVariants as state
use Rattle.journal_types.specs.declared.Setup.{Setup}
use Rattle.journal_types.specs.declared.StackHead.{StackHead}
use Rattle.journal_types.specs.declared.Reply.{Reply}
use Rattle.journal_types.specs.declared.Reply.TheVariants as reply
use Rattle.journal_types.specs.declared.Event.{Event}
use Rattle.journal_types.specs.declared.Event.TheVariants as event
use Rattle.journal_types.specs.declared.Turn.{Turn}
use Rattle.stack_rules.specs.declared.Choice.{Choice}
use Rattle.stack_rules.specs.Tests.{phase_is_halted, phase_is_paused, phase_is_running, phase_is_pausing, phase_is_restarting}
use Rattle.stack_rules.specs.Net.{Net, Modules, start, told, after, after_rows, after_turn, after_turns, seen}
use Rattle.stack_rules.specs.Outcome.{Outcome, max_filters}
use Rattle.stack_rules.specs.Places.{outstanding}
use Rattle.stack_rules.specs.Pauses.{initialize_outcome, begin_outcome, pause_outcome, first_unpaused, restart_outcome, restart_rows, running_floors, is_top, halt_outcome, halt_items, live_items}
use Rattle.stack_rules.specs.Rewires.{is_in, is_bad_position, insert_outcome, remove_outcome, replace_outcome}
use Rattle.stack_rules.specs.Sound.{outcome, Next, SoundFrom, Sound}
use Rattle.state_laws.specs.Shape.{state_at, StatesAre, IsPausing, Fits, IsShaped}
use Rattle.state_laws.proofs.Rows.{by_test, IsSame, same-refl, same-then, quiet_rows}
use Rattle.state_laws.proofs.Quiet.{is_plain, quiet_event}
use Rattle.state_laws.proofs.Takes.{StatesAre-same}
use Rattle.state_laws.proofs.Floors.{first_unpaused_is}
use Rattle.state_laws.proofs.Changes.{IsChanged, unchanged, fitted}
use Rattle.state_laws.proofs.Phases.{begun, paused_step, restart_of, restart_by, all_paused_at}
use Rattle.state_laws.proofs.Halts.{initialized, halted}
use Rattle.state_laws.proofs.Rewires.{was_inserted, was_removed, was_replaced}

-- the shape at a phase
pub at_phase : (net : Net) (p : Phase) (s : IsShaped net) → net.phase ≡ p → Fits (length net.head.bindings) net.next.filter net.modules s.front p
at_phase net p s e = subst (Fits (length net.head.bindings) net.next.filter net.modules s.front) e s.fits

pub when_halted : (p : Phase) → phase_is_halted p ≡ true → p ≡ phase.Halted
when_halted phase.Halted h = refl
when_halted _ h = cc

pub when_paused : (p : Phase) → phase_is_paused p ≡ true → p ≡ phase.Paused
when_paused phase.Paused h = refl
when_paused _ h = cc

pub when_running : (p : Phase) → phase_is_running p ≡ true → p ≡ phase.Running
when_running phase.Running h = refl
when_running _ h = cc

pub when_pausing : (p : Phase) → phase_is_pausing p ≡ true → p ≡ phase.Pausing
when_pausing phase.Pausing h = refl
when_pausing _ h = cc

-- the state after an event's outcome
abbrev pub state_after : Net → Event → Outcome → Net
state_after net e o = after_rows (told net e o.reply) o.rows

abbrev Kept : (net : Net) → IsShaped net → Event → Outcome → Type 0
Kept net s e o = IsChanged net (state_after net e o) s

initialize_kept : (net : Net) (s : IsShaped net) (refuses : Bool) → Kept net s event.Initialize (initialize_outcome net refuses)
initialize_kept net s refuses =
    by_test (Kept net s event.Initialize) (phase_is_halted net.phase) _ _
    (λ t. by_test (Kept net s event.Initialize) refuses _ _ (λ _. unchanged net s)
    (λ _. let f = at_phase net phase.Halted s (when_halted net.phase t) in initialized net s f.0 f.1))
    (λ _. unchanged net s)

begin_kept : (net : Net) (s : IsShaped net) → Kept net s event.BeginPause (begin_outcome net)
begin_kept net s =
    by_test (Kept net s event.BeginPause) (phase_is_running net.phase) _ _
    (λ t. let f = at_phase net phase.Running s (when_running net.phase t) in begun net s f.0 f.1.0)
    (λ _. unchanged net s)

pause_kept : (net : Net) (s : IsShaped net) → Kept net s event.PauseNext (pause_outcome net)
pause_kept net s =
    by_test (Kept net s event.PauseNext) (phase_is_pausing net.phase) _ _
    (λ t. by_test (Kept net s event.PauseNext) (outstanding net (first_unpaused net) == 0) _ _
    (λ z.
    let e : net.phase ≡ phase.Pausing = when_pausing net.phase t in
    let f = at_phase net phase.Pausing s e in
    let here : first_unpaused net ≡ s.front = first_unpaused_is net (length net.head.bindings) s.front (s.front + 1) f.1.some f.1.within f.1.states in
    paused_step net s (first_unpaused net) (sym here) f.0 (subst (λ n. IsPausing (length net.head.bindings) n net.modules) (sym here) f.1) (is_zero (outstanding net (first_unpaused net)) z) e)
    (λ _. unchanged net s))
    (λ _. unchanged net s)
  where
    is_zero : (n : ℕ) → (n == 0) ≡ true → n ≡ 0
    is_zero n h = grind (arith, nat_tests)

-- a restart, of a paused stack and of one that restarts
restart_kept : (net : Net) (s : IsShaped net) → Kept net s event.RestartNext (restart_outcome net)
restart_kept net s =
    by_test (Kept net s event.RestartNext) (phase_is_paused net.phase || phase_is_restarting net.phase) _ _
    (λ t. by_phase net.phase refl t)
    (λ _. unchanged net s)
  where
    begins : (b : Bool) → phase_is_paused net.phase ≡ b → restart_rows net (running_floors net) ≡ (if b then row.Phase (of.Stack phase.Restarting) ∷ [] else []) ++ restart_of net (running_floors net) (is_top net (running_floors net))
    begins b e = ap (λ c. (if c then row.Phase (of.Stack phase.Restarting) ∷ [] else []) ++ restart_of net (running_floors net) (is_top net (running_floors net))) e

    by_phase : (p : Phase) → net.phase ≡ p → (phase_is_paused p || phase_is_restarting p) ≡ true → IsChanged net (after_rows net (restart_rows net (running_floors net))) s
    by_phase phase.Halted e t = cc
    by_phase phase.Running e t = cc
    by_phase phase.Pausing e t = cc
    by_phase phase.Paused e t =
        let f = at_phase net phase.Paused s e in
        let now : Net = after net (row.Phase (of.Stack phase.Restarting)) in
        let q : ℕ = length net.modules.order + 2 in
        let states : StatesAre (length net.head.bindings) net.modules (state_at q q) = StatesAre-same (λ p. state.Paused) (state_at q q) (length net.head.bindings) net.modules (λ i a. all_paused_at q i (omega (arith, a))) f.1.0 in
        let full : s.front ≡ q = f.1.1 in
        subst (λ rows. IsChanged net (after_rows net rows) s) (sym (begins true (ap phase_is_paused e)))
        (restart_by net now s q refl refl refl refl refl refl full f.0 states (omega arith) (omega arith) (λ one. absurd (omega (arith, one))))
    by_phase phase.Restarting e t =
        let f = at_phase net phase.Restarting s e in
        subst (λ rows. IsChanged net (after_rows net rows) s) (sym (begins false (ap phase_is_paused e)))
        (restart_by net net s s.front refl refl refl refl refl e refl f.0 f.1.states f.1.some (omega (arith, f.1.within)) (λ _. unchanged net s))

halt_kept : (net : Net) (s : IsShaped net) → Kept net s event.Halt (halt_outcome net)
halt_kept net s =
    by_test (Kept net s event.Halt) (phase_is_paused net.phase) _ _
    (λ t. by_test (Kept net s event.Halt) (halt_items net == 0) _ _
    (λ _. let f = at_phase net phase.Paused s (when_paused net.phase t) in halted net s f.0 f.1.0 f.1.1)
    (λ _. unchanged net s))
    (λ _. unchanged net s)

insert_kept : (net : Net) (s : IsShaped net) (kind : FilterKind) (position : ℕ) (setup : Setup) (c : Choice) → Kept net s (event.Insert kind position setup) (insert_outcome net position c)
insert_kept net s kind position setup c =
    let K : Outcome → Type 0 = Kept net s (event.Insert kind position setup) in
    by_test K (phase_is_paused net.phase) _ _
    (λ t. by_test K (live_items net == 0) _ _
    (λ _. by_test K (length net.modules.order == max_filters net.head) _ _ (λ _. unchanged net s)
    (λ _. by_test K (is_bad_position net position) _ _ (λ _. unchanged net s)
    (λ _. by_test K c.shelf_empty _ _ (λ _. unchanged net s)
    (λ _. by_test K c.refuses _ _ (λ _. unchanged net s)
    (λ _. let e = when_paused net.phase t in let f = at_phase net phase.Paused s e in was_inserted net s kind position setup e f.1.1 f.0 f.1.0)))))
    (λ _. unchanged net s))
    (λ _. unchanged net s)

remove_kept : (net : Net) (s : IsShaped net) (filter : ℕ) → Kept net s (event.Remove filter) (remove_outcome net filter)
remove_kept net s filter =
    let K : Outcome → Type 0 = Kept net s (event.Remove filter) in
    by_test K (phase_is_paused net.phase) _ _
    (λ t. by_test K (live_items net == 0) _ _
    (λ _. by_test K (is_in filter net.modules.order) _ _
    (λ _. let e = when_paused net.phase t in let f = at_phase net phase.Paused s e in was_removed net s filter e f.1.1 f.0 f.1.0)
    (λ _. unchanged net s))
    (λ _. unchanged net s))
    (λ _. unchanged net s)

replace_kept : (net : Net) (s : IsShaped net) (old : ℕ) (kind : FilterKind) (setup : Setup) (c : Choice) → Kept net s (event.Replace old kind setup) (replace_outcome net old c)
replace_kept net s old kind setup c =
    let K : Outcome → Type 0 = Kept net s (event.Replace old kind setup) in
    by_test K (phase_is_paused net.phase) _ _
    (λ t. by_test K (live_items net == 0) _ _
    (λ _. by_test K (is_in old net.modules.order) _ _
    (λ there. by_test K c.shelf_empty _ _ (λ _. unchanged net s)
    (λ _. by_test K c.refuses _ _ (λ _. unchanged net s)
    (λ _. let e = when_paused net.phase t in let f = at_phase net phase.Paused s e in was_replaced net s old kind setup there e f.1.1 f.0 f.1.0)))
    (λ _. unchanged net s))
    (λ _. unchanged net s))
    (λ _. unchanged net s)

-- an event that initialises, pauses, restarts, halts or rewires
pub event_kept : (net : Net) (s : IsShaped net) (e : Event) (c : Choice) → is_plain e ≡ false → IsChanged net (state_after net e (outcome net e c)) s
event_kept net s event.Initialize c p = initialize_kept net s c.refuses
event_kept net s (event.Insert kind position setup) c p = insert_kept net s kind position setup c
event_kept net s (event.Remove filter) c p = remove_kept net s filter
event_kept net s (event.Replace old kind setup) c p = replace_kept net s old kind setup c
event_kept net s event.BeginPause c p = begin_kept net s
event_kept net s event.PauseNext c p = pause_kept net s
event_kept net s event.RestartNext c p = restart_kept net s
event_kept net s event.Halt c p = halt_kept net s
event_kept net s _ c p = cc

-- an event that changes no state of a module
told_same : (net : Net) (e : Event) (r : Reply) → is_plain e ≡ true → IsSame net (told net e r)
told_same net (event.CrossTakeUp binding vlan) (reply.Taken message frames) p = record { head = refl; phase = refl; modules = refl; filter = refl }
told_same net (event.Insert kind position setup) r p = cc
told_same net (event.Replace old kind setup) r p = cc
told_same net e r p = same-refl net

pub plain_same : (net : Net) (e : Event) (c : Choice) → is_plain e ≡ true → IsSame net (state_after net e (outcome net e c))
plain_same net e c p =
    let o : Outcome = outcome net e c in
    let now : Net = told net e o.reply in
    same-then net now (after_rows now o.rows) (told_same net e o.reply p) (quiet_rows now o.rows (quiet_event net e c p))

pub fits_same : (net next : Net) → IsSame net next → (front : ℕ) → Fits (length net.head.bindings) net.next.filter net.modules front net.phase → Fits (length next.head.bindings) next.next.filter next.modules front next.phase
fits_same net next same front fits =
    fitted (length net.head.bindings) net.next.filter net.phase front next (ap (λ (h : StackHead). length h.bindings) same.head) same.filter same.phase
    (subst (λ (ms : Modules). Fits (length net.head.bindings) net.next.filter ms front net.phase) (sym same.modules) fits)

-- such an event leaves as many positions Paused
abbrev pub same_shape : (net next : Net) → IsSame net next → IsShaped net → IsShaped next
same_shape net next same s = record { front = s.front; fits = fits_same net next same s.front s.fits }

shape_kept : (net : Net) (s : IsShaped net) (e : Event) (c : Choice) → IsShaped (state_after net e (outcome net e c))
shape_kept net s e c =
    let cases : (b : Bool) → is_plain e ≡ b → IsShaped (state_after net e (outcome net e c)) = elim [
      | true ↦ λ p. same_shape net (state_after net e (outcome net e c)) (plain_same net e c p) s
      | false ↦ λ p. (event_kept net s e c p).shape
    ] in
    cases (is_plain e) refl

-- a turn that may come next leaves what its event's outcome does
pub turn_is : (net : Net) (turn : Turn) (n : Next net turn) → after_turn net turn ≡ state_after net turn.event (outcome net turn.event n.choice)
turn_is net turn n = ap (λ rows. after_rows (told net turn.event turn.reply) rows) n.rows ∙ ap (λ r. after_rows (told net turn.event r) (outcome net turn.event n.choice).rows) n.reply

pub shaped_start : (head : StackHead) → IsShaped (start head)
shaped_start head = record { front = 2; fits = (record { distinct = tt; bindings = refl; filters = refl; miniport = refl }, refl) }

pub shaped_turns : (net : Net) (turns : List Turn) → IsShaped net → SoundFrom net turns → IsShaped (after_turns net turns)
shaped_turns net [] s h = s
shaped_turns net (turn ∷ turns) s h =
    shaped_turns (after_turn net turn) turns (subst IsShaped (sym (turn_is net turn h.0)) (shape_kept net s turn.event h.0.choice)) h.1

pub shaped_journal : (head : StackHead) (turns : List Turn) → Sound head turns → IsShaped (seen head turns)
shaped_journal head turns h = shaped_turns (start head) turns (shaped_start head) h
