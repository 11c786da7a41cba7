-- Each status on its way goes to a filter that has the status handler, or to the bindings.
use Rattle.std.proofs.Common.{◌≡◌, ℕ, ◌+◌, ◌==◌, ◌||◌, nat_lt, Bool, true, false, List, [], ◌∷◌, ◌++◌, Option, Some, None, find, length, reverse, count_by, slice_index_or, refl, ap, sym, ◌∙◌, arith, subst, if◌then◌else◌}
use Rattle.std.proofs.lemmas.Bool.Decides.{nat_tests}
use Rattle.ndis_base.specs.declared.ModuleId.{ModuleId}
use Rattle.ndis_base.specs.declared.ModuleId.TheVariants.{Miniport, Filter, Binding}
use Rattle.ndis_base.specs.declared.ModuleState.TheVariants as state
use Rattle.ndis_base.specs.declared.Phase.TheVariants as phase
use Rattle.journal_types.specs.declared.Event.{Event}
use Rattle.journal_types.specs.declared.Event.TheVariants as event
use Rattle.journal_types.specs.declared.PhaseOf.TheVariants as of
use Rattle.journal_types.specs.declared.Row.{Row}
use Rattle.journal_types.specs.declared.Row.TheVariants as row
use Rattle.journal_types.specs.declared.StackHead.{StackHead}
use Rattle.journal_types.specs.declared.Target.{Target}
use Rattle.journal_types.specs.declared.Target.TheVariants.{Module, Bindings}
use Rattle.journal_types.specs.declared.Turn.{Turn}
use Rattle.stack_rules.specs.declared.Attached.{Attached}
use Rattle.stack_rules.specs.declared.Choice.{Choice}
use Rattle.stack_rules.specs.declared.StatusAway.{StatusAway}
use Rattle.stack_rules.specs.declared.Thing.{Thing}
use Rattle.stack_rules.specs.declared.Thing.TheVariants as thing
use Rattle.stack_rules.specs.Tests.{phase_is_halted, phase_is_running, phase_is_pausing, phase_is_paused, phase_is_restarting}
use Rattle.stack_rules.specs.Net.{Net, Modules, attached, handlers_of, start, seen, told, after_rows, after_turn, after_turns}
use Rattle.stack_rules.specs.Outcome.{Outcome, max_filters}
use Rattle.stack_rules.specs.Places.{outstanding, agenda_first, is_away, is_passed}
use Rattle.stack_rules.specs.Pauses.{state_rows, first_unpaused, running_floors, is_top, floors, binding_ids, halt_items, live_items, is_status_thing}
use Rattle.stack_rules.specs.Rewires.{is_in, is_bad_position}
use Rattle.stack_rules.specs.Sound.{Next, Sound, SoundFrom, outcome}
use Rattle.rule_basics.proofs.Counts.{count_by-cons}
use Rattle.state_laws.specs.Shape.{IsShaped}
use Rattle.state_laws.proofs.Rows.{by_test}
use Rattle.state_laws.proofs.Quiet.{is_plain}
use Rattle.state_laws.proofs.Events.{state_after, when_halted, plain_same, event_kept, turn_is, shaped_journal}
use Rattle.place_laws.specs.Kept.{EachStatus}
use Rattle.work_laws.proofs.Halted.{nothing_while_halted}
use Rattle.status_laws.specs.Handlers.{HasHandler, GoesToHandler, EachGoesToHandler}
use Rattle.status_laws.proofs.Things.{each-implies, each-rows}
use Rattle.status_laws.proofs.Stands.{told_things}
use Rattle.status_laws.proofs.Sweep.{event_goes}
use Rattle.status_laws.proofs.Phases.{AreMild, mild-append, mild_if, mild_states, KeepsHandlers, keeps_rows}

abbrev GoTo : Modules → List Thing → Type 0
GoTo ms ts = EachStatus (λ s. GoesToHandler ms s.to) ts

-- they still do where the order and the handlers are the same
still_goes : (ms next : Modules) (to : Target) → KeepsHandlers ms next → GoesToHandler ms to → GoesToHandler next to
still_goes ms next Bindings k h = tt
still_goes ms next (Module Miniport) k h = absurd h
still_goes ms next (Module (Binding b)) k h = absurd h
still_goes ms next (Module (Filter f)) k h = record { inside = ap (is_in f) k.order ∙ h.inside; has = k.has f ∙ h.has }

still_go : (ms next : Modules) (ts : List Thing) → KeepsHandlers ms next → GoTo ms ts → GoTo next ts
still_go ms next ts k h = each-implies (λ s. GoesToHandler ms s.to) (λ s. GoesToHandler next s.to) (λ s g. still_goes ms next s.to k g) ts h

-- where no status is on its way, none goes elsewhere
none_away : (P : StatusAway → Type 0) (ts : List Thing) → count_by is_status_thing ts ≡ 0 → EachStatus P ts
none_away P [] e = tt
none_away P (thing.Status s ∷ ts) e = let cons = count_by-cons is_status_thing (thing.Status s) ts in absurd (omega (arith, cons, e))
none_away P (thing.List l ∷ ts) e = let cons = count_by-cons is_status_thing (thing.List l) ts in none_away P ts (omega (arith, cons, e))
none_away P (thing.Answer a ∷ ts) e = let cons = count_by-cons is_status_thing (thing.Answer a) ts in none_away P ts (omega (arith, cons, e))

is_zero : (n : ℕ) → (n == 0) ≡ true → n ≡ 0
is_zero n t = grind (arith, nat_tests)

quiet_go : (ms : Modules) (net : Net) → (live_items net == 0) ≡ true → GoTo ms net.things
quiet_go ms net t = let none = is_zero (live_items net) t in none_away (λ s. GoesToHandler ms s.to) net.things (omega (arith, none))

over_go : (ms : Modules) (net : Net) → (halt_items net == 0) ≡ true → GoTo ms net.things
over_go ms net t = let none = is_zero (halt_items net) t in none_away (λ s. GoesToHandler ms s.to) net.things (omega (arith, none))

module _ (net : Net) (h : GoTo net.modules net.things) where
  -- what was on its way goes where it may by the modules after the event
  abbrev Keeps : Event → Outcome → Type 0
  Keeps e o = GoTo (state_after net e o).modules net.things

  mild : (rows : List Row) → AreMild rows → GoTo (after_rows net rows).modules net.things
  mild rows q = still_go net.modules (after_rows net rows).modules net.things (keeps_rows net rows q) h

  changed_keeps : (e : Event) (c : Choice) → is_plain e ≡ false → (net.phase ≡ phase.Halted → net.things ≡ []) → Keeps e (outcome net e c)
  changed_keeps event.Initialize c p none =
      by_test (Keeps event.Initialize) (phase_is_halted net.phase) _ _
      (λ t. by_test (Keeps event.Initialize) c.refuses _ _ (λ _. h) (λ _. subst (GoTo _) (sym (none (when_halted net.phase t))) tt))
      (λ _. h)
  changed_keeps event.BeginPause c p none =
      by_test (Keeps event.BeginPause) (phase_is_running net.phase) _ _
      (λ _.
      let rows : List Row = state_rows (state.Pausing ∷ []) (binding_ids 0 net.modules.bindings) in
      mild (row.Phase (of.Stack phase.Pausing) ∷ rows) (tt, mild_states (state.Pausing ∷ []) (binding_ids 0 net.modules.bindings) (refl, tt)))
      (λ _. h)
  changed_keeps event.PauseNext c p none =
      by_test (Keeps event.PauseNext) (phase_is_pausing net.phase) _ _
      (λ _. by_test (Keeps event.PauseNext) (outstanding net (first_unpaused net) == 0) _ _
      (λ _.
      let front : List ModuleId = slice_index_or (floors net.modules) (first_unpaused net) [] in
      let after : List ModuleId = slice_index_or (floors net.modules) (first_unpaused net + 1) [] in
      let more : Bool = nat_lt (first_unpaused net + 1) (length (floors net.modules)) in
      let last : List Row = if more then state_rows (state.Pausing ∷ []) after else row.Phase (of.Stack phase.Paused) ∷ [] in
      mild (state_rows (state.Paused ∷ []) front ++ last)
      (mild-append (state_rows (state.Paused ∷ []) front) last (mild_states (state.Paused ∷ []) front (refl, tt))
      (mild_if more (state_rows (state.Pausing ∷ []) after) (row.Phase (of.Stack phase.Paused) ∷ []) (mild_states (state.Pausing ∷ []) after (refl, tt)) (tt, tt))))
      (λ _. h))
      (λ _. h)
  changed_keeps event.RestartNext c p none =
      by_test (Keeps event.RestartNext) (phase_is_paused net.phase || phase_is_restarting net.phase) _ _
      (λ _.
      let first : List Row = if phase_is_paused net.phase then row.Phase (of.Stack phase.Restarting) ∷ [] else [] in
      let floor : List ModuleId = slice_index_or (reverse (floors net.modules)) (running_floors net) [] in
      let rows : List Row = state_rows (state.Restarting ∷ state.Running ∷ []) floor in
      let last : List Row = if is_top net (running_floors net) then row.Phase (of.Stack phase.Running) ∷ [] else [] in
      mild (first ++ (rows ++ last))
      (mild-append first (rows ++ last) (mild_if (phase_is_paused net.phase) (row.Phase (of.Stack phase.Restarting) ∷ []) [] (tt, tt) tt)
      (mild-append rows last (mild_states (state.Restarting ∷ state.Running ∷ []) floor (refl, (refl, tt)))
      (mild_if (is_top net (running_floors net)) (row.Phase (of.Stack phase.Running) ∷ []) [] (tt, tt) tt))))
      (λ _. h)
  changed_keeps (event.Insert kind position setup) c p none =
      let e : Event = event.Insert kind position setup in
      by_test (Keeps e) (phase_is_paused net.phase) _ _
      (λ _. by_test (Keeps e) (live_items net == 0) _ _
      (λ t. by_test (Keeps e) (length net.modules.order == max_filters net.head) _ _ (λ _. h)
      (λ _. by_test (Keeps e) (is_bad_position net position) _ _ (λ _. h)
      (λ _. by_test (Keeps e) c.shelf_empty _ _ (λ _. h)
      (λ _. by_test (Keeps e) c.refuses _ _ (λ _. h) (λ _. quiet_go _ net t)))))
      (λ _. h))
      (λ _. h)
  changed_keeps (event.Remove filter) c p none =
      let e : Event = event.Remove filter in
      by_test (Keeps e) (phase_is_paused net.phase) _ _
      (λ _. by_test (Keeps e) (live_items net == 0) _ _
      (λ t. by_test (Keeps e) (is_in filter net.modules.order) _ _ (λ _. quiet_go _ net t) (λ _. h))
      (λ _. h))
      (λ _. h)
  changed_keeps (event.Replace filter kind setup) c p none =
      let e : Event = event.Replace filter kind setup in
      by_test (Keeps e) (phase_is_paused net.phase) _ _
      (λ _. by_test (Keeps e) (live_items net == 0) _ _
      (λ t. by_test (Keeps e) (is_in filter net.modules.order) _ _
      (λ _. by_test (Keeps e) c.shelf_empty _ _ (λ _. h)
      (λ _. by_test (Keeps e) c.refuses _ _ (λ _. h) (λ _. quiet_go _ net t)))
      (λ _. h))
      (λ _. h))
      (λ _. h)
  changed_keeps event.Halt c p none =
      by_test (Keeps event.Halt) (phase_is_paused net.phase) _ _
      (λ _. by_test (Keeps event.Halt) (halt_items net == 0) _ _ (λ t. over_go _ net t) (λ _. h))
      (λ _. h)
  changed_keeps _ c p none = cc

  event_keeps : (e : Event) (c : Choice) → IsShaped net → (net.phase ≡ phase.Halted → net.things ≡ []) → GoTo (state_after net e (outcome net e c)).modules (state_after net e (outcome net e c)).things
  event_keeps e c shape none = by_kind (is_plain e) refl
    where
      next : Net
      next = state_after net e (outcome net e c)

      by_kind : (b : Bool) → is_plain e ≡ b → GoTo next.modules next.things
      by_kind true p =
          let o : Outcome = outcome net e c in
          subst (λ (ms : Modules). GoTo ms next.things) (sym (plain_same net e c p).modules)
          (each-rows (λ s. GoesToHandler net.modules s.to) (told net e o.reply) o.rows (event_goes net e c p) (subst (GoTo net.modules) (sym (told_things net e o.reply)) h))
      by_kind false p = subst (GoTo next.modules) (sym (event_kept net shape e c p).things) (changed_keeps e c p none)

-- and so each journal does
module _ (head : StackHead) where
  record IsKept (net : Net) : Type 0 where
    before : List Turn
    sound : Sound head before
    at : seen head before ≡ net
    goes : GoTo net.modules net.things

  turns_push : (net : Net) (before : List Turn) (t : Turn) → after_turns net (before ++ t ∷ []) ≡ after_turn (after_turns net before) t
  turns_push net [] t = refl
  turns_push net (b ∷ before) t = turns_push (after_turn net b) before t

  sound_push : (net : Net) (before : List Turn) (t : Turn) → SoundFrom net before → Next (after_turns net before) t → SoundFrom net (before ++ t ∷ [])
  sound_push net [] t s n = (n, tt)
  sound_push net (b ∷ before) t s n = (s.0, sound_push (after_turn net b) before t s.1 n)

  turn_kept : (net : Net) (t : Turn) → Next net t → IsKept net → IsKept (after_turn net t)
  turn_kept net t n k =
      let none : net.phase ≡ phase.Halted → net.things ≡ [] = subst (λ (x : Net). x.phase ≡ phase.Halted → x.things ≡ []) k.at (λ e. (nothing_while_halted head k.before k.sound e).things) in
      record {
        before = k.before ++ t ∷ [];
        sound = sound_push (start head) k.before t k.sound (subst (λ x. Next x t) (sym k.at) n);
        at = turns_push (start head) k.before t ∙ ap (λ x. after_turn x t) k.at;
        goes = subst (λ (x : Net). GoTo x.modules x.things) (sym (turn_is net t n)) (event_keeps net k.goes t.event n.choice (subst IsShaped k.at (shaped_journal head k.before k.sound)) none);
      }

  turns_kept : (net : Net) (turns : List Turn) → IsKept net → SoundFrom net turns → IsKept (after_turns net turns)
  turns_kept net [] k s = k
  turns_kept net (t ∷ turns) k s = turns_kept (after_turn net t) turns (turn_kept net t s.0 k) s.1

  start_kept : IsKept (start head)
  start_kept = record { before = []; sound = tt; at = refl; goes = tt }

pub each_goes_to_handler : EachGoesToHandler
each_goes_to_handler head turns sound = (turns_kept head (start head) turns (start_kept head) sound).goes

-- the first status on its way
first_status : (P : StatusAway → Type 0) (ts : List Thing) (s : StatusAway) → EachStatus P ts → find is_away ts ≡ Some (thing.Status s) → P s
first_status P [] s h e = cc
first_status P (thing.Status x ∷ ts) s h e = let same : x ≡ s = cc in subst P same h.0
first_status P (thing.Answer a ∷ ts) s h e = cc
first_status P (thing.List l ∷ ts) s h e = by_away (first_status P ts s h) (is_passed l.stand) e
  where
    by_away : (find is_away ts ≡ Some (thing.Status s) → P s) → (b : Bool) → (if b then Some (thing.List l) else find is_away ts) ≡ Some (thing.Status s) → P s
    by_away later true e = cc
    by_away later false e = later e

pub first_goes : (head : StackHead) (turns : List Turn) (net : Net) → net ≡ seen head turns → Sound head turns → (s : StatusAway) → agenda_first net ≡ Some (thing.Status s) → GoesToHandler net.modules s.to
first_goes head turns net is sound s first =
    first_status (λ x. GoesToHandler net.modules x.to) net.things s (subst (λ (n : Net). GoTo n.modules n.things) (sym is) (each_goes_to_handler head turns sound)) first

-- a filter that has the handler is attached
pub is_attached : (ms : Modules) (f : ℕ) → HasHandler ms f → (a : Attached) × (attached f ms.filters ≡ Some a)
is_attached ms f h = by (attached f ms.filters) refl h.has
  where
    by : (o : Option Attached) → attached f ms.filters ≡ o → (handlers_of o).status ≡ true → (a : Attached) × (attached f ms.filters ≡ Some a)
    by None e has = cc
    by (Some a) e has = (a, e)
