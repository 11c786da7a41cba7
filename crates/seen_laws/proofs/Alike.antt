-- While a status is on its way the order stays, and so do the status handlers of each filter.
use Rattle.std.proofs.Common.{◌≡◌, ℕ, ◌+◌, ◌==◌, ◌||◌, not, nat_lt, Bool, true, false, cond, List, [], ◌∷◌, ◌++◌, Some, length, map, reverse, get_or, refl, arith, ap, ◌∙◌}
use Rattle.std.proofs.lemmas.Bool.Decides.{nat_tests}
use Rattle.ndis_base.specs.declared.FilterKind.{FilterKind}
use Rattle.ndis_base.specs.declared.ModuleId.{ModuleId}
use Rattle.ndis_base.specs.declared.ModuleId.TheVariants.{Miniport, Filter, Binding}
use Rattle.ndis_base.specs.declared.ModuleState.{ModuleState}
use Rattle.ndis_base.specs.declared.ModuleState.TheVariants as state
use Rattle.ndis_base.specs.declared.Phase.TheVariants as phase
use Rattle.journal_types.specs.declared.Event.{Event}
use Rattle.journal_types.specs.declared.Event.TheVariants as event
use Rattle.journal_types.specs.declared.PhaseOf.TheVariants as of
use Rattle.journal_types.specs.declared.Row.{Row}
use Rattle.journal_types.specs.declared.Row.TheVariants as row
use Rattle.journal_types.specs.declared.Setup.{Setup}
use Rattle.stack_rules.specs.declared.Attached.{Attached}
use Rattle.stack_rules.specs.declared.Choice.{Choice}
use Rattle.stack_rules.specs.Tests.{phase_is_halted, phase_is_paused, phase_is_restarting, phase_is_running, phase_is_pausing}
use Rattle.stack_rules.specs.Net.{Net, Modules, after, after_rows, attached, handlers_of, with_state, is_detached}
use Rattle.stack_rules.specs.Outcome.{Outcome}
use Rattle.stack_rules.specs.Places.{outstanding}
use Rattle.stack_rules.specs.Pauses.{binding_ids, floors, live_items, halt_items, statuses_away, state_row, state_rows, initialize_outcome, begin_outcome, pause_outcome, first_unpaused, paused_rows, restart_outcome, restarting, restart_rows, is_top, running_floors, halt_outcome}
use Rattle.stack_rules.specs.Rewires.{insert_outcome, remove_outcome, replace_outcome}
use Rattle.stack_rules.specs.Targets.{has_status}
use Rattle.stack_rules.specs.Sound.{outcome}
use Rattle.state_laws.proofs.Rows.{by_test, IsSame}
use Rattle.state_laws.proofs.Quiet.{is_plain}
use Rattle.state_laws.proofs.Events.{state_after, plain_same, when_halted}

-- the head and the order are the same, and each filter has the same status handlers
pub record IsAlike (net next : Net) : Type 0 where
  pub head : next.head ≡ net.head
  pub order : next.modules.order ≡ net.modules.order
  pub handlers : (f : ℕ) → has_status next.modules f ≡ has_status net.modules f

pub alike_refl : (net : Net) → IsAlike net net
alike_refl net = record { head = refl; order = refl; handlers = λ f. refl }

pub alike_then : (a b c : Net) → IsAlike a b → IsAlike b c → IsAlike a c
alike_then a b c h k = record { head = k.head ∙ h.head; order = k.order ∙ h.order; handlers = λ f. k.handlers f ∙ h.handlers f }

-- a filter that takes a state keeps its handlers
handlers_kept : (g f : ℕ) (s : ModuleState) (entries : List Attached) → handlers_of (attached g (map (with_state f s) entries)) ≡ handlers_of (attached g entries)
handlers_kept g f s [] = refl
handlers_kept g f s (a ∷ entries) =
    elim (a.filter == f) as (λ b. handlers_of (cond ((cond b (record a { state = s }) a).filter == g) (Some (cond b (record a { state = s }) a)) (attached g (map (with_state f s) entries))) ≡ handlers_of (cond (a.filter == g) (Some a) (attached g entries))) [
      | true ↦ either (record a { state = s }) refl (handlers_kept g f s entries)
      | false ↦ either a refl (handlers_kept g f s entries)
    ]
  where
    either : (x : Attached) → x.setup.handlers ≡ a.setup.handlers → handlers_of (attached g (map (with_state f s) entries)) ≡ handlers_of (attached g entries) → handlers_of (cond (a.filter == g) (Some x) (attached g (map (with_state f s) entries))) ≡ handlers_of (cond (a.filter == g) (Some a) (attached g entries))
    either x same rest =
        elim (a.filter == g) as (λ b. handlers_of (cond b (Some x) (attached g (map (with_state f s) entries))) ≡ handlers_of (cond b (Some a) (attached g entries))) [ true ↦ same | false ↦ rest ]

-- the row tells a state, but that no filter is detached
abbrev is_steady : Row → Bool
is_steady (row.Phase (of.Module m s)) = not (is_detached s)
is_steady (row.Phase (of.Stack p)) = true
is_steady _ = false

abbrev AreSteady : List Row → Type 0
AreSteady [] = Unit {0}
AreSteady (r ∷ rows) = (is_steady r ≡ true) × AreSteady rows

steady-append : (xs ys : List Row) → AreSteady xs → AreSteady ys → AreSteady (xs ++ ys)
steady-append [] ys h k = k
steady-append (x ∷ xs) ys h k = (h.0, steady-append xs ys h.1 k)

steady_row : (net : Net) (r : Row) → is_steady r ≡ true → IsAlike net (after net r)
steady_row net (row.Phase (of.Module Miniport s)) q = record { head = refl; order = refl; handlers = λ f. refl }
steady_row net (row.Phase (of.Module (Binding b) s)) q = record { head = refl; order = refl; handlers = λ f. refl }
steady_row net (row.Phase (of.Module (Filter f) s)) q = record {
  head = refl;
  order = refl;
  handlers = λ g. by_test (λ entries. (handlers_of (attached g entries)).status ≡ has_status net.modules g) (is_detached s) _ _ (λ t. cc) (λ t. ap (λ h. h.status) (handlers_kept g f s net.modules.filters));
}
steady_row net (row.Phase (of.Stack p)) q = record { head = refl; order = refl; handlers = λ f. refl }
steady_row net _ q = cc

steady_rows : (net : Net) (rows : List Row) → AreSteady rows → IsAlike net (after_rows net rows)
steady_rows net [] q = alike_refl net
steady_rows net (r ∷ rows) q = alike_then net (after net r) (after_rows (after net r) rows) (steady_row net r q.0) (steady_rows (after net r) rows q.1)

-- modules that take states
abbrev NoneDetaches : List ModuleState → Type 0
NoneDetaches [] = Unit {0}
NoneDetaches (s ∷ ss) = (not (is_detached s) ≡ true) × NoneDetaches ss

steady_module : (ss : List ModuleState) (m : ModuleId) → NoneDetaches ss → AreSteady (map (λ s. state_row s m) ss)
steady_module [] m h = tt
steady_module (s ∷ ss) m h = (h.0, steady_module ss m h.1)

steady_states : (ss : List ModuleState) (ms : List ModuleId) → NoneDetaches ss → AreSteady (state_rows ss ms)
steady_states ss [] h = tt
steady_states ss (m ∷ ms) h = steady-append (map (λ s. state_row s m) ss) (state_rows ss ms) (steady_module ss m h) (steady_states ss ms h)

steady_paused : (net : Net) (i : ℕ) → AreSteady (paused_rows net i)
steady_paused net i =
    steady-append (state_rows (state.Paused ∷ []) (get_or (floors net.modules) i [])) _
    (steady_states (state.Paused ∷ []) (get_or (floors net.modules) i []) (refl, tt))
    (by_test AreSteady (nat_lt (i + 1) (length (floors net.modules))) _ _ (λ _. steady_states (state.Pausing ∷ []) (get_or (floors net.modules) (i + 1) []) (refl, tt)) (λ _. (refl, tt)))

steady_restart : (net : Net) (i : ℕ) → AreSteady (restart_rows net i)
steady_restart net i =
    steady-append (restarting net) _ (by_test AreSteady (phase_is_paused net.phase) _ _ (λ _. (refl, tt)) (λ _. tt))
    (steady-append (state_rows (state.Restarting ∷ state.Running ∷ []) (get_or (reverse (floors net.modules)) i [])) _
    (steady_states (state.Restarting ∷ state.Running ∷ []) (get_or (reverse (floors net.modules)) i []) (refl, (refl, tt)))
    (by_test AreSteady (is_top net i) _ _ (λ _. (refl, tt)) (λ _. tt)))

-- What an event leaves while a status is on its way.
module _ (net : Net) (away : statuses_away net ≡ 0 → ⊥) (halted : net.phase ≡ phase.Halted → statuses_away net ≡ 0) where
  abbrev Alike : Event → Outcome → Type 0
  Alike e o = IsAlike net (state_after net e o)

  busy : (n : ℕ) → (statuses_away net + n == 0) ≡ true → ⊥
  busy n z = let none : statuses_away net ≡ 0 = grind (arith, nat_tests) in away none

  alike_initialize : (refuses : Bool) → Alike event.Initialize (initialize_outcome net refuses)
  alike_initialize refuses =
      by_test (Alike event.Initialize) (phase_is_halted net.phase) _ _ (λ t. absurd (away (halted (when_halted net.phase t)))) (λ _. alike_refl net)

  alike_begin : Alike event.BeginPause (begin_outcome net)
  alike_begin =
      by_test (Alike event.BeginPause) (phase_is_running net.phase) _ _
      (λ _. steady_rows net (row.Phase (of.Stack phase.Pausing) ∷ state_rows (state.Pausing ∷ []) (binding_ids 0 net.modules.bindings)) (refl, steady_states (state.Pausing ∷ []) (binding_ids 0 net.modules.bindings) (refl, tt)))
      (λ _. alike_refl net)

  alike_pause : Alike event.PauseNext (pause_outcome net)
  alike_pause =
      by_test (Alike event.PauseNext) (phase_is_pausing net.phase) _ _
      (λ _. by_test (Alike event.PauseNext) (outstanding net (first_unpaused net) == 0) _ _
      (λ _. steady_rows net (paused_rows net (first_unpaused net)) (steady_paused net (first_unpaused net))) (λ _. alike_refl net))
      (λ _. alike_refl net)

  alike_restart : Alike event.RestartNext (restart_outcome net)
  alike_restart =
      by_test (Alike event.RestartNext) (phase_is_paused net.phase || phase_is_restarting net.phase) _ _
      (λ _. steady_rows net (restart_rows net (running_floors net)) (steady_restart net (running_floors net))) (λ _. alike_refl net)

  alike_halt : Alike event.Halt (halt_outcome net)
  alike_halt =
      by_test (Alike event.Halt) (phase_is_paused net.phase) _ _
      (λ _. by_test (Alike event.Halt) (halt_items net == 0) _ _ (λ z. absurd (busy (length net.requests) z)) (λ _. alike_refl net))
      (λ _. alike_refl net)

  alike_insert : (kind : FilterKind) (position : ℕ) (setup : Setup) (c : Choice) → Alike (event.Insert kind position setup) (insert_outcome net position c)
  alike_insert kind position setup c =
      by_test (Alike (event.Insert kind position setup)) (phase_is_paused net.phase) _ _
      (λ _. by_test (Alike (event.Insert kind position setup)) (live_items net == 0) _ _ (λ z. absurd (busy _ z)) (λ _. alike_refl net))
      (λ _. alike_refl net)

  alike_remove : (f : ℕ) → Alike (event.Remove f) (remove_outcome net f)
  alike_remove f =
      by_test (Alike (event.Remove f)) (phase_is_paused net.phase) _ _
      (λ _. by_test (Alike (event.Remove f)) (live_items net == 0) _ _ (λ z. absurd (busy _ z)) (λ _. alike_refl net))
      (λ _. alike_refl net)

  alike_replace : (old : ℕ) (kind : FilterKind) (setup : Setup) (c : Choice) → Alike (event.Replace old kind setup) (replace_outcome net old c)
  alike_replace old kind setup c =
      by_test (Alike (event.Replace old kind setup)) (phase_is_paused net.phase) _ _
      (λ _. by_test (Alike (event.Replace old kind setup)) (live_items net == 0) _ _ (λ z. absurd (busy _ z)) (λ _. alike_refl net))
      (λ _. alike_refl net)

  alike_change : (e : Event) (c : Choice) → is_plain e ≡ false → Alike e (outcome net e c)
  alike_change event.Initialize c p = alike_initialize c.refuses
  alike_change (event.Insert kind position setup) c p = alike_insert kind position setup c
  alike_change (event.Remove f) c p = alike_remove f
  alike_change (event.Replace old kind setup) c p = alike_replace old kind setup c
  alike_change event.BeginPause c p = alike_begin
  alike_change event.PauseNext c p = alike_pause
  alike_change event.RestartNext c p = alike_restart
  alike_change event.Halt c p = alike_halt
  alike_change e c p = cc

  pub event_alike : (e : Event) (c : Choice) → Alike e (outcome net e c)
  event_alike e c =
      let by : (b : Bool) → is_plain e ≡ b → Alike e (outcome net e c) = elim [
        | true ↦ λ p.
            let same : IsSame net (state_after net e (outcome net e c)) = plain_same net e c p in
            record { head = same.head; order = ap (λ (ms : Modules). ms.order) same.modules; handlers = λ f. ap (λ (ms : Modules). has_status ms f) same.modules }
        | false ↦ λ p. alike_change e c p
      ] in
      by (is_plain e) refl
