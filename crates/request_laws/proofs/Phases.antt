-- What initialising, pausing, restarting, halting and rewiring a stack leave of its requests.
use Rattle.std.proofs.Common.{◌≡◌, ℕ, ◌+◌, ◌-◌, ◌==◌, ◌||◌, not, nat_lt, Bool, true, false, cond, List, [], ◌∷◌, ◌++◌, Some, length, count_by, filter, map, reverse, get_or, refl, arith, sym, subst, ◌∙◌}
use Rattle.std.specs.List.{insert}
use Rattle.std.proofs.lemmas.Bool.Decides.{nat_tests}
use Rattle.ndis_base.specs.declared.FilterKind.{FilterKind}
use Rattle.ndis_base.specs.declared.ModuleId.{ModuleId}
use Rattle.ndis_base.specs.declared.ModuleId.TheVariants.{Miniport, Filter}
use Rattle.ndis_base.specs.declared.ModuleState.{ModuleState}
use Rattle.ndis_base.specs.declared.ModuleState.TheVariants as state
use Rattle.ndis_base.specs.declared.Phase.TheVariants as phase
use Rattle.journal_types.specs.declared.Event.TheVariants as event
use Rattle.journal_types.specs.declared.PhaseOf.TheVariants as of
use Rattle.journal_types.specs.declared.Row.{Row}
use Rattle.journal_types.specs.declared.Row.TheVariants as row
use Rattle.journal_types.specs.declared.Setup.{Setup}
use Rattle.stack_rules.specs.declared.Choice.{Choice}
use Rattle.stack_rules.specs.declared.Request.{Request}
use Rattle.stack_rules.specs.declared.RequestAt.{RequestAt}
use Rattle.stack_rules.specs.declared.RequestAt.TheVariants as at
use Rattle.stack_rules.specs.Tests.{phase_is_halted, phase_is_paused, phase_is_restarting, phase_is_running, phase_is_pausing}
use Rattle.stack_rules.specs.Net.{Net, after, after_rows, with_filter, request_of}
use Rattle.stack_rules.specs.Outcome.{Outcome, config_no, max_filters}
use Rattle.stack_rules.specs.Places.{outstanding}
use Rattle.stack_rules.specs.Requests.{is_at_entry}
use Rattle.stack_rules.specs.Pauses.{binding_ids, floors, live_items, halt_items, halt_rows, state_row, state_rows, initialize_rows, initialize_outcome, begin_outcome, pause_outcome, paused_rows, first_unpaused, restart_outcome, restart_rows, restarting, is_top, running_floors, halt_outcome}
use Rattle.stack_rules.specs.Rewires.{is_in, is_bad_position, attach_rows, swapped, insert_outcome, remove_outcome, replace_outcome}
use Rattle.rule_basics.proofs.Counts.{count_by-cons}
use Rattle.state_laws.proofs.Rows.{by_test, after_rows-append}
use Rattle.state_laws.proofs.Events.{state_after, when_halted}
use Rattle.rule_basics.specs.Live.{EachRequest}
use Rattle.request_laws.proofs.Changes.{AllAtEntry}
use Rattle.request_laws.proofs.Finds.{EachRequest-find}
use Rattle.request_laws.proofs.Rows.{found_in, IsKept, AsksSame, asks-then, kept_same, AreStill, still-append, still_rows, kept_config, kept_halt}

-- modules take states
states_still : (ss : List ModuleState) (m : ModuleId) → AreStill (map (λ s. state_row s m) ss)
states_still [] m = tt
states_still (s ∷ ss) m = (refl, states_still ss m)

pub state_rows_still : (ss : List ModuleState) (ms : List ModuleId) → AreStill (state_rows ss ms)
state_rows_still ss [] = tt
state_rows_still ss (m ∷ ms) = still-append _ (state_rows ss ms) (states_still ss m) (state_rows_still ss ms)

-- rows that tell nothing of requests keep what is kept
pub kept_still : (net : Net) (rows : List Row) → IsKept net → AreStill rows → IsKept (after_rows net rows)
kept_still net rows k q = kept_same net (after_rows net rows) (still_rows net rows q) k

-- a stack without requests has all of them at the entry
none_at_entry : (net : Net) → net.requests ≡ [] → AllAtEntry (found_in net)
none_at_entry net e n r f = by net.requests e f
  where
    by : (rs : List Request) → rs ≡ [] → request_of n rs ≡ Some r → r.at ≡ at.Entry
    by [] e f = cc
    by (q ∷ rs) e f = cc

pub kept_initialize : (net : Net) (refuses : Bool) → IsKept net → IsKept (state_after net event.Initialize (initialize_outcome net refuses))
kept_initialize net refuses k =
    let K : Outcome → Type 0 = λ o. IsKept (state_after net event.Initialize o) in
    by_test K (phase_is_halted net.phase) _ _ (λ t. by_test K refuses _ _ (λ _. k) (λ _. initialized (k.halted (when_halted net.phase t)))) (λ _. k)
  where
    initialized : net.requests ≡ [] → IsKept (after_rows net (initialize_rows net))
    initialized none =
        let states : List Row = state_rows (state.Opening ∷ state.Paused ∷ []) (binding_ids 0 net.modules.bindings) in
        let low : Net = after net (state_row state.Paused Miniport) in
        let now : Net = after_rows low states in
        let last : List Row = row.Phase (of.Stack phase.Paused) ∷ [] in
        let up : Net = after_rows now last in
        let same : AsksSame net up = asks-then net now up (asks-then net low now (still_rows net (state_row state.Paused Miniport ∷ []) (refl, tt)) (still_rows low states (state_rows_still (state.Opening ∷ state.Paused ∷ []) (binding_ids 0 net.modules.bindings)))) (still_rows now last (refl, tt)) in
        subst IsKept (sym (after_rows-append low states (row.Phase (of.Stack phase.Paused) ∷ row.Config (config_no 1) [] ∷ [])))
        (kept_config up (config_no 1) [] (kept_same net up same k) (none_at_entry up (same.requests ∙ none)))

pub kept_begin : (net : Net) → IsKept net → IsKept (state_after net event.BeginPause (begin_outcome net))
kept_begin net k =
    by_test (λ o. IsKept (state_after net event.BeginPause o)) (phase_is_running net.phase) _ _
    (λ _. kept_still net (row.Phase (of.Stack phase.Pausing) ∷ state_rows (state.Pausing ∷ []) (binding_ids 0 net.modules.bindings)) k (refl, state_rows_still (state.Pausing ∷ []) (binding_ids 0 net.modules.bindings))) (λ _. k)

pub paused_still : (net : Net) (i : ℕ) → AreStill (paused_rows net i)
paused_still net i =
    still-append (state_rows (state.Paused ∷ []) (get_or (floors net.modules) i [])) _
    (state_rows_still (state.Paused ∷ []) (get_or (floors net.modules) i []))
    (by_test AreStill (nat_lt (i + 1) (length (floors net.modules))) _ _ (λ _. state_rows_still (state.Pausing ∷ []) (get_or (floors net.modules) (i + 1) [])) (λ _. (refl, tt)))

pub kept_pause : (net : Net) → IsKept net → IsKept (state_after net event.PauseNext (pause_outcome net))
kept_pause net k =
    let K : Outcome → Type 0 = λ o. IsKept (state_after net event.PauseNext o) in
    by_test K (phase_is_pausing net.phase) _ _
    (λ _. by_test K (outstanding net (first_unpaused net) == 0) _ _ (λ _. kept_still net (paused_rows net (first_unpaused net)) k (paused_still net (first_unpaused net))) (λ _. k))
    (λ _. k)

pub restart_still : (net : Net) (i : ℕ) → AreStill (restart_rows net i)
restart_still net i =
    let states : List Row = state_rows (state.Restarting ∷ state.Running ∷ []) (get_or (reverse (floors net.modules)) i []) in
    let last : List Row = cond (is_top net i) (row.Phase (of.Stack phase.Running) ∷ []) [] in
    still-append (restarting net) (states ++ last) (by_test AreStill (phase_is_paused net.phase) _ _ (λ _. (refl, tt)) (λ _. tt))
    (still-append states last (state_rows_still (state.Restarting ∷ state.Running ∷ []) (get_or (reverse (floors net.modules)) i [])) (by_test AreStill (is_top net i) _ _ (λ _. (refl, tt)) (λ _. tt)))

pub kept_restart : (net : Net) → IsKept net → IsKept (state_after net event.RestartNext (restart_outcome net))
kept_restart net k =
    by_test (λ o. IsKept (state_after net event.RestartNext o)) (phase_is_paused net.phase || phase_is_restarting net.phase) _ _
    (λ _. kept_still net (restart_rows net (running_floors net)) k (restart_still net (running_floors net))) (λ _. k)

-- nothing is live
pub is_zero : (n : ℕ) → (n == 0) ≡ true → n ≡ 0
is_zero n h = grind (arith, nat_tests)

pub no_requests : (rs : List Request) → length rs ≡ 0 → rs ≡ []
no_requests [] h = refl
no_requests (r ∷ rs) h = absurd (omega (arith, h))

pub kept_halting : (net : Net) → IsKept net → IsKept (state_after net event.Halt (halt_outcome net))
kept_halting net k =
    let K : Outcome → Type 0 = λ o. IsKept (state_after net event.Halt o) in
    by_test K (phase_is_paused net.phase) _ _
    (λ _. by_test K (halt_items net == 0) _ _
    (λ t. let none = is_zero (halt_items net) t in halted (no_requests net.requests (omega (arith, none)))) (λ _. k))
    (λ _. k)
  where
    halted : net.requests ≡ [] → IsKept (after_rows net (halt_rows net))
    halted none =
        let bindings : List Row = state_rows (state.Closing ∷ state.Unbound ∷ []) (binding_ids 0 net.modules.bindings) in
        let filters : List Row = state_rows (state.Detached ∷ []) (map Filter net.modules.order) in
        let last : List Row = state_row state.Halted Miniport ∷ row.Phase (of.Stack phase.Halted) ∷ [] in
        let top : Net = after_rows net bindings in
        let low : Net = after_rows top filters in
        let down : Net = after low (state_row state.Halted Miniport) in
        let same : AsksSame net down =
        asks-then net low down
        (asks-then net top low (still_rows net bindings (state_rows_still (state.Closing ∷ state.Unbound ∷ []) (binding_ids 0 net.modules.bindings))) (still_rows top filters (state_rows_still (state.Detached ∷ []) (map Filter net.modules.order))))
        (still_rows low (state_row state.Halted Miniport ∷ []) (refl, tt)) in
        subst IsKept (sym (after_rows-append net bindings (filters ++ last) ∙ after_rows-append top filters last))
        (kept_halt down (kept_same net down same k) (same.requests ∙ none))

entry_is : (a : RequestAt) → not (is_at_entry a) ≡ false → a ≡ at.Entry
entry_is at.Entry h = refl
entry_is (at.Waiting m) h = cc
entry_is (at.Given m) h = cc

all_at_entry : (rs : List Request) → count_by (λ (r : Request). not (is_at_entry r.at)) rs ≡ 0 → EachRequest (λ r. r.at ≡ at.Entry) rs
all_at_entry [] h = tt
all_at_entry (r ∷ rs) h =
    let whole = count_by-cons (λ (r : Request). not (is_at_entry r.at)) r rs in
    let cases : (b : Bool) → not (is_at_entry r.at) ≡ b → count_by (λ (r : Request). not (is_at_entry r.at)) (r ∷ rs) ≡ cond b 1 0 + count_by (λ (r : Request). not (is_at_entry r.at)) rs → EachRequest (λ r. r.at ≡ at.Entry) (r ∷ rs) = elim [
      | true ↦ λ t w. absurd (omega (arith, h, w))
      | false ↦ λ t w. (entry_is r.at t, all_at_entry rs (omega (arith, h, w)))
    ] in
    cases (not (is_at_entry r.at)) refl whole

-- where nothing is live all requests are at the entry
nothing_live : (net : Net) → (live_items net == 0) ≡ true → AllAtEntry (found_in net)
nothing_live net t n r f =
    let none = is_zero (live_items net) t in
    EachRequest-find (λ r. r.at ≡ at.Entry) (λ (r : Request). r.request.0 == n) net.requests r (all_at_entry net.requests (omega (arith, none))) f

-- the order changes after rows that tell nothing of requests
kept_rewired : (net now : Net) (rows : List Row) (config : ℕ) (order : List ℕ) → AsksSame net now → AreStill rows → IsKept net → AllAtEntry (found_in net) → IsKept (after_rows now (rows ++ row.Config (config_no config) order ∷ []))
kept_rewired net now rows config order s q k entry =
    let next : Net = after_rows now rows in
    let same : AsksSame net next = asks-then net now next s (still_rows now rows q) in
    subst IsKept (sym (after_rows-append now rows (row.Config (config_no config) order ∷ [])))
    (kept_config next (config_no config) order (kept_same net next same k) (subst (λ (rs : List Request). AllAtEntry (λ n. request_of n rs)) (sym same.requests) entry))

pub kept_insert : (net : Net) (kind : FilterKind) (position : ℕ) (setup : Setup) (c : Choice) → IsKept net → IsKept (state_after net (event.Insert kind position setup) (insert_outcome net position c))
kept_insert net kind position setup c k =
    let K : Outcome → Type 0 = λ o. IsKept (state_after net (event.Insert kind position setup) o) in
    by_test K (phase_is_paused net.phase) _ _
    (λ _. by_test K (live_items net == 0) _ _
    (λ t. by_test K (length net.modules.order == max_filters net.head) _ _ (λ _. k)
    (λ _. by_test K (is_bad_position net position) _ _ (λ _. k)
    (λ _. by_test K c.shelf_empty _ _ (λ _. k)
    (λ _. by_test K c.refuses _ _ (λ _. k)
    (λ _. kept_rewired net (with_filter net.next.filter kind setup net) (attach_rows net.next.filter) (net.modules.config + 1) (insert net.modules.order (position - 1) net.next.filter) record { order = refl; requests = refl; answers = refl; number = refl; phase = λ e. e } (refl, (refl, tt)) k (nothing_live net t))))))
    (λ _. k))
    (λ _. k)

pub kept_remove : (net : Net) (f : ℕ) → IsKept net → IsKept (state_after net (event.Remove f) (remove_outcome net f))
kept_remove net f k =
    let K : Outcome → Type 0 = λ o. IsKept (state_after net (event.Remove f) o) in
    by_test K (phase_is_paused net.phase) _ _
    (λ _. by_test K (live_items net == 0) _ _
    (λ t. by_test K (is_in f net.modules.order) _ _
    (λ _. kept_rewired net net (state_row state.Detached (Filter f) ∷ []) (net.modules.config + 1) (filter (λ g. not (g == f)) net.modules.order) record { order = refl; requests = refl; answers = refl; number = refl; phase = λ e. e } (refl, tt) k (nothing_live net t)) (λ _. k))
    (λ _. k))
    (λ _. k)

pub kept_replace : (net : Net) (old : ℕ) (kind : FilterKind) (setup : Setup) (c : Choice) → IsKept net → IsKept (state_after net (event.Replace old kind setup) (replace_outcome net old c))
kept_replace net old kind setup c k =
    let K : Outcome → Type 0 = λ o. IsKept (state_after net (event.Replace old kind setup) o) in
    by_test K (phase_is_paused net.phase) _ _
    (λ _. by_test K (live_items net == 0) _ _
    (λ t. by_test K (is_in old net.modules.order) _ _
    (λ _. by_test K c.shelf_empty _ _ (λ _. k)
    (λ _. by_test K c.refuses _ _ (λ _. k)
    (λ _. kept_rewired net (with_filter net.next.filter kind setup net) (state_row state.Detached (Filter old) ∷ attach_rows net.next.filter) (net.modules.config + 1) (map (swapped old net.next.filter) net.modules.order) record { order = refl; requests = refl; answers = refl; number = refl; phase = λ e. e } (refl, (refl, (refl, tt))) k (nothing_live net t))))
    (λ _. k))
    (λ _. k))
    (λ _. k)
