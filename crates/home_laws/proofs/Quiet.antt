-- Rows that name no list fit: those of pauses, changes of filters, requests and statuses.
use Rattle.std.proofs.Common.{ℕ, ◌+◌, ◌==◌, ◌||◌, nat_lt, Bool, true, false, cond, List, [], ◌∷◌, ◌++◌, length, map, reverse, get_or}
use Rattle.ndis_base.specs.declared.ModuleId.{ModuleId}
use Rattle.ndis_base.specs.declared.ModuleId.TheVariants.{Miniport, Filter, Binding}
use Rattle.ndis_base.specs.declared.ModuleState.{ModuleState}
use Rattle.ndis_base.specs.declared.ModuleState.TheVariants as state
use Rattle.ndis_base.specs.declared.OidKind.{OidKind}
use Rattle.ndis_base.specs.declared.Phase.{Phase}
use Rattle.ndis_base.specs.declared.Phase.TheVariants as phase
use Rattle.ndis_base.specs.declared.StatusName.{StatusName}
use Rattle.ndis_base.specs.declared.StatusNo.{StatusNo}
use Rattle.journal_types.specs.declared.OutWay.TheVariants as out
use Rattle.journal_types.specs.declared.PhaseOf.TheVariants as of
use Rattle.journal_types.specs.declared.Refusal.TheVariants as refusal
use Rattle.journal_types.specs.declared.Row.{Row}
use Rattle.journal_types.specs.declared.Row.TheVariants as row
use Rattle.journal_types.specs.declared.Target.{Target}
use Rattle.journal_types.specs.declared.Target.TheVariants.{Module, Bindings}
use Rattle.stack_rules.specs.declared.Choice.{Choice}
use Rattle.stack_rules.specs.declared.Request.{Request}
use Rattle.stack_rules.specs.Net.{Net}
use Rattle.stack_rules.specs.Outcome.{Outcome, refused, config_no, max_filters}
use Rattle.stack_rules.specs.Places.{outstanding, state_of}
use Rattle.stack_rules.specs.Pauses.{binding_ids, floors, live_items, halt_items, halt_rows, state_row, state_rows, initialize_outcome, begin_outcome, pause_outcome, pause_at, paused_rows, first_unpaused, restart_outcome, restart_rows, restarting, is_top, running_floors, halt_outcome}
use Rattle.stack_rules.specs.Requests.{Giving, given_rows_by, giving_rows, ask_outcome}
use Rattle.stack_rules.specs.Tests.{is_halted, is_unbound, phase_is_halted, phase_is_paused, phase_is_restarting, phase_is_running, phase_is_pausing}
use Rattle.stack_rules.specs.Rewires.{is_in, is_bad_position, when_attached, when_quiet, inserted, insert_outcome, removed, remove_outcome, replaced, replace_outcome}
use Rattle.stack_rules.specs.Statuses.{status_outcome, seen_by_all, status_rows}
use Rattle.home_laws.proofs.Fits.{Register, AllFit}
use Rattle.home_laws.proofs.Known.{by_test}

-- the row names no list
abbrev pub IsQuiet : Row → Type 0
IsQuiet (row.Phase of) = Unit {0}
IsQuiet (row.Config config filters) = Unit {0}
IsQuiet (row.OidIssue request parent binding kind code value) = Unit {0}
IsQuiet (row.OidGive request m) = Unit {0}
IsQuiet (row.OidDone request status value) = Unit {0}
IsQuiet (row.Status number name to) = Unit {0}
IsQuiet (row.Seen number m) = Unit {0}
IsQuiet (row.CrossOut message out.Up frames) = Unit {0}
IsQuiet (row.CrossIn stack message way frames) = Unit {0}
IsQuiet _ = ⊥

abbrev pub AreQuiet : List Row → Type 0
AreQuiet [] = Unit {0}
AreQuiet (r ∷ rows) = IsQuiet r × AreQuiet rows

pub quiet_row : (reg : Register) (r : Row) (rest : List Row) → IsQuiet r → AllFit reg rest → AllFit reg (r ∷ rest)
quiet_row reg (row.Phase of) rest q f = (tt, f)
quiet_row reg (row.Config config filters) rest q f = (tt, f)
quiet_row reg (row.OidIssue request parent binding kind code value) rest q f = (tt, f)
quiet_row reg (row.OidGive request m) rest q f = (tt, f)
quiet_row reg (row.OidDone request status value) rest q f = (tt, f)
quiet_row reg (row.Status number name to) rest q f = (tt, f)
quiet_row reg (row.Seen number m) rest q f = (tt, f)
quiet_row reg (row.CrossOut message out.Up frames) rest q f = (tt, f)
quiet_row reg (row.CrossIn stack message way frames) rest q f = (tt, f)
quiet_row reg _ rest q f = absurd q

pub quiet_fit : (reg : Register) (rows : List Row) → AreQuiet rows → AllFit reg rows
quiet_fit reg [] q = tt
quiet_fit reg (r ∷ rows) q = quiet_row reg r rows q.0 (quiet_fit reg rows q.1)

AreQuiet-append : (rows more : List Row) → AreQuiet rows → AreQuiet more → AreQuiet (rows ++ more)
AreQuiet-append [] more q p = p
AreQuiet-append (r ∷ rows) more q p = (q.0, AreQuiet-append rows more q.1 p)

-- states
states_quiet : (ss : List ModuleState) (m : ModuleId) → AreQuiet (map (λ s. state_row s m) ss)
states_quiet [] m = tt
states_quiet (s ∷ ss) m = (tt, states_quiet ss m)

state_rows_quiet : (ss : List ModuleState) (ms : List ModuleId) → AreQuiet (state_rows ss ms)
state_rows_quiet ss [] = tt
state_rows_quiet ss (m ∷ ms) = AreQuiet-append _ (state_rows ss ms) (states_quiet ss m) (state_rows_quiet ss ms)

-- an outcome whose rows name no list
abbrev pub QuietOutcome : Outcome → Type 0
QuietOutcome o = AreQuiet o.rows

pub initialize_quiet : (net : Net) (refuses : Bool) → QuietOutcome (initialize_outcome net refuses)
initialize_quiet net refuses =
    by_test QuietOutcome (phase_is_halted net.phase) _ _
    (λ _. by_test QuietOutcome refuses _ _ (λ _. tt) (λ _. (tt, AreQuiet-append (state_rows (state.Opening ∷ state.Paused ∷ []) (binding_ids 0 net.modules.bindings)) (row.Phase (of.Stack phase.Paused) ∷ row.Config (config_no 1) [] ∷ []) (state_rows_quiet (state.Opening ∷ state.Paused ∷ []) (binding_ids 0 net.modules.bindings)) (tt, (tt, tt)))))
    (λ _. tt)

pub begin_quiet : (net : Net) → QuietOutcome (begin_outcome net)
begin_quiet net =
    by_test QuietOutcome (phase_is_running net.phase) _ _ (λ _. (tt, state_rows_quiet (state.Pausing ∷ []) (binding_ids 0 net.modules.bindings))) (λ _. tt)

paused_quiet : (net : Net) (i : ℕ) → AreQuiet (paused_rows net i)
paused_quiet net i =
    AreQuiet-append (state_rows (state.Paused ∷ []) (get_or (floors net.modules) i [])) (cond (nat_lt (i + 1) (length (floors net.modules))) (state_rows (state.Pausing ∷ []) (get_or (floors net.modules) (i + 1) [])) (row.Phase (of.Stack phase.Paused) ∷ []))
    (state_rows_quiet (state.Paused ∷ []) (get_or (floors net.modules) i []))
    (by_test AreQuiet (nat_lt (i + 1) (length (floors net.modules))) _ _ (λ _. state_rows_quiet (state.Pausing ∷ []) (get_or (floors net.modules) (i + 1) [])) (λ _. (tt, tt)))

pause_at_quiet : (net : Net) (i : ℕ) → QuietOutcome (pause_at net i)
pause_at_quiet net i = by_test QuietOutcome (outstanding net i == 0) _ _ (λ _. paused_quiet net i) (λ _. tt)

pub pause_quiet : (net : Net) → QuietOutcome (pause_outcome net)
pause_quiet net = by_test QuietOutcome (phase_is_pausing net.phase) _ _ (λ _. pause_at_quiet net (first_unpaused net)) (λ _. tt)

phase_when : (b : Bool) (p : Phase) → AreQuiet (cond b (row.Phase (of.Stack p) ∷ []) [])
phase_when true p = (tt, tt)
phase_when false p = tt

restart_rows_quiet : (net : Net) (i : ℕ) → AreQuiet (restart_rows net i)
restart_rows_quiet net i =
    let states = state_rows (state.Restarting ∷ state.Running ∷ []) (get_or (reverse (floors net.modules)) i []) in
    let last : List Row = cond (is_top net i) (row.Phase (of.Stack phase.Running) ∷ []) [] in
    AreQuiet-append (restarting net) (states ++ last) (phase_when (phase_is_paused net.phase) phase.Restarting)
    (AreQuiet-append states last (state_rows_quiet (state.Restarting ∷ state.Running ∷ []) (get_or (reverse (floors net.modules)) i [])) (phase_when (is_top net i) phase.Running))

pub restart_quiet : (net : Net) → QuietOutcome (restart_outcome net)
restart_quiet net =
    by_test QuietOutcome (phase_is_paused net.phase || phase_is_restarting net.phase) _ _ (λ _. restart_rows_quiet net (running_floors net)) (λ _. tt)

halt_rows_quiet : (net : Net) → AreQuiet (halt_rows net)
halt_rows_quiet net =
    let bindings = state_rows (state.Closing ∷ state.Unbound ∷ []) (binding_ids 0 net.modules.bindings) in
    let filters = state_rows (state.Detached ∷ []) (map Filter net.modules.order) in
    let last : List Row = state_row state.Halted Miniport ∷ row.Phase (of.Stack phase.Halted) ∷ [] in
    AreQuiet-append bindings (filters ++ last) (state_rows_quiet (state.Closing ∷ state.Unbound ∷ []) (binding_ids 0 net.modules.bindings))
    (AreQuiet-append filters last (state_rows_quiet (state.Detached ∷ []) (map Filter net.modules.order)) (tt, (tt, tt)))

pub halt_quiet : (net : Net) → QuietOutcome (halt_outcome net)
halt_quiet net =
    by_test QuietOutcome (phase_is_paused net.phase) _ _
    (λ _. by_test QuietOutcome (halt_items net == 0) _ _ (λ _. halt_rows_quiet net) (λ _. tt))
    (λ _. tt)

-- changes of filters
attached_quiet : (choice : Choice) (o : Outcome) → QuietOutcome o → QuietOutcome (when_attached choice o)
attached_quiet choice o q = by_test QuietOutcome choice.shelf_empty _ _ (λ _. tt) (λ _. by_test QuietOutcome choice.refuses _ o (λ _. tt) (λ _. q))

when_quiet_quiet : (net : Net) (o : Outcome) → QuietOutcome o → QuietOutcome (when_quiet net o)
when_quiet_quiet net o q =
    by_test QuietOutcome (phase_is_paused net.phase) _ _ (λ _. by_test QuietOutcome (live_items net == 0) o _ (λ _. q) (λ _. tt)) (λ _. tt)

insert_choices : (net : Net) (position : ℕ) (choice : Choice) (full bad : Bool) → QuietOutcome (cond full (refused refusal.Full) (cond bad (refused refusal.BadPosition) (when_attached choice (inserted net position))))
insert_choices net position choice true bad = tt
insert_choices net position choice false true = tt
insert_choices net position choice false false = attached_quiet choice (inserted net position) (tt, (tt, (tt, tt)))

pub insert_quiet : (net : Net) (position : ℕ) (choice : Choice) → QuietOutcome (insert_outcome net position choice)
insert_quiet net position choice =
    when_quiet_quiet net _ (insert_choices net position choice (length net.modules.order == max_filters net.head) (is_bad_position net position))

in_order : (b : Bool) (o : Outcome) → QuietOutcome o → QuietOutcome (cond b o (refused refusal.NoModule))
in_order true o q = q
in_order false o q = tt

pub remove_quiet : (net : Net) (f : ℕ) → QuietOutcome (remove_outcome net f)
remove_quiet net f = when_quiet_quiet net _ (in_order (is_in f net.modules.order) (removed net f) (tt, (tt, tt)))

pub replace_quiet : (net : Net) (f : ℕ) (choice : Choice) → QuietOutcome (replace_outcome net f choice)
replace_quiet net f choice =
    when_quiet_quiet net _ (in_order (is_in f net.modules.order) (when_attached choice (replaced net f)) (attached_quiet choice (replaced net f) (tt, (tt, (tt, (tt, tt))))))

-- requests
given_quiet : (net : Net) (r : Request) (m : ModuleId) → AreQuiet (given_rows_by net r m)
given_quiet net r Miniport = (tt, tt)
given_quiet net r (Filter f) = (tt, tt)
given_quiet net r (Binding b) = tt

pub giving_quiet : (net : Net) (g : Giving) → AreQuiet (giving_rows net g)
giving_quiet net g = (tt, given_quiet net g.request g.module_id)

pub ask_quiet : (net : Net) (binding : ℕ) (kind : OidKind) (code : ℕ) (value : List ℕ) → QuietOutcome (ask_outcome net binding kind code value)
ask_quiet net binding kind code value = by_test QuietOutcome (is_unbound (state_of net (Binding binding))) _ _ (λ _. tt) (λ _. (tt, tt))

-- statuses
seen_quiet : (number : StatusNo) (b : ℕ) (ss : List ModuleState) → AreQuiet (seen_by_all number b ss)
seen_quiet number b [] = tt
seen_quiet number b (s ∷ ss) = (tt, seen_quiet number (b + 1) ss)

pub status_rows_quiet : (net : Net) (number : StatusNo) (name : StatusName) (to : Target) → AreQuiet (status_rows net number name to)
status_rows_quiet net number name (Module m) = (tt, (tt, tt))
status_rows_quiet net number name Bindings = seen_quiet number 0 net.modules.bindings

pub status_quiet : (net : Net) (name : StatusName) → QuietOutcome (status_outcome net name)
status_quiet net name = by_test QuietOutcome (is_halted net.modules.miniport) _ _ (λ _. tt) (λ _. (tt, tt))
