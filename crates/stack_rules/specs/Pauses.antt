-- Initialising, pausing, restarting and halting a stack (WDK, "Pausing a Driver Stack", "Restarting a
-- Driver Stack", "Initializing a Miniport Driver", "Halting a Miniport Adapter"): a pause goes from the top
-- down, and a module is Paused once all that it is answerable for is back; a restart goes from the bottom up.
use Rattle.std.specs.Prelude.{ℕ, ◌+◌, ◌==◌, ◌||◌, not, Bool, true, false, List, [], ◌∷◌, ◌++◌, if◌then◌else◌, length, slice_index_or, nat_lt, map, reverse, count_by}
use Rattle.std.specs.List.{list_all}
use Rattle.ndis_base.specs.declared.ModuleId.{ModuleId}
use Rattle.ndis_base.specs.declared.ModuleId.TheVariants.{Miniport, Filter, Binding}
use Rattle.ndis_base.specs.declared.ModuleState.{ModuleState}
use Rattle.ndis_base.specs.declared.ModuleState.TheVariants as state
use Rattle.ndis_base.specs.declared.Phase.TheVariants as phase
use Rattle.journal_types.specs.declared.PhaseOf.TheVariants as of
use Rattle.journal_types.specs.declared.Row.{Row}
use Rattle.journal_types.specs.declared.Row.TheVariants as row
use Rattle.journal_types.specs.declared.Reply.{Reply}
use Rattle.journal_types.specs.declared.Reply.TheVariants as reply
use Rattle.journal_types.specs.declared.Refusal.TheVariants as refusal
use Rattle.stack_rules.specs.declared.Thing.{Thing}
use Rattle.stack_rules.specs.declared.Thing.TheVariants as thing
use Rattle.stack_rules.specs.Tests.{phase_is_halted, phase_is_paused, phase_is_running, phase_is_pausing, phase_is_restarting, is_paused, is_running}
use Rattle.stack_rules.specs.Net.{Net, Modules}
use Rattle.stack_rules.specs.Places.{outstanding, state_of}
use Rattle.stack_rules.specs.Outcome.{Outcome, answered, refused, config_no}
use Rattle.stack_rules.specs.Requests.{is_at_entry}

-- the bindings, in rising order
abbrev pub binding_ids : ℕ → List ModuleState → List ModuleId
binding_ids b [] = []
binding_ids b (s ∷ ss) = Binding b ∷ binding_ids (b + 1) ss

abbrev pub one : ModuleId → List ModuleId
one m = m ∷ []

-- the modules at each position, from the top: all bindings, each filter, the miniport
abbrev pub floors : Modules → List (List ModuleId)
floors ms = binding_ids 0 ms.bindings ∷ (map (λ f. one (Filter f)) ms.order ++ one Miniport ∷ [])

-- a module takes a state, or some states one after the other; and so do all modules of a position
abbrev pub state_row : ModuleState → ModuleId → Row
state_row s m = row.Phase (of.Module m s)

abbrev pub state_rows : List ModuleState → List ModuleId → List Row
state_rows ss [] = []
state_rows ss (m ∷ ms) = map (λ s. state_row s m) ss ++ state_rows ss ms

abbrev pub initialize_rows : Net → List Row
initialize_rows net =
    state_row state.Paused Miniport
    ∷ (state_rows (state.Opening ∷ state.Paused ∷ []) (binding_ids 0 net.modules.bindings)
    ++ row.Phase (of.Stack phase.Paused) ∷ row.Config (config_no 1) [] ∷ [])

abbrev pub initialize_outcome : Net → Bool → Outcome
initialize_outcome net refuses =
    if phase_is_halted net.phase
    then (if refuses then refused refusal.InitRefused else record { reply = reply.Ok; rows = initialize_rows net })
    else refused (refusal.WrongPhase net.phase)

abbrev pub begin_outcome : Net → Outcome
begin_outcome net =
    if phase_is_running net.phase
    then record {
      reply = reply.Ok;
      rows = row.Phase (of.Stack phase.Pausing) ∷ state_rows (state.Pausing ∷ []) (binding_ids 0 net.modules.bindings);
    }
    else refused (refusal.WrongPhase net.phase)

-- all of some modules are in a state
abbrev pub all_are : (ModuleState → Bool) → Net → List ModuleId → Bool
all_are test net ms = list_all (λ m. test (state_of net m)) ms

-- how many positions at the front pass a test
abbrev pub count_front : (List ModuleId → Bool) → List (List ModuleId) → ℕ
count_front test [] = 0
count_front test (ms ∷ others) = if test ms then count_front test others + 1 else 0

-- how many positions from the top are Paused: the first that isn't comes next
abbrev pub first_unpaused : Net → ℕ
first_unpaused net = count_front (all_are is_paused net) (floors net.modules)

-- the position becomes Paused and the next one Pausing; after the miniport the stack is Paused
abbrev pub paused_rows : Net → ℕ → List Row
paused_rows net i =
    state_rows (state.Paused ∷ []) (slice_index_or (floors net.modules) i [])
    ++ (if nat_lt (i + 1) (length (floors net.modules))
    then state_rows (state.Pausing ∷ []) (slice_index_or (floors net.modules) (i + 1) [])
    else row.Phase (of.Stack phase.Paused) ∷ [])

abbrev pub paused_reply : Net → ℕ → Reply
paused_reply net i = if nat_lt (i + 1) (length (floors net.modules)) then reply.Next else reply.Paused

abbrev pub pause_at : Net → ℕ → Outcome
pause_at net i =
    if outstanding net i == 0
    then record { reply = paused_reply net i; rows = paused_rows net i }
    else answered (reply.Waiting (outstanding net i))

abbrev pub pause_outcome : Net → Outcome
pause_outcome net = if phase_is_pausing net.phase then pause_at net (first_unpaused net) else refused (refusal.WrongPhase net.phase)

-- how many positions from the bottom run
abbrev pub running_floors : Net → ℕ
running_floors net = count_front (all_are is_running net) (reverse (floors net.modules))

-- the first restart of a Paused stack tells its phase
abbrev pub restarting : Net → List Row
restarting net = if phase_is_paused net.phase then row.Phase (of.Stack phase.Restarting) ∷ [] else []

abbrev pub is_top : Net → ℕ → Bool
is_top net i = i + 1 == length (floors net.modules)

-- the lowest position that doesn't run, i from the bottom, restarts and runs
abbrev pub restart_rows : Net → ℕ → List Row
restart_rows net i =
    restarting net
    ++ (state_rows (state.Restarting ∷ state.Running ∷ []) (slice_index_or (reverse (floors net.modules)) i [])
    ++ (if is_top net i then row.Phase (of.Stack phase.Running) ∷ [] else []))

abbrev pub restart_at : Net → ℕ → Outcome
restart_at net i = record { reply = if is_top net i then reply.Running else reply.Next; rows = restart_rows net i }

abbrev pub restart_outcome : Net → Outcome
restart_outcome net =
    if phase_is_paused net.phase || phase_is_restarting net.phase
    then restart_at net (running_floors net)
    else refused (refusal.WrongPhase net.phase)

abbrev pub is_status_thing : Thing → Bool
is_status_thing (thing.Status s) = true
is_status_thing (thing.List l) = false
is_status_thing (thing.Answer a) = false

abbrev pub statuses_away : Net → ℕ
statuses_away net = count_by is_status_thing net.things

-- what a rewire waits for: statuses on their way, and requests that have left the entry and aren't done
abbrev pub live_items : Net → ℕ
live_items net = statuses_away net + count_by (λ r. not (is_at_entry r.at)) net.requests

-- what a halt waits for: requests at the entry too
abbrev pub halt_items : Net → ℕ
halt_items net = statuses_away net + length net.requests

abbrev pub halt_rows : Net → List Row
halt_rows net =
    state_rows (state.Closing ∷ state.Unbound ∷ []) (binding_ids 0 net.modules.bindings)
    ++ (state_rows (state.Detached ∷ []) (map Filter net.modules.order)
    ++ state_row state.Halted Miniport ∷ row.Phase (of.Stack phase.Halted) ∷ [])

abbrev pub halt_outcome : Net → Outcome
halt_outcome net =
    if phase_is_paused net.phase
    then (if halt_items net == 0
    then record { reply = reply.Halted; rows = halt_rows net }
    else refused (refusal.Busy (halt_items net)))
    else refused (refusal.WrongPhase net.phase)
