-- Receives: owned indications on their way up, and lists that are lent for the time of one turn (WDK,
-- "Receiving Data", the flag NDIS_RECEIVE_FLAGS_RESOURCES: the list is its owner's again as soon as the
-- indication returns, so who wants its frames copies them).
use Rattle.std.specs.Prelude.{ℕ, ◌+◌, Bool, List, [], ◌∷◌, ◌++◌, Option, Some, None, if◌then◌else◌, reverse, filter}
use Rattle.ndis_base.specs.declared.ModuleId.{ModuleId}
use Rattle.ndis_base.specs.declared.ModuleId.TheVariants.{Miniport, Filter, Binding}
use Rattle.ndis_base.specs.declared.Direction.TheVariants as direction
use Rattle.ndis_base.specs.declared.ListNo.{ListNo}
use Rattle.ndis_base.specs.declared.ListStatus.{ListStatus}
use Rattle.ndis_base.specs.declared.ListStatus.TheVariants.{Success, Paused, Dropped, Resources}
use Rattle.ndis_base.specs.declared.Origin.TheVariants as origin
use Rattle.journal_types.specs.declared.Handler.TheVariants as handler
use Rattle.journal_types.specs.declared.How.TheVariants as how
use Rattle.journal_types.specs.declared.Target.{Target}
use Rattle.journal_types.specs.declared.Target.TheVariants.{Module, Bindings}
use Rattle.journal_types.specs.declared.Row.{Row}
use Rattle.journal_types.specs.declared.Row.TheVariants as row
use Rattle.journal_types.specs.declared.Reply.TheVariants as reply
use Rattle.journal_types.specs.declared.Refusal.TheVariants as refusal
use Rattle.program_types.specs.Apply.{applied}
use Rattle.stack_rules.specs.declared.LiveList.{LiveList}
use Rattle.stack_rules.specs.declared.Attached.{Attached}
use Rattle.stack_rules.specs.Tests.{phase_is_running, is_running, same_frames}
use Rattle.stack_rules.specs.Net.{Net, attached, list_of, lists}
use Rattle.stack_rules.specs.Places.{position, is_full, is_kept_by}
use Rattle.stack_rules.specs.Targets.{onward, homeward, turned_back, has_receive}
use Rattle.stack_rules.specs.Outcome.{Outcome, refused, root, list_no, config_no, max_frame}
use Rattle.stack_rules.specs.Handled.{filter_rows}
use Rattle.stack_rules.specs.Deliveries.{delivered, delivery_rows, takers}

-- a filter that isn't Running turns a receive back
abbrev pub up_at_filter : Net → Option Attached → LiveList → Bool → List Row
up_at_filter net None l keeps = []
up_at_filter net (Some a) l keeps =
    if is_running a.state then filter_rows net a l keeps else turned_back net.modules l (Filter a.filter) Paused

-- a list on its way up is worked; at the bindings the first one stands for all
abbrev pub up_rows : Net → LiveList → Target → Bool → List Row
up_rows net l (Module (Filter f)) keeps = up_at_filter net (attached f net.modules.filters) l keeps
up_rows net l Bindings keeps =
    if phase_is_running net.phase then delivery_rows net l keeps else turned_back net.modules l (Binding 0) Paused
up_rows net l (Module Miniport) keeps = []
up_rows net l (Module (Binding b)) keeps = []

-- the miniport indicates a list of its own
abbrev pub indicated : Net → List (List ℕ) → List Row
indicated net frames =
    root net net.next.list Miniport direction.Up None frames
    ∷ onward net.modules (list_no net.next.list) direction.Up (position net.modules.order Miniport)
    ∷ []

abbrev pub indicate_outcome : Net → List (List ℕ) → Outcome
indicate_outcome net frames =
    if is_running net.modules.miniport
    then (if is_full net Miniport
    then refused refusal.NoList
    else record { reply = reply.Indicated (list_no net.next.list); rows = indicated net frames })
    else refused refusal.NotRunning

-- a lent list is home in its own turn, where it stops
abbrev pub lent_home : ListNo → ListStatus → List Row
lent_home list status = row.Home list Miniport status ∷ []

abbrev pub lent_back : ListNo → ModuleId → ListStatus → List Row
lent_back list m status = row.TurnBack list m status ∷ lent_home list status

-- a filter that changes a lent list sends a copy in its place
abbrev pub copied : Net → Attached → ListNo → List (List ℕ) → List Row
copied net a list frames =
    row.Issue (list_no (net.next.list + 1)) (Filter a.filter) (config_no net.modules.config) direction.Up None (origin.Copy list) frames
    ∷ onward net.modules (list_no (net.next.list + 1)) direction.Up (position net.modules.order (Filter a.filter))
    ∷ lent_home list Success

abbrev pub lent_changes : Net → Attached → ListNo → List (List ℕ) → List Row
lent_changes net a list frames =
    if is_full net (Filter a.filter) then lent_back list (Filter a.filter) Resources else copied net a list frames

-- what a filter makes of a lent list: where it leaves it as it is, what happens further up follows
abbrev pub lent_handled : Net → Attached → ListNo → List (List ℕ) → List Row → Option (List (List ℕ)) → List Row
lent_handled net a list frames further None = lent_back list (Filter a.filter) Dropped
lent_handled net a list frames further (Some made) = if same_frames made frames then further else lent_changes net a list made

-- a lent list at a filter that has the receive pair
abbrev pub lent_at : Net → Option Attached → ListNo → List (List ℕ) → List Row → List Row
lent_at net None list frames further = further
lent_at net (Some a) list frames further =
    if is_running a.state
    then row.Give list (Filter a.filter) handler.ReceiveLent
    ∷ lent_handled net a list frames further (applied (max_frame net.head) a.setup.receive frames)
    else lent_back list (Filter a.filter) Paused

-- a lent list at the bindings
abbrev pub lent_delivery : Net → ListNo → List (List ℕ) → List Row
lent_delivery net list frames =
    if phase_is_running net.phase
    then delivered net list frames how.Lent (net.next.list + 1) (takers net frames) ++ lent_home list Success
    else lent_back list (Binding 0) Paused

-- the lent list goes up through these filters, the nearest first, to the bindings
abbrev pub lent_up : Net → ListNo → List (List ℕ) → List ℕ → List Row
lent_up net list frames [] = lent_delivery net list frames
lent_up net list frames (f ∷ fs) = lent_at net (attached f net.modules.filters) list frames (lent_up net list frames fs)

abbrev pub lent_rows : Net → List (List ℕ) → List Row
lent_rows net frames =
    root net net.next.list Miniport direction.Lent None frames
    ∷ lent_up net (list_no net.next.list) frames (filter (has_receive net.modules) (reverse net.modules.order))

abbrev pub lend_outcome : Net → List (List ℕ) → Outcome
lend_outcome net frames =
    if is_running net.modules.miniport
    then (if is_full net Miniport
    then refused refusal.NoList
    else record { reply = reply.Lent (list_no net.next.list); rows = lent_rows net frames })
    else refused refusal.NotRunning

-- a binding returns a list that it keeps
abbrev pub give_back_of : Net → ℕ → Option LiveList → Outcome
give_back_of net binding None = refused refusal.NotHeld
give_back_of net binding (Some l) =
    if is_kept_by (Binding binding) l.stand
    then record { reply = reply.Ok; rows = homeward net.modules l 0 Success ∷ [] }
    else refused refusal.NotHeld

abbrev pub give_back_outcome : Net → ℕ → ListNo → Outcome
give_back_outcome net binding list = give_back_of net binding (list_of list.0 (lists net.things))
