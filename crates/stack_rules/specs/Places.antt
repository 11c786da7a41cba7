-- Where modules and lists are, and how many lists a position has outstanding. Position 0 is the bindings,
-- positions 1 to k are the filters from top to bottom, and position k + 1 is the miniport (WDK, "NDIS
-- Driver Stack": protocol drivers above filter modules above a miniport).
use Rattle.std.specs.Prelude.{ℕ, ◌+◌, ◌==◌, ◌||◌, nat_le, Bool, true, false, not, List, [], ◌∷◌, Option, Some, None, if◌then◌else◌, length, filter, find, count_by, slice_index_or}
use Rattle.std.specs.List.{list_any}
use Rattle.ndis_base.specs.declared.ModuleId.{ModuleId}
use Rattle.ndis_base.specs.declared.ModuleId.TheVariants.{Miniport, Filter, Binding}
use Rattle.ndis_base.specs.declared.ModuleState.{ModuleState}
use Rattle.ndis_base.specs.declared.ModuleState.TheVariants as state
use Rattle.ndis_base.specs.declared.Origin.{Origin}
use Rattle.ndis_base.specs.declared.Origin.TheVariants as origin
use Rattle.ndis_base.specs.declared.CrossNo.{CrossNo}
use Rattle.ndis_base.specs.declared.ProtocolKind.TheVariants as protocol_kind
use Rattle.journal_types.specs.declared.PassWay.TheVariants as way
use Rattle.journal_types.specs.declared.Target.{Target}
use Rattle.journal_types.specs.declared.Target.TheVariants.{Module, Bindings}
use Rattle.stack_rules.specs.declared.Stand.{Stand}
use Rattle.stack_rules.specs.declared.Stand.TheVariants as stand
use Rattle.stack_rules.specs.declared.LiveList.{LiveList}
use Rattle.stack_rules.specs.declared.Thing.{Thing}
use Rattle.stack_rules.specs.declared.Thing.TheVariants as thing
use Rattle.stack_rules.specs.declared.Attached.{Attached}
use Rattle.stack_rules.specs.Tests.{same_module}
use Rattle.stack_rules.specs.Net.{Net, lists, attached}

-- how many filters of the order stand above a filter
abbrev pub above : ℕ → List ℕ → ℕ
above f [] = 0
above f (g ∷ gs) = if g == f then 0 else above f gs + 1

-- the position of a module in an order of filters
abbrev pub position : List ℕ → ModuleId → ℕ
position order (Binding b) = 0
position order (Filter f) = above f order + 1
position order Miniport = length order + 1

abbrev pub position_of_target : List ℕ → Target → ℕ
position_of_target order (Module m) = position order m
position_of_target order Bindings = 0

-- where the list is: kept at a position, on its way down or back to one, or on its way done or up from one
abbrev pub position_in : List ℕ → ModuleId → Stand → Option ℕ
position_in order last stand.Unplaced = None
position_in order last (stand.Kept m) = Some (position order m)
position_in order last (stand.Passed way.Down to) = Some (position_of_target order to)
position_in order last (stand.Passed (way.Back status) to) = Some (position_of_target order to)
position_in order last (stand.Passed (way.Done status) to) = Some (position order last)
position_in order last (stand.Passed way.Up to) = Some (position order last)

abbrev pub is_at_most : ℕ → Option ℕ → Bool
is_at_most i None = false
is_at_most i (Some p) = nat_le p i

-- the list counts at a position: a module there owns it, or it stands there or above
abbrev pub is_counted_at : List ℕ → ℕ → LiveList → Bool
is_counted_at order i l = (position order l.owner == i) || is_at_most i (position_in order l.last l.stand)

-- how many lists a position has outstanding
abbrev pub outstanding : Net → ℕ → ℕ
outstanding net i = count_by (is_counted_at net.modules.order i) (lists net.things)

abbrev pub is_kept_by : ModuleId → Stand → Bool
is_kept_by m (stand.Kept keeper) = same_module keeper m
is_kept_by m _ = false

abbrev pub is_passed : Stand → Bool
is_passed (stand.Passed way to) = true
is_passed _ = false

-- the lists that a module keeps, the oldest first
abbrev pub kept_lists : Net → ModuleId → List LiveList
kept_lists net m = filter (λ l. is_kept_by m l.stand) (lists net.things)

abbrev pub is_clone_of : ℕ → Origin → Bool
is_clone_of n (origin.Clone o) = o.0 == n
is_clone_of n _ = false

-- a clone of the list is live
abbrev pub has_clone : Net → ℕ → Bool
has_clone net n = list_any (λ l. is_clone_of n l.origin) (lists net.things)

abbrev pub is_crossed : Option CrossNo → Bool
is_crossed None = false
is_crossed (Some message) = true

-- a kept list waits where it has crossed to another stack or a clone of it is live; else it is ready
abbrev pub is_waiting : Net → LiveList → Bool
is_waiting net l = is_crossed l.crossed || has_clone net l.list.0

-- the ready lists that a module keeps, the oldest first
abbrev pub ready_lists : Net → ModuleId → List LiveList
ready_lists net m = filter (λ l. not (is_waiting net l)) (kept_lists net m)

-- on its way: the agenda's items
abbrev pub is_away : Thing → Bool
is_away (thing.List l) = is_passed l.stand
is_away (thing.Status s) = true
is_away (thing.Answer a) = true

-- what is on its way, the first first
abbrev pub agenda : Net → List Thing
agenda net = filter is_away net.things

-- what a pump works
abbrev pub agenda_first : Net → Option Thing
agenda_first net = find is_away net.things

-- how many of the live lists a module owns
abbrev pub owned : Net → ModuleId → ℕ
owned net m = count_by (λ l. same_module l.owner m) (lists net.things)

-- the lists in the pool of a filter, and of any module
abbrev pub pool_in : Option Attached → ℕ
pool_in None = 0
pool_in (Some a) = a.setup.pool

abbrev pub pool_of : Net → ModuleId → ℕ
pool_of net Miniport = net.head.port.pool
pool_of net (Binding b) = (slice_index_or net.head.bindings b (protocol_kind.Log, 0)).1
pool_of net (Filter f) = pool_in (attached f net.modules.filters)

-- a pool is full where the module's live lists are as many as the pool has
abbrev pub is_full : Net → ModuleId → Bool
is_full net m = owned net m == pool_of net m

-- the state of a module; a filter that isn't attached is Detached
abbrev pub state_in : Option Attached → ModuleState
state_in None = state.Detached
state_in (Some a) = a.state

abbrev pub state_of : Net → ModuleId → ModuleState
state_of net Miniport = net.modules.miniport
state_of net (Binding b) = slice_index_or net.modules.bindings b state.Unbound
state_of net (Filter f) = state_in (attached f net.modules.filters)
