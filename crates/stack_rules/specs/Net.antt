-- The state after a journal: all that the next turn depends on, and nothing else. It is a fold over the
-- turns of the journal and their rows.
use Rattle.std.specs.Prelude.{ℕ, ◌+◌, ◌==◌, Bool, true, false, not, List, [], ◌∷◌, ◌++◌, Option, Some, None, if◌then◌else◌, slice_set, replicate, length, map, filter, find}
use Rattle.ndis_base.specs.declared.ModuleId.{ModuleId}
use Rattle.ndis_base.specs.declared.ModuleId.TheVariants.{Miniport, Filter, Binding}
use Rattle.ndis_base.specs.declared.OidNo.{OidNo}
use Rattle.ndis_base.specs.declared.ModuleState.{ModuleState}
use Rattle.ndis_base.specs.declared.ModuleState.TheVariants as state
use Rattle.ndis_base.specs.declared.Phase.{Phase}
use Rattle.ndis_base.specs.declared.Phase.TheVariants as phase
use Rattle.ndis_base.specs.declared.FilterKind.{FilterKind}
use Rattle.ndis_base.specs.declared.OidStatus.{OidStatus}
use Rattle.ndis_base.specs.declared.Handlers.{Handlers}
use Rattle.journal_types.specs.declared.StackHead.{StackHead}
use Rattle.journal_types.specs.declared.Setup.{Setup}
use Rattle.journal_types.specs.declared.Target.{Target}
use Rattle.journal_types.specs.declared.PassWay.{PassWay}
use Rattle.journal_types.specs.declared.PhaseOf.TheVariants as of
use Rattle.journal_types.specs.declared.OutWay.{OutWay}
use Rattle.journal_types.specs.declared.OutWay.TheVariants as out
use Rattle.journal_types.specs.declared.Event.{Event}
use Rattle.journal_types.specs.declared.Event.TheVariants as event
use Rattle.journal_types.specs.declared.Reply.{Reply}
use Rattle.journal_types.specs.declared.Reply.TheVariants as reply
use Rattle.journal_types.specs.declared.Row.{Row}
use Rattle.journal_types.specs.declared.Row.TheVariants as row
use Rattle.journal_types.specs.declared.Turn.{Turn}
use Rattle.stack_rules.specs.declared.Stand.TheVariants as stand
use Rattle.stack_rules.specs.declared.LiveList.{LiveList}
use Rattle.stack_rules.specs.declared.Thing.{Thing}
use Rattle.stack_rules.specs.declared.Thing.TheVariants as thing
use Rattle.stack_rules.specs.declared.RequestAt.{RequestAt}
use Rattle.stack_rules.specs.declared.RequestAt.TheVariants as at
use Rattle.stack_rules.specs.declared.Request.{Request}
use Rattle.stack_rules.specs.declared.Attached.{Attached}
use Rattle.stack_rules.specs.declared.Message.{Message}
use Rattle.stack_rules.specs.Tests.{is_miniport, is_halted}
use Rattle.stack_rules.specs.Port.{Port, first_port, port_after_done, port_after_out}
use Rattle.stack_rules.specs.Messages.{without_oldest, messages_after, messages_in_phase}

-- the modules: the miniport's state, each binding's, the filters that are attached, and the
-- configuration: its number, and its filters from top to bottom
pub record Modules : Type 0 where
  pub miniport : ModuleState
  pub bindings : List ModuleState
  pub filters : List Attached
  pub config : ℕ
  pub order : List ℕ

-- the numbers that come next
pub record Counters : Type 0 where
  pub list : ℕ
  pub request : ℕ
  pub status : ℕ
  pub message : ℕ
  pub filter : ℕ

-- the state: the fixed part and the phase, the modules, what is kept or on its way in the order of its
-- last row, the requests that aren't done, the miniport's counts, the messages that mux bindings keep, and
-- the numbers that come next
pub record Net : Type 0 where
  pub head : StackHead
  pub phase : Phase
  pub modules : Modules
  pub things : List Thing
  pub requests : List Request
  pub port : Port
  pub messages : List Message
  pub next : Counters

-- before the first turn
abbrev pub start : StackHead → Net
start head = record {
  head = head;
  phase = phase.Halted;
  modules = record { miniport = state.Halted; bindings = replicate (length head.bindings) state.Unbound; filters = []; config = 0; order = [] };
  things = [];
  requests = [];
  port = first_port head;
  messages = [];
  next = record { list = 1; request = 1; status = 1; message = 1; filter = 1 };
}

-- the live lists, in the order of their last Keep or Pass row
abbrev pub lists : List Thing → List LiveList
lists [] = []
lists (thing.List l ∷ ts) = l ∷ lists ts
lists (thing.Status s ∷ ts) = lists ts
lists (thing.Answer a ∷ ts) = lists ts

-- the live list of a number
abbrev pub list_of : ℕ → List LiveList → Option LiveList
list_of n ls = find (λ l. l.list.0 == n) ls

abbrev pub is_list : ℕ → Thing → Bool
is_list n (thing.List l) = l.list.0 == n
is_list n (thing.Status s) = false
is_list n (thing.Answer a) = false

-- the things but the list of this number
abbrev pub without : ℕ → List Thing → List Thing
without n ts = filter (λ t. not (is_list n t)) ts

abbrev pub with_list : ℕ → (LiveList → LiveList) → Thing → Thing
with_list n f (thing.List l) = if l.list.0 == n then thing.List (f l) else thing.List l
with_list n f (thing.Status s) = thing.Status s
with_list n f (thing.Answer a) = thing.Answer a

-- the list of this number is changed in its place
abbrev pub after_change : ℕ → (LiveList → LiveList) → List Thing → List Thing
after_change n f ts = map (with_list n f) ts

abbrev pub at_end : List Thing → Option LiveList → List Thing
at_end ts None = ts
at_end ts (Some l) = ts ++ thing.List l ∷ []

abbrev pub as_kept : ModuleId → Option LiveList → Option LiveList
as_kept m None = None
as_kept m (Some l) = Some (record l { last = m; stand = stand.Kept m })

-- a list on its way; a taken list that is passed on is no longer with the other stack
abbrev pub as_passed : PassWay → Target → Option LiveList → Option LiveList
as_passed way to None = None
as_passed way to (Some l) = Some (record l { stand = stand.Passed way to; crossed = None })

-- the list goes to the end, as kept or as passed
abbrev pub after_keep : ℕ → ModuleId → List Thing → List Thing
after_keep n m ts = at_end (without n ts) (as_kept m (list_of n (lists ts)))

abbrev pub after_pass : ℕ → PassWay → Target → List Thing → List Thing
after_pass n way to ts = at_end (without n ts) (as_passed way to (list_of n (lists ts)))

abbrev pub is_status : ℕ → Thing → Bool
is_status n (thing.Status s) = s.number.0 == n
is_status n (thing.List l) = false
is_status n (thing.Answer a) = false

-- the answer to a clone of this request
abbrev pub is_answer_to : ℕ → Thing → Bool
is_answer_to parent (thing.Answer a) = a.parent.0 == parent
is_answer_to parent (thing.List l) = false
is_answer_to parent (thing.Status s) = false

-- the filters
abbrev pub attached : ℕ → List Attached → Option Attached
attached f entries = find (λ a. a.filter == f) entries

abbrev pub with_state : ℕ → ModuleState → Attached → Attached
with_state f s a = if a.filter == f then record a { state = s } else a

abbrev pub is_detached : ModuleState → Bool
is_detached state.Detached = true
is_detached _ = false

-- a filter's state changes; a detached filter is forgotten
abbrev pub filters_after : ℕ → ModuleState → List Attached → List Attached
filters_after f s entries = if is_detached s then filter (λ a. not (a.filter == f)) entries else map (with_state f s) entries

abbrev pub modules_after : Modules → ModuleId → ModuleState → Modules
modules_after ms Miniport s = record ms { miniport = s }
modules_after ms (Binding b) s = record ms { bindings = slice_set ms.bindings b s }
modules_after ms (Filter f) s = record ms { filters = filters_after f s ms.filters }

-- the counts and packet filters start again where the miniport is initialised
abbrev pub port_after : Net → ModuleId → Port
port_after net Miniport = if is_halted net.modules.miniport then first_port net.head else net.port
port_after net (Binding b) = net.port
port_after net (Filter f) = net.port

-- a filter's handlers; a filter that isn't attached has none
abbrev pub handlers_of : Option Attached → Handlers
handlers_of None = record { send = false; receive = false; oid = false; status = false }
handlers_of (Some a) = a.setup.handlers

-- whether a filter has the OID pair
abbrev pub has_oid : Modules → ℕ → Bool
has_oid ms f = (handlers_of (attached f ms.filters)).oid

-- the filters below a filter, from top to bottom
abbrev pub below : ℕ → List ℕ → List ℕ
below f [] = []
below f (g ∷ gs) = if g == f then gs else below f gs

abbrev pub first_oid : Modules → List ℕ → ModuleId
first_oid ms [] = Miniport
first_oid ms (f ∷ fs) = if has_oid ms f then Filter f else first_oid ms fs

-- requests
abbrev pub request_of : ℕ → List Request → Option Request
request_of n rs = find (λ r. r.request.0 == n) rs

-- a clone waits at the next OID module below the filter that its parent was given to; no parent of a clone
-- is elsewhere, so the last case never comes
abbrev pub place_below : Modules → RequestAt → RequestAt
place_below ms (at.Given (Filter f)) = at.Waiting (first_oid ms (below f ms.order))
place_below ms _ = at.Entry

-- a clone's parent is there; the first case never comes
abbrev pub place_of_clone : Modules → Option Request → RequestAt
place_of_clone ms None = at.Entry
place_of_clone ms (Some parent) = place_below ms parent.at

abbrev pub place_of_request : Modules → List Request → Option OidNo → RequestAt
place_of_request ms rs None = at.Entry
place_of_request ms rs (Some parent) = place_of_clone ms (request_of parent.0 rs)

abbrev pub given_to : ℕ → ModuleId → Request → Request
given_to n m r = if r.request.0 == n then record r { at = at.Given m } else r

-- a request that is done is its parent's answer, or no more
abbrev pub after_answer : Option OidNo → OidNo → OidStatus → List ℕ → List Thing → List Thing
after_answer None request status value ts = ts
after_answer (Some parent) request status value ts = ts ++ thing.Answer (record { request = request; parent = parent; status = status; value = value }) ∷ []

abbrev pub things_after_done : Option Request → OidNo → OidStatus → List ℕ → List Thing → List Thing
things_after_done None request status value ts = ts
things_after_done (Some r) request status value ts = after_answer r.parent request status value (filter (λ t. not (is_answer_to request.0 t)) ts)

abbrev pub taken_by : ℕ → LiveList → LiveList
taken_by message l = record l { crossed = Some (record { 0 = message }) }

abbrev pub things_after_out : ℕ → OutWay → List Thing → List Thing
things_after_out message (out.Down list) ts = after_change list.0 (taken_by message) ts
things_after_out message out.Up ts = ts

-- the number after this one, where it is the next
abbrev pub number_past : ℕ → ℕ → ℕ
number_past next n = if n == next then next + 1 else next

abbrev pub had_by : ModuleId → LiveList → LiveList
had_by m l = record l { last = m }

abbrev pub without_status : ℕ → List Thing → List Thing
without_status n ts = filter (λ t. not (is_status n t)) ts

-- the number after that of a filter which is attached
abbrev pub filter_after : ModuleId → ModuleState → ℕ → ℕ
filter_after (Filter f) state.Attaching next = f + 1
filter_after _ _ next = next

-- the state after one more row
abbrev pub after : Net → Row → Net
after net (row.Issue list owner config direction cancel origin frames) = record net {
  things = net.things ++ thing.List (record { list = list; owner = owner; direction = direction; cancel = cancel; origin = origin; frames = frames; last = owner; stand = stand.Unplaced; crossed = None }) ∷ [];
  port = record net.port { received = if is_miniport owner then net.port.received + length frames else net.port.received };
  next = record net.next { list = net.next.list + 1 };
}
after net (row.Give list m handler) = record net { things = after_change list.0 (had_by m) net.things }
after net (row.Pass list way to) = record net { things = after_pass list.0 way to net.things }
after net (row.Keep list m) = record net { things = after_keep list.0 m net.things }
after net (row.TurnBack list m status) = record net { things = after_change list.0 (had_by m) net.things }
after net (row.Home list owner status) = record net { things = without list.0 net.things }
after net (row.Wire list frames) = record net { port = record net.port { sent = net.port.sent + length frames } }
after net (row.Deliver list binding how frames) = record net { messages = messages_after net.head binding frames net.messages }
after net (row.Phase (of.Module m s)) = record net {
  modules = modules_after net.modules m s;
  port = port_after net m;
  next = record net.next { filter = filter_after m s net.next.filter };
}
after net (row.Phase (of.Stack p)) = record net { phase = p; messages = messages_in_phase p net.messages }
after net (row.Config config filters) = record net { modules = record net.modules { config = config.0; order = filters } }
after net (row.OidIssue request parent binding kind code value) = record net {
  requests = net.requests ++ record { request = request; parent = parent; binding = binding; kind = kind; code = code; value = value; at = place_of_request net.modules net.requests parent } ∷ [];
  next = record net.next { request = net.next.request + 1 };
}
after net (row.OidGive request m) = record net { requests = map (given_to request.0 m) net.requests }
after net (row.OidDone request status value) = record net {
  things = things_after_done (request_of request.0 net.requests) request status value net.things;
  requests = filter (λ r. not (r.request.0 == request.0)) net.requests;
  port = port_after_done (request_of request.0 net.requests) status net.port;
}
after net (row.Status number name to) = record net {
  things = without_status number.0 net.things ++ thing.Status (record { number = number; name = name; to = to }) ∷ [];
  next = record net.next { status = number_past net.next.status number.0 };
}
after net (row.Seen number m) = record net { things = without_status number.0 net.things }
after net (row.CrossOut message way frames) = record net {
  things = things_after_out message.0 way net.things;
  port = port_after_out way (length frames) net.port;
  next = record net.next { message = net.next.message + 1 };
}
after net (row.CrossIn stack message way frames) = net

abbrev pub after_rows : Net → List Row → Net
after_rows net [] = net
after_rows net (r ∷ rows) = after_rows (after net r) rows

abbrev pub with_filter : ℕ → FilterKind → Setup → Net → Net
with_filter f kind setup net = record net { modules = record net.modules { filters = net.modules.filters ++ record { filter = f; kind = kind; setup = setup; state = state.Detached } ∷ [] } }

-- what the event and its reply tell beside the rows: the setup of a new filter, and the message that
-- was taken
abbrev pub told : Net → Event → Reply → Net
told net (event.Insert kind position setup) (reply.Inserted f) = with_filter f kind setup net
told net (event.Replace old kind setup) (reply.Replaced f) = with_filter f kind setup net
told net (event.CrossTakeUp binding vlan) (reply.Taken message frames) = record net { messages = without_oldest binding vlan net.messages }
told net _ _ = net

-- the state after one more turn
abbrev pub after_turn : Net → Turn → Net
after_turn net turn = after_rows (told net turn.event turn.reply) turn.rows

abbrev pub after_turns : Net → List Turn → Net
after_turns net [] = net
after_turns net (turn ∷ turns) = after_turns (after_turn net turn) turns

-- the state after the turns of a stack of this head
abbrev pub seen : StackHead → List Turn → Net
seen head turns = after_turns (start head) turns
