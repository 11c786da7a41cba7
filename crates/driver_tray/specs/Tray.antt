-- The tray: the journal and the turn under way, the state after its rows, what is on its way, and the pool of the
-- module that is called. A driver's calls into the stack are written into it.
use Rattle.std.specs.Prelude.{ℕ, Bool, true, false, ◌≡◌, ◌-◌, ◌<◌, ◌^◌, List, [], ◌∷◌, ◌++◌, Option, Some, None, not, filter, length, sum_by}
use Rattle.ndis_base.specs.declared.ConfigNo.{ConfigNo}
use Rattle.ndis_base.specs.declared.ModuleId.{ModuleId}
use Rattle.ndis_base.specs.declared.ListNo.{ListNo}
use Rattle.ndis_base.specs.declared.ListStatus.{ListStatus}
use Rattle.ndis_base.specs.declared.OidKind.{OidKind}
use Rattle.ndis_base.specs.declared.OidNo.{OidNo}
use Rattle.ndis_base.specs.declared.OidStatus.{OidStatus}
use Rattle.ndis_base.specs.declared.StatusName.{StatusName}
use Rattle.ndis_base.specs.declared.StatusNo.{StatusNo}
use Rattle.ndis_base.specs.declared.Who.{Who}
use Rattle.ndis_base.specs.declared.Direction.{Direction}
use Rattle.ndis_base.specs.declared.Direction.TheVariants as direction
use Rattle.ndis_base.specs.declared.Origin.TheVariants as origin
use Rattle.journal_types.specs.declared.StackHead.{StackHead}
use Rattle.journal_types.specs.declared.Event.{Event}
use Rattle.journal_types.specs.declared.Reply.{Reply}
use Rattle.journal_types.specs.declared.Handler.{Handler}
use Rattle.journal_types.specs.declared.How.{How}
use Rattle.journal_types.specs.declared.PassWay.{PassWay}
use Rattle.journal_types.specs.declared.Target.{Target}
use Rattle.journal_types.specs.declared.PhaseOf.{PhaseOf}
use Rattle.journal_types.specs.declared.PhaseOf.TheVariants as of
use Rattle.journal_types.specs.declared.Row.{Row}
use Rattle.journal_types.specs.declared.Row.TheVariants as row
use Rattle.journal_types.specs.declared.Turn.{Turn}
use Rattle.buffer_pools.specs.declared.label.Label.{Label}
use Rattle.buffer_pools.specs.Views.{ListView, PoolView, Issues, Frees}
use Rattle.agenda_items.specs.declared.Carried.{Carried}
use Rattle.agenda_items.specs.declared.Carried.TheVariants.{List as a_list, Status as a_status, Answer as an_answer}
use Rattle.agenda_items.specs.Views.{passed_by, carries_status, carries_answer}
use Rattle.driver_tray.specs.declared.on_way.First.{First}
use Rattle.driver_tray.specs.declared.on_way.First.TheVariants as first
use Rattle.flat_journal.specs.declared.types.FlatRow.{FlatRow}
use Rattle.flat_journal.specs.declared.types.FlatRow.TheVariants as flat_row
use Rattle.flat_journal.specs.declared.types.Room.{Room}
use Rattle.flat_journal.specs.Payloads.{Payloads}
use Rattle.stack_rules.specs.declared.Answered.{Answered}
use Rattle.stack_rules.specs.declared.Request.{Request}
use Rattle.stack_rules.specs.declared.StatusAway.{StatusAway}
use Rattle.stack_rules.specs.Net.{Net, start, told, after, request_of}
use Rattle.stack_rules.specs.Places.{position}
use Rattle.stack_rules.specs.Targets.{onward, homeward_by, next_status}
use Rattle.stack_rules.specs.Outcome.{list_no, config_no, oid_no}
use Rattle.stack_ledger.specs.Bare.{filter_number}

pub record TrayView : Type 0 where
  pub head : StackHead
  pub turns : List Turn
  pub told_by : Option (Event × Reply)
  pub net : Net
  pub rows : List Row
  pub payloads : Payloads
  pub room : Room
  pub queue : List Carried
  pub slack : ℕ
  pub caller : ModuleId
  pub pool : PoolView

-- a tray of a stack without turns
pub record IsNew (head_is : StackHead) (t : TrayView) : Type 0 where
  pub head : t.head ≡ head_is
  pub turns : t.turns ≡ []
  pub told_by : t.told_by ≡ None
  pub net : t.net ≡ start head_is
  pub rows : t.rows ≡ []
  pub queue : t.queue ≡ []

-- the state in which the rows of the turn begin: the journal's, and with it what was told
abbrev pub begun_by : Net → Option (Event × Reply) → Net
begun_by net None = net
begun_by net (Some telling) = told net telling.0 telling.1

-- the event and its reply were told
abbrev pub told_to : TrayView → Event → Reply → TrayView
told_to t e r = record t { told_by = Some (e, r); net = told t.net e r }

-- what is told changes neither the modules nor the number of the next list
pub record TellsOther (net : Net) (e : Event) (r : Reply) : Type 0 where
  pub modules : (told net e r).modules ≡ net.modules
  pub next : (told net e r).next.list ≡ net.next.list

-- the turn of the rows so far
abbrev pub turn_of : TrayView → Who → Event → Reply → Turn
turn_of t who e r = record { who = who; event = e; reply = r; rows = t.rows }

-- the rows became a turn
abbrev pub ended : TrayView → Turn → TrayView
ended t turn = record t { turns = t.turns ++ turn ∷ []; told_by = None; rows = []; room = record t.room { turns = t.room.turns - 1 } }

-- what is first on its way
abbrev pub first_way : List Carried → Option First
first_way [] = None
first_way (a_list l way to ∷ rest) = Some (first.List way to)
first_way (a_status s ∷ rest) = Some first.Status
first_way (an_answer a ∷ rest) = Some first.Answer

-- a status that is on its way
abbrev pub is_status_away : Carried → Bool
is_status_away (a_status s) = true
is_status_away (a_list l way to) = false
is_status_away (an_answer a) = false

-- the first thing on its way, where it is a status
abbrev pub first_status : List Carried → Option StatusAway
first_status (a_status s ∷ rest) = Some s
first_status _ = None

-- the first thing on its way, where it is an answer
abbrev pub first_answer : List Carried → Option Answered
first_answer (an_answer a ∷ rest) = Some a
first_answer _ = None

-- the rows that change only lists, statuses, answers and messages
abbrev pub IsSteady : FlatRow → Type 0
IsSteady (flat_row.Give list m handler) = Unit {0}
IsSteady (flat_row.Pass list way to) = Unit {0}
IsSteady (flat_row.Keep list m) = Unit {0}
IsSteady (flat_row.TurnBack list m status) = Unit {0}
IsSteady (flat_row.Home list owner status) = Unit {0}
IsSteady (flat_row.Deliver list binding how frames) = Unit {0}
IsSteady (flat_row.Seen number m) = Unit {0}
IsSteady (flat_row.CrossIn stack message way frames) = Unit {0}
IsSteady _ = ⊥

-- the counts are far from the largest number
pub record IsLow (net : Net) : Type 0 where
  pub list : net.next.list < 2 ^ 60
  pub sent : net.port.sent < 2 ^ 60
  pub received : net.port.received < 2 ^ 60

-- so are the numbers of statuses and of requests
pub record HasNumbers (net : Net) : Type 0 where
  pub status : net.next.status < 2 ^ 60
  pub request : net.next.request < 2 ^ 60

-- one more row
abbrev pub written : TrayView → Row → TrayView
written t r = record t { net = after t.net r; rows = t.rows ++ r ∷ []; room = record t.room { rows = t.room.rows - 1 } }

-- more frames, which rows can show
abbrev pub framed : TrayView → List (List ℕ) → TrayView
framed t frames = record t {
  payloads = record t.payloads { frames = t.payloads.frames ++ frames };
  room = record t.room { frames = t.room.frames - length frames; bytes = t.room.bytes - sum_by length frames };
}

-- more filters, which a row can show, and the row of a configuration of these filters
abbrev pub listed : TrayView → List ℕ → TrayView
listed t filters = record t {
  payloads = record t.payloads { filters = t.payloads.filters ++ filters };
  room = record t.room { filters = t.room.filters - length filters };
}

abbrev pub configured : TrayView → ConfigNo → List ℕ → TrayView
configured t config filters = written (listed t filters) (row.Config config filters)

-- a list is on its way by a row that was written
abbrev pub passed : TrayView → ListView → Row → TrayView
passed t l r = record (written t r) { queue = t.queue ++ passed_by l r; slack = t.slack - 1 }

-- the row of a list that is issued
abbrev pub issue_row : Label → List (List ℕ) → Row
issue_row label frames = row.Issue label.number label.owner label.config label.direction label.cancel label.origin frames

-- a list was issued
abbrev pub issued : TrayView → Label → List (List ℕ) → TrayView
issued t label frames = written (framed t frames) (issue_row label frames)

-- a clone was issued whose frames the journal has, and is behind what is on its way; the row by which it is passed is
-- still to be written
abbrev pub clone_issued : TrayView → Label → List (List ℕ) → ListView → PassWay → Target → TrayView
clone_issued t label frames l way to = record (written t (issue_row label frames)) { queue = t.queue ++ a_list l way to ∷ []; slack = t.slack - 1 }

-- the module that is called was given a list
abbrev pub given : TrayView → ListNo → Handler → TrayView
given t n handler = written t (row.Give n t.caller handler)

-- the rows by which the module that is called passes a list onwards and homewards
abbrev pub onward_row : TrayView → ListView → Row
onward_row t l = onward t.net.modules l.label.number l.label.direction (position t.net.modules.order t.caller)

abbrev pub homeward_row : TrayView → ListView → ListStatus → Row
homeward_row t l status =
    homeward_by t.net.modules l.label.number l.label.owner l.label.direction (position t.net.modules.order t.caller) status

-- the module passed a list on
abbrev pub passed_on : TrayView → ListView → TrayView
passed_on t l = passed t l (onward_row t l)

-- it passed a list homewards
abbrev pub passed_back : TrayView → ListView → ListStatus → TrayView
passed_back t l status = passed t l (homeward_row t l status)

-- it turned a list back
abbrev pub turned_back : TrayView → ListView → ListStatus → TrayView
turned_back t l status = passed_back (written t (row.TurnBack l.label.number t.caller status)) l status

-- it keeps a list
abbrev pub noted : TrayView → ListNo → TrayView
noted t n = written t (row.Keep n t.caller)

-- a list's frames went onto the wire
abbrev pub wired : TrayView → ListView → TrayView
wired t l = written (framed t l.frames) (row.Wire l.label.number l.frames)

-- a list's frames were delivered to a binding
abbrev pub delivered : TrayView → ListView → ℕ → How → TrayView
delivered t l binding how = written (framed t l.frames) (row.Deliver l.label.number binding how l.frames)

-- it turned some lists back, or passed them on or homewards, one after the other
abbrev pub each_turned_back : TrayView → List ListView → ListStatus → TrayView
each_turned_back t [] status = t
each_turned_back t (l ∷ ls) status = each_turned_back (turned_back t l status) ls status

abbrev pub each_passed_on : TrayView → List ListView → TrayView
each_passed_on t [] = t
each_passed_on t (l ∷ ls) = each_passed_on (passed_on t l) ls

abbrev pub each_passed_back : TrayView → List ListView → ListStatus → TrayView
each_passed_back t [] status = t
each_passed_back t (l ∷ ls) status = each_passed_back (passed_back t l status) ls status

-- it took a list of its own pool home
abbrev pub spent : TrayView → ListView → ListStatus → PoolView → TrayView
spent t l status pool = record (written t (row.Home l.label.number l.label.owner status)) { pool = pool }

pub record Spends (t : TrayView) (l : ListView) (status : ListStatus) (t' : TrayView) : Type 0 where
  pub frees : Frees t.pool l t'.pool
  pub tray : t' ≡ spent t l status t'.pool

-- the label of a new list of the module that is called, which is no clone
abbrev pub root_label : TrayView → Direction → Option ℕ → Label
root_label t direction cancel = record {
  number = list_no t.net.next.list;
  owner = t.caller;
  config = config_no t.net.modules.config;
  direction = direction;
  cancel = cancel;
  origin = origin.Root;
}

-- a new list of the module that is called, whose frames the journal has, is on its way
abbrev pub started : TrayView → ListView → PoolView → TrayView
started t l pool = passed_on (written (record t { pool = pool }) (issue_row l.label l.frames)) l

pub record Starts (t : TrayView) (direction : Direction) (cancel : Option ℕ) (made : List (List ℕ)) (t' : TrayView) : Type 0 where
  pub list : ListView
  pub label : list.label ≡ root_label t direction cancel
  pub frames : list.frames ≡ made
  pub issues : Issues t.pool list t'.pool
  pub tray : t' ≡ started t list t'.pool

-- the label of a clone of a list, of the pool of the module that is called
abbrev pub clone_label : TrayView → ListView → Label
clone_label t l = record {
  number = list_no t.net.next.list;
  owner = t.caller;
  config = config_no t.net.modules.config;
  direction = l.label.direction;
  cancel = l.label.cancel;
  origin = origin.Clone l.label.number;
}

-- the module sent a clone on in the place of a list, which it keeps
abbrev pub cloned_on : TrayView → ListView → ListView → PoolView → TrayView
cloned_on t l c pool = passed_on (noted (issued (record t { pool = pool }) c.label c.frames) l.label.number) c

pub record Clones (t : TrayView) (l : ListView) (made : List (List ℕ)) (t' : TrayView) : Type 0 where
  pub clone : ListView
  pub label : clone.label ≡ clone_label t l
  pub frames : clone.frames ≡ made
  pub issues : Issues t.pool clone t'.pool
  pub tray : t' ≡ cloned_on t l clone t'.pool

-- a new list of the module that is called, whose frames the journal has, is with its owner, which lends it
abbrev pub lent_out : TrayView → ListView → PoolView → TrayView
lent_out t l pool = written (record t { pool = pool }) (issue_row l.label l.frames)

pub record LendsOut (t : TrayView) (made : List (List ℕ)) (l : ListView) (t' : TrayView) : Type 0 where
  pub label : l.label ≡ root_label t direction.Lent None
  pub frames : l.frames ≡ made
  pub issues : Issues t.pool l t'.pool
  pub tray : t' ≡ lent_out t l t'.pool

-- the label of a copy of a list that is lent, of the pool of the module that is called
abbrev pub copy_label : TrayView → ListView → Label
copy_label t l = record {
  number = list_no t.net.next.list;
  owner = t.caller;
  config = config_no t.net.modules.config;
  direction = direction.Up;
  cancel = None;
  origin = origin.Copy l.label.number;
}

-- the module passed a copy on in the place of a list that is lent to it
abbrev pub copied_on : TrayView → ListView → PoolView → TrayView
copied_on t c pool = passed_on (issued (record t { pool = pool }) c.label c.frames) c

pub record Copies (t : TrayView) (l : ListView) (made : List (List ℕ)) (t' : TrayView) : Type 0 where
  pub copy : ListView
  pub label : copy.label ≡ copy_label t l
  pub frames : copy.frames ≡ made
  pub issues : Issues t.pool copy t'.pool
  pub tray : t' ≡ copied_on t copy t'.pool

-- the number of the filter whose state a row tells; 0 for another
abbrev pub phase_filter : PhaseOf → ℕ
phase_filter (of.Module m s) = filter_number m
phase_filter (of.Stack p) = 0

-- the status of a number is no longer on its way
abbrev pub without_status : TrayView → ℕ → TrayView
without_status t n = record t { queue = filter (λ c. not (carries_status n c)) t.queue }

-- a module saw a status
abbrev pub seen_at : TrayView → StatusNo → ModuleId → TrayView
seen_at t number m = without_status (written t (row.Seen number m)) number.0

-- a status is on its way, behind all else
abbrev pub status_on : TrayView → StatusAway → TrayView
status_on t s = record (written t (row.Status s.number s.name s.to)) { queue = filter (λ c. not (carries_status s.number.0 c)) t.queue ++ a_status s ∷ []; slack = t.slack - 1 }

-- a status as the module that is called indicates it
abbrev pub status_from : TrayView → StatusNo → StatusName → StatusAway
status_from t number name = record { number = number; name = name; to = next_status t.net.modules (position t.net.modules.order t.caller) }

abbrev pub indicated : TrayView → StatusNo → StatusName → TrayView
indicated t number name = status_on t (status_from t number name)

-- the value of a request, which rows can show: it takes the room of a frame and of its bytes
abbrev pub valued : TrayView → List ℕ → TrayView
valued t value = framed t (value ∷ [])

-- a request was issued, which takes room for one
abbrev pub request_issued : TrayView → Row → TrayView
request_issued t r = record (written t r) { slack = t.slack - 1 }

-- a binding asked with a value that the journal has
abbrev pub asked : TrayView → ℕ → OidKind → ℕ → List ℕ → TrayView
asked t binding kind code value = request_issued t (row.OidIssue (oid_no t.net.next.request) None binding kind code value)

-- a filter forwarded a request by a clone
abbrev pub forwarded : TrayView → Request → TrayView
forwarded t r = request_issued (valued t r.value) (row.OidIssue (oid_no t.net.next.request) (Some r.request) r.binding r.kind r.code r.value)

-- a module was given a request
abbrev pub request_given : TrayView → OidNo → ModuleId → TrayView
request_given t request to = written t (row.OidGive request to)

-- what is on its way once a request is done: the answer to it no more, and its own answer behind all else where it
-- has a parent
abbrev pub queue_after_answer : Option OidNo → OidNo → OidStatus → List ℕ → List Carried → List Carried
queue_after_answer None request status value queue = queue
queue_after_answer (Some parent) request status value queue = queue ++ an_answer (record { request = request; parent = parent; status = status; value = value }) ∷ []

abbrev pub queue_after_done : Option Request → OidNo → OidStatus → List ℕ → List Carried → List Carried
queue_after_done None request status value queue = queue
queue_after_done (Some r) request status value queue = queue_after_answer r.parent request status value (filter (λ c. not (carries_answer request.0 c)) queue)

-- the room that is left for things on their way: its answer takes room for one
abbrev pub slack_after_answer : Option OidNo → ℕ → ℕ
slack_after_answer None slack = slack
slack_after_answer (Some parent) slack = slack - 1

abbrev pub slack_after_done : Option Request → ℕ → ℕ
slack_after_done None slack = slack
slack_after_done (Some r) slack = slack_after_answer r.parent slack

-- a request was completed
abbrev pub completed : TrayView → OidNo → OidStatus → List ℕ → TrayView
completed t request status value = record (written (valued t value) (row.OidDone request status value)) {
  queue = queue_after_done (request_of request.0 t.net.requests) request status value t.queue;
  slack = slack_after_done (request_of request.0 t.net.requests) t.slack;
}
