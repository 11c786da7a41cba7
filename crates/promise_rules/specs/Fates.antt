-- The fate of a list: what is sent is on the wire once, or was turned back, or crossed to another stack;
-- what is received is delivered to all that take it, or was turned back.
use Rattle.std.specs.Prelude.{ℕ, ◌+◌, ◌==◌, ◌&&◌, ◌||◌, not, Bool, true, false, List, [], ◌∷◌, length, Option, Some, None, is_some, count_by, flat_map, if◌then◌else◌, unwrap_or}
use Rattle.std.specs.List.{list_any}
use Rattle.ndis_base.specs.declared.ModuleId.TheVariants.{Binding}
use Rattle.ndis_base.specs.declared.Direction.{Direction}
use Rattle.ndis_base.specs.declared.Direction.TheVariants as direction
use Rattle.ndis_base.specs.declared.Origin.TheVariants as origin
use Rattle.ndis_base.specs.declared.ListStatus.{ListStatus}
use Rattle.ndis_base.specs.declared.ListStatus.TheVariants.{Success}
use Rattle.journal_types.specs.declared.How.{How}
use Rattle.journal_types.specs.declared.How.TheVariants as how
use Rattle.journal_types.specs.declared.PassWay.TheVariants as way
use Rattle.journal_types.specs.declared.OutWay.TheVariants as out
use Rattle.journal_types.specs.declared.Event.{Event}
use Rattle.journal_types.specs.declared.Event.TheVariants as event
use Rattle.journal_types.specs.declared.Reply.{Reply}
use Rattle.journal_types.specs.declared.Reply.TheVariants as reply
use Rattle.journal_types.specs.declared.Row.{Row}
use Rattle.journal_types.specs.declared.Row.TheVariants as row
use Rattle.journal_types.specs.declared.StackHead.{StackHead}
use Rattle.journal_types.specs.declared.Turn.{Turn}
use Rattle.stack_rules.specs.Net.{Net, start, after_turn}
use Rattle.stack_rules.specs.Deliveries.{takers}
use Rattle.promise_rules.specs.Rows.{all_rows, count_rows, first_row, issue_of, home_of, is_home_again, frames_in, status_in, is_status}
use Rattle.promise_rules.specs.Families.{root_of, is_over, last_of_family}

-- rows of a list of the family
abbrev pub is_wire_of : List Turn → ℕ → Row → Bool
is_wire_of turns r (row.Wire list frames) = root_of turns list.0 == r
is_wire_of turns r _ = false

abbrev pub is_turned_back : List Turn → ℕ → Row → Bool
is_turned_back turns r (row.TurnBack list m status) = root_of turns list.0 == r
is_turned_back turns r _ = false

abbrev pub is_delivery_of : List Turn → ℕ → Row → Bool
is_delivery_of turns r (row.Deliver list b how frames) = root_of turns list.0 == r
is_delivery_of turns r _ = false

abbrev pub takes_family : List Turn → ℕ → ℕ → Row → Bool
takes_family turns r message (row.CrossOut m (out.Down list) frames) = m.0 == message && root_of turns list.0 == r
takes_family turns r message _ = false

-- a list of the family was taken to another stack in this message
abbrev pub took : List Turn → ℕ → ℕ → Bool
took turns r message = is_some (first_row (takes_family turns r message) turns)

-- the status with which a turn ends a crossing of the family
abbrev pub crossing_of : List Turn → ℕ → Event → Reply → Option ListStatus
crossing_of turns r (event.CrossDone message status) reply.Ok = if took turns r message.0 then Some status else None
crossing_of turns r _ _ = None

abbrev pub ends_crossing : List Turn → ℕ → Turn → Bool
ends_crossing turns r t = is_some (crossing_of turns r t.event t.reply)

abbrev pub first_status : Option ListStatus → Option ListStatus → Option ListStatus
first_status None other = other
first_status (Some s) other = Some s

abbrev pub crossed_as : List Turn → ℕ → List Turn → Option ListStatus
crossed_as turns r [] = None
crossed_as turns r (t ∷ ts) = first_status (crossing_of turns r t.event t.reply) (crossed_as turns r ts)

-- the status of the family's turning back, else of its crossing, else Success
abbrev pub turned_back_as : List Turn → ℕ → Option ListStatus
turned_back_as turns r = status_in (first_row (is_turned_back turns r) turns)

abbrev pub sent_as : List Turn → ℕ → ListStatus
sent_as turns r = unwrap_or (first_status (turned_back_as turns r) (crossed_as turns r turns)) Success

-- a send that is home was on the wire, turned back or taken to another stack, just one of these and
-- just once, and is home with its status
abbrev pub is_sent_once : List Turn → ℕ → Bool
is_sent_once turns r =
    (count_rows (is_wire_of turns r) turns + count_rows (is_turned_back turns r) turns + count_by (ends_crossing turns r) turns == 1)
    && is_status (sent_as turns r) (status_in (home_of turns r))

-- the turn settles where a list is delivered: its first way back, its keeping by a binding, or for a lent
-- list its issue
abbrev pub settles : ℕ → Row → Bool
settles n (row.Pass list (way.Back status) to) = list.0 == n
settles n (row.Keep list (Binding b)) = list.0 == n
settles n (row.Issue list owner config direction.Lent cancel origin frames) = list.0 == n
settles n _ = false

-- the bindings that take a list in the turn that settles it, where there is one
abbrev pub takers_in : Net → List Turn → ℕ → List (List ℕ) → Option (List ℕ)
takers_in net [] n frames = None
takers_in net (t ∷ ts) n frames =
    if list_any (settles n) t.rows then Some (takers net frames) else takers_in (after_turn net t) ts n frames

abbrev pub delivered_at : ℕ → Row → List (ℕ × How)
delivered_at n (row.Deliver list b how frames) = if list.0 == n then (b, how) ∷ [] else []
delivered_at n _ = []

abbrev pub deliveries_of : List Turn → ℕ → List (ℕ × How)
deliveries_of turns n = flat_map (λ t. flat_map (delivered_at n) t.rows) turns

abbrev pub is_lent_issue : Option Row → Bool
is_lent_issue (Some (row.Issue list owner config direction.Lent cancel origin frames)) = true
is_lent_issue _ = false

abbrev pub same_how : How → How → Bool
same_how how.Own how.Own = true
same_how how.Lent how.Lent = true
same_how _ _ = false

-- a list is lent to a binding that others get it after
abbrev pub how_before : How → List ℕ → How
how_before last [] = last
how_before last (b ∷ bs) = how.Lent

-- each taker gets the list once, lent but for the last one, to which it is given as told
abbrev pub are_deliveries : How → List ℕ → List (ℕ × How) → Bool
are_deliveries last [] [] = true
are_deliveries last (b ∷ bs) (d ∷ ds) = d.0 == b && (same_how d.1 (how_before last bs) && are_deliveries last bs ds)
are_deliveries last _ _ = false

abbrev pub reaches : How → Option (List ℕ) → List (ℕ × How) → Bool
reaches last None deliveries = false
reaches last (Some bindings) deliveries = are_deliveries last bindings deliveries

abbrev pub how_of : Option Row → How
how_of issue = if is_lent_issue issue then how.Lent else how.Own

abbrev pub is_delivered_by : StackHead → List Turn → Option ℕ → Bool
is_delivered_by head turns None = false
is_delivered_by head turns (Some n) =
    reaches (how_of (issue_of turns n)) (takers_in (start head) turns n (frames_in (issue_of turns n))) (deliveries_of turns n)

abbrev pub count_deliveries : List Turn → Option ℕ → ℕ
count_deliveries turns None = 0
count_deliveries turns (Some n) = length (deliveries_of turns n)

-- the family's last list reached just the bindings that take it, and no other list of the family any
abbrev pub is_delivered : StackHead → List Turn → ℕ → Bool
is_delivered head turns r =
    is_delivered_by head turns (last_of_family turns r)
    && count_rows (is_delivery_of turns r) turns == count_deliveries turns (last_of_family turns r)

-- a receive whose family is over was turned back once and delivered to none, or delivered
abbrev pub is_received : StackHead → List Turn → ℕ → Bool
is_received head turns r =
    if count_rows (is_turned_back turns r) turns == 0
    then is_delivered head turns r
    else count_rows (is_turned_back turns r) turns == 1 && count_rows (is_delivery_of turns r) turns == 0

abbrev pub is_back_of : ℕ → Row → Bool
is_back_of n (row.TurnBack list m status) = list.0 == n
is_back_of n _ = false

-- the status with which it is home: an owned list has its family's, a lent one its own
abbrev pub received_as : List Turn → ℕ → Direction → ListStatus
received_as turns r direction.Lent = unwrap_or (status_in (first_row (is_back_of r) turns)) Success
received_as turns r _ = unwrap_or (turned_back_as turns r) Success

abbrev pub is_home_as_received : List Turn → ℕ → Direction → Bool
is_home_as_received turns r d = is_status (received_as turns r d) (status_in (home_of turns r))

-- a root that is home, or whose family is over, met its fate
abbrev pub has_fate : StackHead → List Turn → ℕ → Direction → Bool
has_fate head turns r direction.Down = not (is_home_again turns r) || is_sent_once turns r
has_fate head turns r d = not (is_over turns r) || (is_received head turns r && is_home_as_received turns r d)

abbrev pub has_fate_at : StackHead → List Turn → Row → Bool
has_fate_at head turns (row.Issue list owner config d cancel origin.Root frames) = has_fate head turns list.0 d
has_fate_at head turns _ = true

-- each root of the journal meets its fate
abbrev pub has_fates : StackHead → List Turn → Bool
has_fates head turns = all_rows (has_fate_at head turns) turns
