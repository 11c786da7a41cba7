-- Joined stacks: each message that enters a stack left the other one, once, with its frames; and a list that
-- was taken down is done with what became of its message.
use Rattle.std.specs.Prelude.{ℕ, ◌+◌, ◌==◌, ◌&&◌, ◌||◌, not, Bool, true, false, List, [], ◌∷◌, Option, Some, None, map, sum_by, count_by, slice_get, unwrap_or}
use Rattle.std.specs.List.{list_all, list_any}
use Rattle.ndis_base.specs.declared.Origin.TheVariants as origin
use Rattle.ndis_base.specs.declared.ListStatus.{ListStatus}
use Rattle.ndis_base.specs.declared.ListStatus.TheVariants as status
use Rattle.program_types.specs.Apply.{pushed}
use Rattle.journal_types.specs.declared.OutWay.{OutWay}
use Rattle.journal_types.specs.declared.OutWay.TheVariants as out
use Rattle.journal_types.specs.declared.Way.{Way}
use Rattle.journal_types.specs.declared.Way.TheVariants as crossing
use Rattle.journal_types.specs.declared.Event.{Event}
use Rattle.journal_types.specs.declared.Event.TheVariants as event
use Rattle.journal_types.specs.declared.Reply.{Reply}
use Rattle.journal_types.specs.declared.Reply.TheVariants as reply
use Rattle.journal_types.specs.declared.Refusal.TheVariants as refusal
use Rattle.journal_types.specs.declared.Row.{Row}
use Rattle.journal_types.specs.declared.Row.TheVariants as row
use Rattle.journal_types.specs.declared.Turn.{Turn}
use Rattle.stack_rules.specs.Tests.{same_frames}
use Rattle.promise_rules.specs.Rows.{same_status}

abbrev pub same_way : Way → Way → Bool
same_way crossing.Down crossing.Down = true
same_way crossing.Up crossing.Up = true
same_way _ _ = false

abbrev pub way_of : OutWay → Way
way_of (out.Down list) = crossing.Down
way_of out.Up = crossing.Up

-- the journal of a stack
abbrev pub journal_of : List (List Turn) → ℕ → List Turn
journal_of journals stack = unwrap_or (slice_get journals stack) []

-- the message leaves its stack this way with these frames
abbrev pub leaves : ℕ → Way → List (List ℕ) → Row → Bool
leaves message way frames (row.CrossOut m o shown) = m.0 == message && (same_way (way_of o) way && same_frames shown frames)
leaves message way frames _ = false

abbrev pub enters : ℕ → ℕ → Way → List (List ℕ) → Row → Bool
enters stack message way frames (row.CrossIn s m w shown) =
    s == stack && (m.0 == message && (same_way w way && same_frames shown frames))
enters stack message way frames _ = false

abbrev pub issues_frames : List (List ℕ) → Row → Bool
issues_frames frames (row.Issue list owner config direction cancel origin.Root shown) = same_frames shown frames
issues_frames frames _ = false

abbrev pub is_refused : Reply → Bool
is_refused (reply.Refused cause) = true
is_refused _ = false

abbrev pub is_put : ℕ → ℕ → Way → List (List ℕ) → List (List ℕ) → List Row → Bool
is_put stack message way frames issued rows =
    count_by (enters stack message way frames) rows == 1 && list_any (issues_frames issued) rows

abbrev pub left : List (List Turn) → ℕ → ℕ → Way → List (List ℕ) → Bool
left journals stack message way frames = list_any (λ t. list_any (leaves message way frames) t.rows) (journal_of journals stack)

-- the turn puts a message of this stack, number and way
abbrev pub puts : ℕ → ℕ → Way → Event → Bool
puts stack message way (event.CrossPut s m vlan frames) = s == stack && (m.0 == message && same_way way crossing.Down)
puts stack message way (event.CrossPutUp s m frames) = s == stack && (m.0 == message && same_way way crossing.Up)
puts stack message way _ = false

abbrev pub count_puts : List (List Turn) → ℕ → ℕ → Way → ℕ
count_puts journals stack message way = sum_by (λ turns. count_by (λ t. puts stack message way t.event) turns) journals

-- what became of a put, as the status of the list that was taken down
abbrev pub status_of_put : Reply → Option ListStatus
status_of_put (reply.Crossed list) = Some status.Success
status_of_put (reply.Refused (refusal.Paused phase)) = Some status.Paused
status_of_put (reply.Refused refusal.TooLong) = Some status.Dropped
status_of_put (reply.Refused refusal.NoList) = Some status.Resources
status_of_put _ = None

abbrev pub told_as : ListStatus → Option ListStatus → Bool
told_as status None = false
told_as status (Some told) = same_status told status

abbrev pub is_done_as : ℕ → ℕ → ListStatus → Turn → Bool
is_done_as stack message status t = puts stack message crossing.Down t.event && told_as status (status_of_put t.reply)

-- a put of this message was answered so
abbrev pub was_put_as : List (List Turn) → ℕ → ℕ → ListStatus → Bool
was_put_as journals stack message status = list_any (λ turns. list_any (is_done_as stack message status) turns) journals

abbrev pub ends_message : ℕ → Event → Bool
ends_message message (event.CrossDone m status) = m.0 == message
ends_message message _ = false

-- the message left its stack with these frames and is put once; an accepted put has one crossing row, and
-- issues a root of the message's frames, with the tag on the way down
abbrev pub is_crossing : List (List Turn) → ℕ → ℕ → Way → List (List ℕ) → List (List ℕ) → Reply → List Row → Bool
is_crossing journals stack message way frames issued told rows =
    left journals stack message way frames
    && (count_puts journals stack message way == 1 && (is_refused told || is_put stack message way frames issued rows))

abbrev pub is_linked_event : List (List Turn) → ℕ → Event → Reply → List Row → Bool
is_linked_event journals stack (event.CrossPut s m vlan frames) told rows =
    is_crossing journals s m.0 crossing.Down frames (map (pushed vlan) frames) told rows
is_linked_event journals stack (event.CrossPutUp s m frames) told rows = is_crossing journals s m.0 crossing.Up frames frames told rows
is_linked_event journals stack (event.CrossDone m status) told rows = not (is_refused told) && was_put_as journals stack m.0 status
is_linked_event journals stack _ told rows = true

-- a list that is taken down is done in one turn
abbrev pub is_ended : List Turn → Row → Bool
is_ended turns (row.CrossOut m (out.Down list) frames) = count_by (λ t. ends_message m.0 t.event) turns == 1
is_ended turns _ = true

abbrev pub is_linked_journal : List (List Turn) → ℕ → List Turn → Bool
is_linked_journal journals stack turns =
    list_all (λ t. is_linked_event journals stack t.event t.reply t.rows && list_all (is_ended turns) t.rows) turns

abbrev pub are_linked_from : List (List Turn) → ℕ → List (List Turn) → Bool
are_linked_from journals stack [] = true
are_linked_from journals stack (turns ∷ more) = is_linked_journal journals stack turns && are_linked_from journals (stack + 1) more

-- the journals of all stacks, from stack 0, are linked
abbrev pub are_linked : List (List Turn) → Bool
are_linked journals = are_linked_from journals 0 journals
