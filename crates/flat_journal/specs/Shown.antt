-- The event, reply, row and turn that a flat one shows.
use Rattle.std.specs.Prelude.{List, map, slice_range}
use Rattle.journal_types.specs.declared.Event.{Event}
use Rattle.journal_types.specs.declared.Event.TheVariants as event
use Rattle.journal_types.specs.declared.Reply.{Reply}
use Rattle.journal_types.specs.declared.Reply.TheVariants as reply
use Rattle.journal_types.specs.declared.Row.{Row}
use Rattle.journal_types.specs.declared.Row.TheVariants as row
use Rattle.journal_types.specs.declared.Turn.{Turn}
use Rattle.frame_arena.specs.Spans.{frames_at}
use Rattle.flat_journal.specs.declared.types.FlatEvent.{FlatEvent}
use Rattle.flat_journal.specs.declared.types.FlatEvent.TheVariants as flat_event
use Rattle.flat_journal.specs.declared.types.FlatReply.{FlatReply}
use Rattle.flat_journal.specs.declared.types.FlatReply.TheVariants as flat_reply
use Rattle.flat_journal.specs.declared.types.FlatRow.{FlatRow}
use Rattle.flat_journal.specs.declared.types.FlatRow.TheVariants as flat_row
use Rattle.flat_journal.specs.declared.types.TurnHead.{TurnHead}
use Rattle.flat_journal.specs.Payloads.{Payloads, filters_at, value_at, setup_at}

abbrev pub event_of : Payloads → FlatEvent → Event
event_of p flat_event.Initialize = event.Initialize
event_of p (flat_event.Insert kind position setup) = event.Insert kind position (setup_at p.setups setup)
event_of p (flat_event.Remove filter) = event.Remove filter
event_of p (flat_event.Replace filter kind setup) = event.Replace filter kind (setup_at p.setups setup)
event_of p (flat_event.Send binding cancel frames) = event.Send binding cancel (frames_at p.frames frames)
event_of p (flat_event.Indicate frames) = event.Indicate (frames_at p.frames frames)
event_of p (flat_event.Lend frames) = event.Lend (frames_at p.frames frames)
event_of p (flat_event.GiveBack binding list) = event.GiveBack binding list
event_of p (flat_event.Cancel id) = event.Cancel id
event_of p (flat_event.Ask binding kind code value) = event.Ask binding kind code (value_at p.frames value)
event_of p (flat_event.Status name) = event.Status name
event_of p flat_event.Transmit = event.Transmit
event_of p flat_event.Pump = event.Pump
event_of p flat_event.Drain = event.Drain
event_of p flat_event.BeginPause = event.BeginPause
event_of p flat_event.PauseNext = event.PauseNext
event_of p flat_event.RestartNext = event.RestartNext
event_of p flat_event.Halt = event.Halt
event_of p flat_event.CrossTake = event.CrossTake
event_of p (flat_event.CrossPut stack message vlan frames) = event.CrossPut stack message vlan (frames_at p.frames frames)
event_of p (flat_event.CrossDone message status) = event.CrossDone message status
event_of p (flat_event.CrossTakeUp binding vlan) = event.CrossTakeUp binding vlan
event_of p (flat_event.CrossPutUp stack message frames) = event.CrossPutUp stack message (frames_at p.frames frames)

abbrev pub reply_of : Payloads → FlatReply → Reply
reply_of p flat_reply.Ok = reply.Ok
reply_of p (flat_reply.Inserted filter) = reply.Inserted filter
reply_of p flat_reply.Removed = reply.Removed
reply_of p (flat_reply.Replaced filter) = reply.Replaced filter
reply_of p (flat_reply.Sent list) = reply.Sent list
reply_of p (flat_reply.Indicated list) = reply.Indicated list
reply_of p (flat_reply.Lent list) = reply.Lent list
reply_of p (flat_reply.Cancelled n) = reply.Cancelled n
reply_of p (flat_reply.Asked request) = reply.Asked request
reply_of p (flat_reply.Wired list) = reply.Wired list
reply_of p flat_reply.Moved = reply.Moved
reply_of p flat_reply.Idle = reply.Idle
reply_of p flat_reply.Next = reply.Next
reply_of p flat_reply.Paused = reply.Paused
reply_of p flat_reply.Running = reply.Running
reply_of p (flat_reply.Waiting n) = reply.Waiting n
reply_of p flat_reply.Halted = reply.Halted
reply_of p (flat_reply.Taken message frames) = reply.Taken message (frames_at p.frames frames)
reply_of p flat_reply.Nothing = reply.Nothing
reply_of p (flat_reply.Crossed list) = reply.Crossed list
reply_of p (flat_reply.Refused why) = reply.Refused why

abbrev pub row_of : Payloads → FlatRow → Row
row_of p (flat_row.Issue list owner config direction cancel origin frames) = row.Issue list owner config direction cancel origin (frames_at p.frames frames)
row_of p (flat_row.Give list place handler) = row.Give list place handler
row_of p (flat_row.Pass list way to) = row.Pass list way to
row_of p (flat_row.Keep list place) = row.Keep list place
row_of p (flat_row.TurnBack list place status) = row.TurnBack list place status
row_of p (flat_row.Home list owner status) = row.Home list owner status
row_of p (flat_row.Wire list frames) = row.Wire list (frames_at p.frames frames)
row_of p (flat_row.Deliver list binding how frames) = row.Deliver list binding how (frames_at p.frames frames)
row_of p (flat_row.Phase of) = row.Phase of
row_of p (flat_row.Config config filters) = row.Config config (filters_at p.filters filters)
row_of p (flat_row.OidIssue request parent binding kind code value) = row.OidIssue request parent binding kind code (value_at p.frames value)
row_of p (flat_row.OidGive request place) = row.OidGive request place
row_of p (flat_row.OidDone request status value) = row.OidDone request status (value_at p.frames value)
row_of p (flat_row.Status number name to) = row.Status number name to
row_of p (flat_row.Seen number place) = row.Seen number place
row_of p (flat_row.CrossOut message way frames) = row.CrossOut message way (frames_at p.frames frames)
row_of p (flat_row.CrossIn stack message way frames) = row.CrossIn stack message way (frames_at p.frames frames)

-- the turn of this head among the rows of all turns
abbrev pub turn_of : Payloads → List FlatRow → TurnHead → Turn
turn_of p rows head = record {
  who = head.who;
  event = event_of p head.event;
  reply = reply_of p head.reply;
  rows = map (row_of p) (slice_range rows head.first head.end);
}
