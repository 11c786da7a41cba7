-- What a row, an event and a reply refer to, and the flat ones that refer to the same by where it stands.
use Rattle.std.specs.Prelude.{◌≡◌, ℕ, List, [], Some, None, ⊤}
use Rattle.std.specs.declared.option.Option.{Option}
use Rattle.journal_types.specs.declared.Setup.{Setup}
use Rattle.journal_types.specs.declared.Event.{Event}
use Rattle.journal_types.specs.declared.Event.TheVariants as event
use Rattle.journal_types.specs.declared.Reply.{Reply}
use Rattle.journal_types.specs.declared.Reply.TheVariants as reply
use Rattle.journal_types.specs.declared.Row.{Row}
use Rattle.journal_types.specs.declared.Row.TheVariants as row
use Rattle.frame_arena.specs.declared.FrameSpan.{FrameSpan}
use Rattle.frame_arena.specs.Spans.{frames_at, SpanWithin}
use Rattle.flat_journal.specs.declared.types.FlatEvent.{FlatEvent}
use Rattle.flat_journal.specs.declared.types.FlatEvent.TheVariants as flat_event
use Rattle.flat_journal.specs.declared.types.FlatReply.{FlatReply}
use Rattle.flat_journal.specs.declared.types.FlatReply.TheVariants as flat_reply
use Rattle.flat_journal.specs.declared.types.FlatRow.{FlatRow}
use Rattle.flat_journal.specs.declared.types.FlatRow.TheVariants as flat_row
use Rattle.flat_journal.specs.declared.types.ValueNo.{ValueNo}
use Rattle.flat_journal.specs.declared.types.SetupNo.{SetupNo}
use Rattle.flat_journal.specs.declared.copying.RowPlaces.{RowPlaces}
use Rattle.flat_journal.specs.declared.copying.EventPlaces.{EventPlaces}
use Rattle.flat_journal.specs.Payloads.{Payloads, filters_at, value_at, setup_at}
use Rattle.flat_journal.specs.Within.{FiltersWithin, ValueWithin, SetupWithin}

abbrev pub row_frames : Row → List (List ℕ)
row_frames (row.Issue list owner config direction cancel origin frames) = frames
row_frames (row.Wire list frames) = frames
row_frames (row.Deliver list binding how frames) = frames
row_frames (row.CrossOut message way frames) = frames
row_frames (row.CrossIn stack message way frames) = frames
row_frames _ = []

abbrev pub row_value : Row → Option (List ℕ)
row_value (row.OidIssue request parent binding kind code value) = Some value
row_value (row.OidDone request status value) = Some value
row_value _ = None

abbrev pub row_filters : Row → List ℕ
row_filters (row.Config config filters) = filters
row_filters _ = []

abbrev pub event_frames : Event → List (List ℕ)
event_frames (event.Send binding cancel frames) = frames
event_frames (event.Indicate frames) = frames
event_frames (event.Lend frames) = frames
event_frames (event.CrossPut stack message vlan frames) = frames
event_frames (event.CrossPutUp stack message frames) = frames
event_frames _ = []

abbrev pub event_value : Event → Option (List ℕ)
event_value (event.Ask binding kind code value) = Some value
event_value _ = None

abbrev pub event_setup : Event → Option Setup
event_setup (event.Insert kind position setup) = Some setup
event_setup (event.Replace filter kind setup) = Some setup
event_setup _ = None

abbrev pub reply_frames : Reply → List (List ℕ)
reply_frames (reply.Taken message frames) = frames
reply_frames _ = []

-- where the value stands, if there is one
abbrev pub ValueStands : Payloads → ValueNo → Option (List ℕ) → Type 0
ValueStands p place None = ⊤
ValueStands p place (Some value) = ValueWithin p place × (value_at p.frames place ≡ value)

-- where the set-up stands, if there is one
abbrev pub SetupStands : Payloads → SetupNo → Option Setup → Type 0
SetupStands p place None = ⊤
SetupStands p place (Some setup) = SetupWithin p place × (setup_at p.setups place ≡ setup)

-- what the row refers to stands at these places
pub record RowStands (p : Payloads) (places : RowPlaces) (r : Row) : Type 0 where
  pub frames_within : SpanWithin p.frames places.frames
  pub frames : frames_at p.frames places.frames ≡ row_frames r
  pub value : ValueStands p places.value (row_value r)
  pub filters_within : FiltersWithin p places.filters
  pub filters : filters_at p.filters places.filters ≡ row_filters r

pub record EventStands (p : Payloads) (places : EventPlaces) (e : Event) : Type 0 where
  pub frames_within : SpanWithin p.frames places.frames
  pub frames : frames_at p.frames places.frames ≡ event_frames e
  pub value : ValueStands p places.value (event_value e)
  pub setup : SetupStands p places.setup (event_setup e)

abbrev pub flat_row_of : RowPlaces → Row → FlatRow
flat_row_of at (row.Issue list owner config direction cancel origin frames) = flat_row.Issue list owner config direction cancel origin at.frames
flat_row_of at (row.Give list place handler) = flat_row.Give list place handler
flat_row_of at (row.Pass list way to) = flat_row.Pass list way to
flat_row_of at (row.Keep list place) = flat_row.Keep list place
flat_row_of at (row.TurnBack list place status) = flat_row.TurnBack list place status
flat_row_of at (row.Home list owner status) = flat_row.Home list owner status
flat_row_of at (row.Wire list frames) = flat_row.Wire list at.frames
flat_row_of at (row.Deliver list binding how frames) = flat_row.Deliver list binding how at.frames
flat_row_of at (row.Phase of) = flat_row.Phase of
flat_row_of at (row.Config config filters) = flat_row.Config config at.filters
flat_row_of at (row.OidIssue request parent binding kind code value) = flat_row.OidIssue request parent binding kind code at.value
flat_row_of at (row.OidGive request place) = flat_row.OidGive request place
flat_row_of at (row.OidDone request status value) = flat_row.OidDone request status at.value
flat_row_of at (row.Status number name to) = flat_row.Status number name to
flat_row_of at (row.Seen number place) = flat_row.Seen number place
flat_row_of at (row.CrossOut message way frames) = flat_row.CrossOut message way at.frames
flat_row_of at (row.CrossIn stack message way frames) = flat_row.CrossIn stack message way at.frames

abbrev pub flat_event_of : EventPlaces → Event → FlatEvent
flat_event_of at event.Initialize = flat_event.Initialize
flat_event_of at (event.Insert kind position setup) = flat_event.Insert kind position at.setup
flat_event_of at (event.Remove filter) = flat_event.Remove filter
flat_event_of at (event.Replace filter kind setup) = flat_event.Replace filter kind at.setup
flat_event_of at (event.Send binding cancel frames) = flat_event.Send binding cancel at.frames
flat_event_of at (event.Indicate frames) = flat_event.Indicate at.frames
flat_event_of at (event.Lend frames) = flat_event.Lend at.frames
flat_event_of at (event.GiveBack binding list) = flat_event.GiveBack binding list
flat_event_of at (event.Cancel id) = flat_event.Cancel id
flat_event_of at (event.Ask binding kind code value) = flat_event.Ask binding kind code at.value
flat_event_of at (event.Status name) = flat_event.Status name
flat_event_of at event.Transmit = flat_event.Transmit
flat_event_of at event.Pump = flat_event.Pump
flat_event_of at event.Drain = flat_event.Drain
flat_event_of at event.BeginPause = flat_event.BeginPause
flat_event_of at event.PauseNext = flat_event.PauseNext
flat_event_of at event.RestartNext = flat_event.RestartNext
flat_event_of at event.Halt = flat_event.Halt
flat_event_of at event.CrossTake = flat_event.CrossTake
flat_event_of at (event.CrossPut stack message vlan frames) = flat_event.CrossPut stack message vlan at.frames
flat_event_of at (event.CrossDone message status) = flat_event.CrossDone message status
flat_event_of at (event.CrossTakeUp binding vlan) = flat_event.CrossTakeUp binding vlan
flat_event_of at (event.CrossPutUp stack message frames) = flat_event.CrossPutUp stack message at.frames

abbrev pub flat_reply_of : FrameSpan → Reply → FlatReply
flat_reply_of at reply.Ok = flat_reply.Ok
flat_reply_of at (reply.Inserted filter) = flat_reply.Inserted filter
flat_reply_of at reply.Removed = flat_reply.Removed
flat_reply_of at (reply.Replaced filter) = flat_reply.Replaced filter
flat_reply_of at (reply.Sent list) = flat_reply.Sent list
flat_reply_of at (reply.Indicated list) = flat_reply.Indicated list
flat_reply_of at (reply.Lent list) = flat_reply.Lent list
flat_reply_of at (reply.Cancelled n) = flat_reply.Cancelled n
flat_reply_of at (reply.Asked request) = flat_reply.Asked request
flat_reply_of at (reply.Wired list) = flat_reply.Wired list
flat_reply_of at reply.Moved = flat_reply.Moved
flat_reply_of at reply.Idle = flat_reply.Idle
flat_reply_of at reply.Next = flat_reply.Next
flat_reply_of at reply.Paused = flat_reply.Paused
flat_reply_of at reply.Running = flat_reply.Running
flat_reply_of at (reply.Waiting n) = flat_reply.Waiting n
flat_reply_of at reply.Halted = flat_reply.Halted
flat_reply_of at (reply.Taken message frames) = flat_reply.Taken message at
flat_reply_of at reply.Nothing = flat_reply.Nothing
flat_reply_of at (reply.Crossed list) = flat_reply.Crossed list
flat_reply_of at (reply.Refused why) = flat_reply.Refused why
