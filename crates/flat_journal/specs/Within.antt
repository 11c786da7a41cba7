-- What an event, a reply, a row and the head of a turn refer to is there.
use Rattle.std.specs.Prelude.{ℕ, ◌+◌, ◌<◌, ◌≤◌, length, ⊤}
use Rattle.frame_arena.specs.Spans.{SpanWithin}
use Rattle.flat_journal.specs.declared.types.FilterSpan.{FilterSpan}
use Rattle.flat_journal.specs.declared.types.SetupNo.{SetupNo}
use Rattle.flat_journal.specs.declared.types.ValueNo.{ValueNo}
use Rattle.flat_journal.specs.declared.types.FlatEvent.{FlatEvent}
use Rattle.flat_journal.specs.declared.types.FlatEvent.TheVariants.{Insert, Replace, Send, Indicate, Lend, Ask, CrossPut, CrossPutUp}
use Rattle.flat_journal.specs.declared.types.FlatReply.{FlatReply}
use Rattle.flat_journal.specs.declared.types.FlatReply.TheVariants.{Taken}
use Rattle.flat_journal.specs.declared.types.FlatRow.{FlatRow}
use Rattle.flat_journal.specs.declared.types.FlatRow.TheVariants.{Issue, Wire, Deliver, Config, OidIssue, OidDone, CrossOut, CrossIn}
use Rattle.flat_journal.specs.declared.types.TurnHead.{TurnHead}
use Rattle.flat_journal.specs.Payloads.{Payloads}

abbrev pub FiltersWithin : Payloads → FilterSpan → Type 0
FiltersWithin p span = span.first + span.count ≤ length p.filters

abbrev pub ValueWithin : Payloads → ValueNo → Type 0
ValueWithin p value = value.0 < length p.frames

abbrev pub SetupWithin : Payloads → SetupNo → Type 0
SetupWithin p setup = setup.0 < length p.setups

abbrev pub EventWithin : Payloads → FlatEvent → Type 0
EventWithin p (Insert kind position setup) = SetupWithin p setup
EventWithin p (Replace filter kind setup) = SetupWithin p setup
EventWithin p (Send binding cancel frames) = SpanWithin p.frames frames
EventWithin p (Indicate frames) = SpanWithin p.frames frames
EventWithin p (Lend frames) = SpanWithin p.frames frames
EventWithin p (Ask binding kind code value) = ValueWithin p value
EventWithin p (CrossPut stack message vlan frames) = SpanWithin p.frames frames
EventWithin p (CrossPutUp stack message frames) = SpanWithin p.frames frames
EventWithin p _ = ⊤

abbrev pub ReplyWithin : Payloads → FlatReply → Type 0
ReplyWithin p (Taken message frames) = SpanWithin p.frames frames
ReplyWithin p _ = ⊤

abbrev pub RowWithin : Payloads → FlatRow → Type 0
RowWithin p (Issue list owner config direction cancel origin frames) = SpanWithin p.frames frames
RowWithin p (Wire list frames) = SpanWithin p.frames frames
RowWithin p (Deliver list binding how frames) = SpanWithin p.frames frames
RowWithin p (Config config filters) = FiltersWithin p filters
RowWithin p (OidIssue request parent binding kind code value) = ValueWithin p value
RowWithin p (OidDone request status value) = ValueWithin p value
RowWithin p (CrossOut message way frames) = SpanWithin p.frames frames
RowWithin p (CrossIn stack message way frames) = SpanWithin p.frames frames
RowWithin p _ = ⊤

-- the turn's rows are among the first `begun`
pub record TurnWithin (p : Payloads) (begun : ℕ) (head : TurnHead) : Type 0 where
  pub event : EventWithin p head.event
  pub reply : ReplyWithin p head.reply
  pub ordered : head.first ≤ head.end
  pub ended : head.end ≤ begun
