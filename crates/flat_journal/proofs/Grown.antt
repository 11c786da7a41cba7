-- What an event, a reply and a row show stays the same when payloads are added.
use Rattle.std.proofs.Common.{◌≡◌, ℕ, List, [], ◌++◌, ◌≤◌, length, ap, ◌∙◌, sym, subst, refl, arith}
use Rattle.std.proofs.lemmas.List.{append-nil, append_assoc, length-append, get_or_append_left}
use Rattle.journal_types.specs.declared.Setup.{Setup}
use Rattle.journal_types.specs.declared.Event.TheVariants as event
use Rattle.journal_types.specs.declared.Reply.TheVariants as reply
use Rattle.journal_types.specs.declared.Row.TheVariants as row
use Rattle.frame_arena.specs.declared.FrameSpan.{FrameSpan}
use Rattle.frame_arena.specs.Spans.{frames_at, SpanWithin}
use Rattle.frame_arena.proofs.Ranges.{part_grown}
use Rattle.frame_arena.proofs.Spans.{frames_at_grown}
use Rattle.flat_journal.specs.declared.types.FilterSpan.{FilterSpan}
use Rattle.flat_journal.specs.declared.types.SetupNo.{SetupNo}
use Rattle.flat_journal.specs.declared.types.ValueNo.{ValueNo}
use Rattle.flat_journal.specs.declared.types.FlatEvent.{FlatEvent}
use Rattle.flat_journal.specs.declared.types.FlatEvent.TheVariants as flat_event
use Rattle.flat_journal.specs.declared.types.FlatReply.{FlatReply}
use Rattle.flat_journal.specs.declared.types.FlatReply.TheVariants as flat_reply
use Rattle.flat_journal.specs.declared.types.FlatRow.{FlatRow}
use Rattle.flat_journal.specs.declared.types.FlatRow.TheVariants as flat_row
use Rattle.flat_journal.specs.Payloads.{Payloads, filters_at, value_at, setup_at, no_setup}
use Rattle.flat_journal.specs.Grows.{Grows, OnlyGrows}
use Rattle.flat_journal.specs.Flat.{FlatView}
use Rattle.flat_journal.specs.Shown.{event_of, reply_of, row_of}
use Rattle.flat_journal.specs.Within.{FiltersWithin, ValueWithin, SetupWithin, EventWithin, ReplyWithin, RowWithin}

pub grows_nothing : (p : Payloads) → Grows p p
grows_nothing p = record {
  frames = ([], sym (append-nil p.frames));
  filters = ([], sym (append-nil p.filters));
  setups = ([], sym (append-nil p.setups));
}

pub grows_twice : (p q r : Payloads) → Grows p q → Grows q r → Grows p r
grows_twice p q r first second = record {
  frames = (first.frames.0 ++ second.frames.0, second.frames.1 ∙ ap (λ xs. xs ++ second.frames.0) first.frames.1 ∙ append_assoc p.frames first.frames.0 second.frames.0);
  filters = (first.filters.0 ++ second.filters.0, second.filters.1 ∙ ap (λ xs. xs ++ second.filters.0) first.filters.1 ∙ append_assoc p.filters first.filters.0 second.filters.0);
  setups = (first.setups.0 ++ second.setups.0, second.setups.1 ∙ ap (λ xs. xs ++ second.setups.0) first.setups.1 ∙ append_assoc p.setups first.setups.0 second.setups.0);
}

pub grown_by_frames : (p q : Payloads) (more : List (List ℕ)) → q.frames ≡ p.frames ++ more → q.filters ≡ p.filters → q.setups ≡ p.setups → Grows p q
grown_by_frames p q more frames filters setups = record {
  frames = (more, frames);
  filters = ([], filters ∙ sym (append-nil p.filters));
  setups = ([], setups ∙ sym (append-nil p.setups));
}

pub grown_by_filters : (p q : Payloads) (more : List ℕ) → q.frames ≡ p.frames → q.filters ≡ p.filters ++ more → q.setups ≡ p.setups → Grows p q
grown_by_filters p q more frames filters setups = record {
  frames = ([], frames ∙ sym (append-nil p.frames));
  filters = (more, filters);
  setups = ([], setups ∙ sym (append-nil p.setups));
}

pub grown_by_setups : (p q : Payloads) (more : List Setup) → q.frames ≡ p.frames → q.filters ≡ p.filters → q.setups ≡ p.setups ++ more → Grows p q
grown_by_setups p q more frames filters setups = record {
  frames = ([], frames ∙ sym (append-nil p.frames));
  filters = ([], filters ∙ sym (append-nil p.filters));
  setups = (more, setups);
}

pub frames_at_same : (p q : Payloads) → Grows p q → (span : FrameSpan) → SpanWithin p.frames span → frames_at q.frames span ≡ frames_at p.frames span
frames_at_same p q grows span within = rw grows.frames.1 (frames_at_grown p.frames grows.frames.0 span within)

pub filters_at_same : (p q : Payloads) → Grows p q → (span : FilterSpan) → FiltersWithin p span → filters_at q.filters span ≡ filters_at p.filters span
filters_at_same p q grows span within = rw grows.filters.1 (part_grown p.filters grows.filters.0 span.first span.count within)

pub value_at_same : (p q : Payloads) → Grows p q → (value : ValueNo) → ValueWithin p value → value_at q.frames value ≡ value_at p.frames value
value_at_same p q grows value within = rw grows.frames.1 (get_or_append_left p.frames grows.frames.0 [] value.0 within)

pub setup_at_same : (p q : Payloads) → Grows p q → (setup : SetupNo) → SetupWithin p setup → setup_at q.setups setup ≡ setup_at p.setups setup
setup_at_same p q grows setup within = rw grows.setups.1 (get_or_append_left p.setups grows.setups.0 no_setup setup.0 within)

pub more_frames : (p q : Payloads) → Grows p q → length p.frames ≤ length q.frames
more_frames p q grows = rw grows.frames.1 (omega (arith, length-append p.frames grows.frames.0))

pub more_filters : (p q : Payloads) → Grows p q → length p.filters ≤ length q.filters
more_filters p q grows = rw grows.filters.1 (omega (arith, length-append p.filters grows.filters.0))

pub more_setups : (p q : Payloads) → Grows p q → length p.setups ≤ length q.setups
more_setups p q grows = rw grows.setups.1 (omega (arith, length-append p.setups grows.setups.0))

pub event_of_same : (p q : Payloads) → Grows p q → (e : FlatEvent) → EventWithin p e → event_of q e ≡ event_of p e
event_of_same p q g (flat_event.Insert kind position setup) w = ap (event.Insert kind position) (setup_at_same p q g setup w)
event_of_same p q g (flat_event.Replace filter kind setup) w = ap (event.Replace filter kind) (setup_at_same p q g setup w)
event_of_same p q g (flat_event.Send binding cancel frames) w = ap (event.Send binding cancel) (frames_at_same p q g frames w)
event_of_same p q g (flat_event.Indicate frames) w = ap event.Indicate (frames_at_same p q g frames w)
event_of_same p q g (flat_event.Lend frames) w = ap event.Lend (frames_at_same p q g frames w)
event_of_same p q g (flat_event.Ask binding kind code value) w = ap (event.Ask binding kind code) (value_at_same p q g value w)
event_of_same p q g (flat_event.CrossPut stack message vlan frames) w = ap (event.CrossPut stack message vlan) (frames_at_same p q g frames w)
event_of_same p q g (flat_event.CrossPutUp stack message frames) w = ap (event.CrossPutUp stack message) (frames_at_same p q g frames w)
event_of_same p q g _ w = refl

pub reply_of_same : (p q : Payloads) → Grows p q → (r : FlatReply) → ReplyWithin p r → reply_of q r ≡ reply_of p r
reply_of_same p q g (flat_reply.Taken message frames) w = ap (reply.Taken message) (frames_at_same p q g frames w)
reply_of_same p q g _ w = refl

pub row_of_same : (p q : Payloads) → Grows p q → (r : FlatRow) → RowWithin p r → row_of q r ≡ row_of p r
row_of_same p q g (flat_row.Issue list owner config direction cancel origin frames) w = ap (row.Issue list owner config direction cancel origin) (frames_at_same p q g frames w)
row_of_same p q g (flat_row.Wire list frames) w = ap (row.Wire list) (frames_at_same p q g frames w)
row_of_same p q g (flat_row.Deliver list binding how frames) w = ap (row.Deliver list binding how) (frames_at_same p q g frames w)
row_of_same p q g (flat_row.Config config filters) w = ap (row.Config config) (filters_at_same p q g filters w)
row_of_same p q g (flat_row.OidIssue request parent binding kind code value) w = ap (row.OidIssue request parent binding kind code) (value_at_same p q g value w)
row_of_same p q g (flat_row.OidDone request status value) w = ap (row.OidDone request status) (value_at_same p q g value w)
row_of_same p q g (flat_row.CrossOut message way frames) w = ap (row.CrossOut message way) (frames_at_same p q g frames w)
row_of_same p q g (flat_row.CrossIn stack message way frames) w = ap (row.CrossIn stack message way) (frames_at_same p q g frames w)
row_of_same p q g _ w = refl

pub event_within_grown : (p q : Payloads) → Grows p q → (e : FlatEvent) → EventWithin p e → EventWithin q e
event_within_grown p q g (flat_event.Insert kind position setup) w = omega (arith, more_setups p q g)
event_within_grown p q g (flat_event.Replace filter kind setup) w = omega (arith, more_setups p q g)
event_within_grown p q g (flat_event.Send binding cancel frames) w = omega (arith, more_frames p q g)
event_within_grown p q g (flat_event.Indicate frames) w = omega (arith, more_frames p q g)
event_within_grown p q g (flat_event.Lend frames) w = omega (arith, more_frames p q g)
event_within_grown p q g (flat_event.Ask binding kind code value) w = omega (arith, more_frames p q g)
event_within_grown p q g (flat_event.CrossPut stack message vlan frames) w = omega (arith, more_frames p q g)
event_within_grown p q g (flat_event.CrossPutUp stack message frames) w = omega (arith, more_frames p q g)
event_within_grown p q g _ w = tt

pub reply_within_grown : (p q : Payloads) → Grows p q → (r : FlatReply) → ReplyWithin p r → ReplyWithin q r
reply_within_grown p q g (flat_reply.Taken message frames) w = omega (arith, more_frames p q g)
reply_within_grown p q g _ w = tt

pub row_within_grown : (p q : Payloads) → Grows p q → (r : FlatRow) → RowWithin p r → RowWithin q r
row_within_grown p q g (flat_row.Issue list owner config direction cancel origin frames) w = omega (arith, more_frames p q g)
row_within_grown p q g (flat_row.Wire list frames) w = omega (arith, more_frames p q g)
row_within_grown p q g (flat_row.Deliver list binding how frames) w = omega (arith, more_frames p q g)
row_within_grown p q g (flat_row.Config config filters) w = omega (arith, more_filters p q g)
row_within_grown p q g (flat_row.OidIssue request parent binding kind code value) w = omega (arith, more_frames p q g)
row_within_grown p q g (flat_row.OidDone request status value) w = omega (arith, more_frames p q g)
row_within_grown p q g (flat_row.CrossOut message way frames) w = omega (arith, more_frames p q g)
row_within_grown p q g (flat_row.CrossIn stack message way frames) w = omega (arith, more_frames p q g)
row_within_grown p q g _ w = tt

pub grows_into : (p q r : Payloads) → Grows p q → r ≡ q → Grows p r
grows_into p q r grows same = let P : Payloads → Type 0 = λ x. Grows p x in subst P (sym same) grows

-- whole journals

pub only_grows_nothing : (v : FlatView) → OnlyGrows v v
only_grows_nothing v = record { head = refl; turns = refl; rows = refl; payloads = grows_nothing v.payloads }

pub only_grows_twice : (u v w : FlatView) → OnlyGrows u v → OnlyGrows v w → OnlyGrows u w
only_grows_twice u v w first second = record {
  head = second.head ∙ first.head;
  turns = second.turns ∙ first.turns;
  rows = second.rows ∙ first.rows;
  payloads = grows_twice u.payloads v.payloads w.payloads first.payloads second.payloads;
}
