-- A flat row, event or reply shows the one that it is a copy of.
use Rattle.std.proofs.Common.{◌≡◌, ℕ, List, [], ◌∷◌, ◌++◌, ◌+◌, ◌<◌, length, take, get_or, ◌∙◌, ap, sym, refl, arith}
use Rattle.std.proofs.lemmas.List.{append_assoc, take_more}
use Rattle.journal_types.specs.declared.Turn.{Turn}
use Rattle.std.specs.Prelude.{Some, None}
use Rattle.std.specs.declared.option.Option.{Option}
use Rattle.journal_types.specs.declared.Event.{Event}
use Rattle.journal_types.specs.declared.Event.TheVariants as event
use Rattle.journal_types.specs.declared.Reply.{Reply}
use Rattle.journal_types.specs.declared.Reply.TheVariants as reply
use Rattle.journal_types.specs.declared.Row.{Row}
use Rattle.journal_types.specs.declared.Row.TheVariants as row
use Rattle.frame_arena.specs.declared.FrameSpan.{FrameSpan}
use Rattle.frame_arena.specs.Spans.{frames_at, SpanWithin}
use Rattle.flat_journal.specs.declared.copying.RowPlaces.{RowPlaces}
use Rattle.flat_journal.specs.declared.copying.EventPlaces.{EventPlaces}
use Rattle.flat_journal.specs.declared.types.ValueNo.{ValueNo}
use Rattle.flat_journal.specs.Payloads.{Payloads, filters_at}
use Rattle.flat_journal.specs.Grows.{Grows}
use Rattle.flat_journal.specs.Shown.{event_of, reply_of, row_of}
use Rattle.flat_journal.specs.Within.{FiltersWithin, EventWithin, ReplyWithin, RowWithin}
use Rattle.flat_journal.specs.Copied.{RowStands, EventStands, ValueStands, SetupStands, row_frames, row_value, row_filters, event_frames, event_value, event_setup, flat_row_of, flat_event_of, flat_reply_of, reply_frames}
use Rattle.flat_journal.proofs.Grown.{grows_twice, more_frames, frames_at_same, value_at_same}

pub row_shown : (p : Payloads) (at : RowPlaces) (r : Row) → RowStands p at r → row_of p (flat_row_of at r) ≡ r
row_shown p at (row.Issue list owner config direction cancel origin frames) s = ap (row.Issue list owner config direction cancel origin) s.frames
row_shown p at (row.Wire list frames) s = ap (row.Wire list) s.frames
row_shown p at (row.Deliver list binding how frames) s = ap (row.Deliver list binding how) s.frames
row_shown p at (row.Config config filters) s = ap (row.Config config) s.filters
row_shown p at (row.OidIssue request parent binding kind code value) s = ap (row.OidIssue request parent binding kind code) s.value.1
row_shown p at (row.OidDone request status value) s = ap (row.OidDone request status) s.value.1
row_shown p at (row.CrossOut message way frames) s = ap (row.CrossOut message way) s.frames
row_shown p at (row.CrossIn stack message way frames) s = ap (row.CrossIn stack message way) s.frames
row_shown p at _ s = refl

pub row_within : (p : Payloads) (at : RowPlaces) (r : Row) → RowStands p at r → RowWithin p (flat_row_of at r)
row_within p at (row.Issue list owner config direction cancel origin frames) s = s.frames_within
row_within p at (row.Wire list frames) s = s.frames_within
row_within p at (row.Deliver list binding how frames) s = s.frames_within
row_within p at (row.Config config filters) s = s.filters_within
row_within p at (row.OidIssue request parent binding kind code value) s = s.value.0
row_within p at (row.OidDone request status value) s = s.value.0
row_within p at (row.CrossOut message way frames) s = s.frames_within
row_within p at (row.CrossIn stack message way frames) s = s.frames_within
row_within p at _ s = tt

pub event_shown : (p : Payloads) (at : EventPlaces) (e : Event) → EventStands p at e → event_of p (flat_event_of at e) ≡ e
event_shown p at (event.Insert kind position setup) s = ap (event.Insert kind position) s.setup.1
event_shown p at (event.Replace filter kind setup) s = ap (event.Replace filter kind) s.setup.1
event_shown p at (event.Send binding cancel frames) s = ap (event.Send binding cancel) s.frames
event_shown p at (event.Indicate frames) s = ap event.Indicate s.frames
event_shown p at (event.Lend frames) s = ap event.Lend s.frames
event_shown p at (event.Ask binding kind code value) s = ap (event.Ask binding kind code) s.value.1
event_shown p at (event.CrossPut stack message vlan frames) s = ap (event.CrossPut stack message vlan) s.frames
event_shown p at (event.CrossPutUp stack message frames) s = ap (event.CrossPutUp stack message) s.frames
event_shown p at _ s = refl

pub event_within : (p : Payloads) (at : EventPlaces) (e : Event) → EventStands p at e → EventWithin p (flat_event_of at e)
event_within p at (event.Insert kind position setup) s = s.setup.0
event_within p at (event.Replace filter kind setup) s = s.setup.0
event_within p at (event.Send binding cancel frames) s = s.frames_within
event_within p at (event.Indicate frames) s = s.frames_within
event_within p at (event.Lend frames) s = s.frames_within
event_within p at (event.Ask binding kind code value) s = s.value.0
event_within p at (event.CrossPut stack message vlan frames) s = s.frames_within
event_within p at (event.CrossPutUp stack message frames) s = s.frames_within
event_within p at _ s = tt

pub reply_shown : (p : Payloads) (at : FrameSpan) (r : Reply) → frames_at p.frames at ≡ reply_frames r → reply_of p (flat_reply_of at r) ≡ r
reply_shown p at (reply.Taken message frames) s = ap (reply.Taken message) s
reply_shown p at _ s = refl

pub reply_within : (p : Payloads) (at : FrameSpan) (r : Reply) → SpanWithin p.frames at → ReplyWithin p (flat_reply_of at r)
reply_within p at (reply.Taken message frames) s = s
reply_within p at _ s = tt

-- what stands after one step stands when further payloads are added

value_stands_grown : (p q : Payloads) → Grows p q → (at : ValueNo) (value : Option (List ℕ)) → ValueStands p at value → ValueStands q at value
value_stands_grown p q g at None s = tt
value_stands_grown p q g at (Some value) s = (omega (arith, s.0, more_frames p q g), value_at_same p q g at s.0 ∙ s.1)

pub row_stands : (p q r : Payloads) → Grows p q → Grows q r → (at : RowPlaces) (made : Row) → SpanWithin p.frames at.frames → frames_at p.frames at.frames ≡ row_frames made → ValueStands q at.value (row_value made) → FiltersWithin r at.filters → filters_at r.filters at.filters ≡ row_filters made → RowStands r at made
row_stands p q r g h at made frames_within frames value filters_within filters =
    let both : Grows p r = grows_twice p q r g h in
    record {
      frames_within = omega (arith, more_frames p r both, frames_within);
      frames = frames_at_same p r both at.frames frames_within ∙ frames;
      value = value_stands_grown q r h at.value (row_value made) value;
      filters_within = filters_within;
      filters = filters;
    }

pub event_stands : (p q r : Payloads) → Grows p q → Grows q r → (at : EventPlaces) (made : Event) → SpanWithin p.frames at.frames → frames_at p.frames at.frames ≡ event_frames made → ValueStands q at.value (event_value made) → SetupStands r at.setup (event_setup made) → EventStands r at made
event_stands p q r g h at made frames_within frames value setup =
    let both : Grows p r = grows_twice p q r g h in
    record {
      frames_within = omega (arith, more_frames p r both, frames_within);
      frames = frames_at_same p r both at.frames frames_within ∙ frames;
      value = value_stands_grown q r h at.value (event_value made) value;
      setup = setup;
    }

-- one more row is copied
pub one_row_more : (old loop made given : List Row) (i : ℕ) (x : Row) → made ≡ loop ++ x ∷ [] → loop ≡ old ++ take i given → x ≡ get_or given i x → i < length given → made ≡ old ++ take (i + 1) given
one_row_more old loop made given i x pushed so_far here within =
    let more : take (i + 1) given ≡ take i given ++ get_or given i x ∷ [] = take_more given i x within in
    let assoc : (old ++ take i given) ++ x ∷ [] ≡ old ++ (take i given ++ x ∷ []) = append_assoc old (take i given) (x ∷ []) in
    pushed ∙ ap (λ xs. xs ++ x ∷ []) so_far ∙ assoc ∙ ap (λ y. old ++ (take i given ++ y ∷ [])) here ∙ ap (λ xs. old ++ xs) (sym more)

-- the turn that is added is the one that is copied
pub turn_copied : (old made : List Turn) (turn : Turn) (e : Event) (r : Reply) (rows : List Row) → made ≡ old ++ (record { who = turn.who; event = e; reply = r; rows = rows }) ∷ [] → e ≡ turn.event → r ≡ turn.reply → rows ≡ turn.rows → made ≡ old ++ turn ∷ []
turn_copied old made turn e r rows ended event reply rows_same =
    ended
    ∙ ap (λ (x : Event). let t : Turn = record { who = turn.who; event = x; reply = r; rows = rows } in old ++ t ∷ []) event
    ∙ ap (λ (x : Reply). let t : Turn = record { who = turn.who; event = turn.event; reply = x; rows = rows } in old ++ t ∷ []) reply
    ∙ ap (λ (x : List Row). let t : Turn = record { who = turn.who; event = turn.event; reply = turn.reply; rows = x } in old ++ t ∷ []) rows_same
