-- What is shown of heads and rows when a row, a payload or a turn is added, or rows are taken away.
use Rattle.std.proofs.Common.{◌≡◌, ℕ, List, [], ◌∷◌, ◌++◌, ◌-◌, ◌≤◌, length, map, take, drop, All, ◌∙◌, ap, refl, sym, arith}
use Rattle.std.specs.Prelude.{slice_range}
use Rattle.std.proofs.lemmas.List.{length-append, map_push, drop-append-le, drop_all, take_rest, take-append-drop, length-take}
use Rattle.std.proofs.lemmas.List.Elements.{All-head, All-tail, All-push, All-take, All-drop, All-weaker}
use Rattle.frame_arena.proofs.Ranges.{slice_range_grown}
use Rattle.journal_types.specs.declared.Turn.{Turn}
use Rattle.flat_journal.specs.declared.types.FlatRow.{FlatRow}
use Rattle.flat_journal.specs.declared.types.TurnHead.{TurnHead}
use Rattle.flat_journal.specs.Payloads.{Payloads}
use Rattle.flat_journal.specs.Shown.{event_of, reply_of, row_of, turn_of}
use Rattle.flat_journal.specs.Within.{RowWithin, TurnWithin}
use Rattle.flat_journal.specs.Flat.{Kept}
use Rattle.flat_journal.specs.Grows.{Grows}
use Rattle.flat_journal.proofs.Grown.{event_of_same, reply_of_same, row_of_same, event_within_grown, reply_within_grown, row_within_grown}

-- functions that agree at each element give the same list
map-same : {X Y : Type 0} (P : X → Type 0) (f h : X → Y) → ((x : X) → P x → f x ≡ h x) → (xs : List X) → All P xs → map f xs ≡ map h xs
map-same P f h agree [] all = refl
map-same P f h agree (x ∷ xs) all =
    let here : f x ≡ h x = agree x (All-head P x xs all) in
    let others : map f xs ≡ map h xs = map-same P f h agree xs (All-tail P x xs all) in
    cc

-- a head whose rows stand at the same places shows the same turn
turn_of_same_rows : (p : Payloads) (rows others : List FlatRow) (head : TurnHead) → slice_range others head.first head.end ≡ slice_range rows head.first head.end → turn_of p others head ≡ turn_of p rows head
turn_of_same_rows p rows others head same =
    ap (λ (part : List FlatRow). let turn : Turn = record { who = head.who; event = event_of p head.event; reply = reply_of p head.reply; rows = map (row_of p) part } in turn) same

-- a row is added

pub turns-row_added : (p : Payloads) (heads : List TurnHead) (rows : List FlatRow) (begun : ℕ) (row : FlatRow) → Kept p heads rows begun → map (turn_of p (rows ++ row ∷ [])) heads ≡ map (turn_of p rows) heads
turns-row_added p heads rows begun row kept =
    map-same (TurnWithin p begun) (turn_of p (rows ++ row ∷ [])) (turn_of p rows)
    (λ head within. turn_of_same_rows p rows (rows ++ row ∷ []) head (slice_range_grown rows (row ∷ []) head.first head.end within.ordered (omega (arith, within.ended, kept.begun_within))))
    heads kept.turns_within

pub rows-row_added : (p : Payloads) (heads : List TurnHead) (rows : List FlatRow) (begun : ℕ) (row : FlatRow) → Kept p heads rows begun → map (row_of p) (drop begun (rows ++ row ∷ [])) ≡ map (row_of p) (drop begun rows) ++ row_of p row ∷ []
rows-row_added p heads rows begun row kept =
    ap (map (row_of p)) (drop-append-le begun rows (row ∷ []) kept.begun_within) ∙ map_push (row_of p) (drop begun rows) row

pub kept-row_added : (p : Payloads) (heads : List TurnHead) (rows : List FlatRow) (begun : ℕ) (row : FlatRow) → Kept p heads rows begun → RowWithin p row → Kept p heads (rows ++ row ∷ []) begun
kept-row_added p heads rows begun row kept within = record {
  rows_within = All-push (RowWithin p) rows row kept.rows_within within;
  turns_within = kept.turns_within;
  begun_within = omega (arith, length-append rows (row ∷ []), kept.begun_within);
}

-- payloads are added

turn_of_same : (p q : Payloads) → Grows p q → (rows : List FlatRow) (begun : ℕ) → All (RowWithin p) rows → (head : TurnHead) → TurnWithin p begun head → turn_of q rows head ≡ turn_of p rows head
turn_of_same p q grows rows begun rows_within head within =
    let event : event_of q head.event ≡ event_of p head.event = event_of_same p q grows head.event within.event in
    let reply : reply_of q head.reply ≡ reply_of p head.reply = reply_of_same p q grows head.reply within.reply in
    let part : map (row_of q) (slice_range rows head.first head.end) ≡ map (row_of p) (slice_range rows head.first head.end) =
    map-same (RowWithin p) (row_of q) (row_of p) (row_of_same p q grows) (slice_range rows head.first head.end) (All-take (RowWithin p) (head.end - head.first) (drop head.first rows) (All-drop (RowWithin p) head.first rows rows_within)) in
    cc

pub turns-grown : (p q : Payloads) → Grows p q → (heads : List TurnHead) (rows : List FlatRow) (begun : ℕ) → Kept p heads rows begun → map (turn_of q rows) heads ≡ map (turn_of p rows) heads
turns-grown p q grows heads rows begun kept =
    map-same (TurnWithin p begun) (turn_of q rows) (turn_of p rows) (turn_of_same p q grows rows begun kept.rows_within) heads kept.turns_within

pub rows-grown : (p q : Payloads) → Grows p q → (heads : List TurnHead) (rows : List FlatRow) (begun : ℕ) → Kept p heads rows begun → map (row_of q) (drop begun rows) ≡ map (row_of p) (drop begun rows)
rows-grown p q grows heads rows begun kept =
    map-same (RowWithin p) (row_of q) (row_of p) (row_of_same p q grows) (drop begun rows) (All-drop (RowWithin p) begun rows kept.rows_within)

pub kept-grown : (p q : Payloads) → Grows p q → (heads : List TurnHead) (rows : List FlatRow) (begun : ℕ) → Kept p heads rows begun → Kept q heads rows begun
kept-grown p q grows heads rows begun kept = record {
  rows_within = All-weaker (RowWithin p) (RowWithin q) (row_within_grown p q grows) rows kept.rows_within;
  turns_within = All-weaker (TurnWithin p begun) (TurnWithin q begun) (λ head within. record {
    event = event_within_grown p q grows head.event within.event;
    reply = reply_within_grown p q grows head.reply within.reply;
    ordered = within.ordered;
    ended = within.ended;
  }) heads kept.turns_within;
  begun_within = kept.begun_within;
}

-- a turn is ended

later : (p : Payloads) (begun since : ℕ) → begun ≤ since → (head : TurnHead) → TurnWithin p begun head → TurnWithin p since head
later p begun since le head within = record {
  event = within.event;
  reply = within.reply;
  ordered = within.ordered;
  ended = omega (arith, within.ended, le);
}

pub turns-ended : (p : Payloads) (heads : List TurnHead) (rows : List FlatRow) (head : TurnHead) → head.end ≡ length rows → map (turn_of p rows) (heads ++ head ∷ []) ≡ map (turn_of p rows) heads ++ (record { who = head.who; event = event_of p head.event; reply = reply_of p head.reply; rows = map (row_of p) (drop head.first rows) }) ∷ []
turns-ended p heads rows head end =
    let part : slice_range rows head.first head.end ≡ drop head.first rows = rw end (take_rest rows head.first) in
    map_push (turn_of p rows) heads head ∙ ap (λ (shown : List FlatRow). let turn : Turn = record { who = head.who; event = event_of p head.event; reply = reply_of p head.reply; rows = map (row_of p) shown } in map (turn_of p rows) heads ++ turn ∷ []) part

pub rows-ended : (p : Payloads) (rows : List FlatRow) → map (row_of p) (drop (length rows) rows) ≡ []
rows-ended p rows = ap (map (row_of p)) (drop_all (length rows) rows (omega arith))

pub kept-ended : (p : Payloads) (heads : List TurnHead) (rows : List FlatRow) (begun : ℕ) (head : TurnHead) → Kept p heads rows begun → TurnWithin p (length rows) head → Kept p (heads ++ head ∷ []) rows (length rows)
kept-ended p heads rows begun head kept within = record {
  rows_within = kept.rows_within;
  turns_within = All-push (TurnWithin p (length rows)) heads head (All-weaker (TurnWithin p begun) (TurnWithin p (length rows)) (later p begun (length rows) kept.begun_within) heads kept.turns_within) within;
  begun_within = omega arith;
}

-- the rows of the turn under way are taken away

pub turns-abandoned : (p : Payloads) (heads : List TurnHead) (rows : List FlatRow) (begun : ℕ) → Kept p heads rows begun → map (turn_of p (take begun rows)) heads ≡ map (turn_of p rows) heads
turns-abandoned p heads rows begun kept =
    let parts : take begun rows ++ drop begun rows ≡ rows = take-append-drop begun rows in
    let all : begun ≤ length (take begun rows) = omega (arith, length-take begun rows, kept.begun_within) in
    map-same (TurnWithin p begun) (turn_of p (take begun rows)) (turn_of p rows)
    (λ head within.
    turn_of_same_rows p rows (take begun rows) head
    (sym (slice_range_grown (take begun rows) (drop begun rows) head.first head.end within.ordered (omega (arith, within.ended, all)))
    ∙ ap (λ whole. slice_range whole head.first head.end) parts))
    heads kept.turns_within

pub rows-abandoned : (p : Payloads) (rows : List FlatRow) (begun : ℕ) → map (row_of p) (drop begun (take begun rows)) ≡ []
rows-abandoned p rows begun = ap (map (row_of p)) (drop_all begun (take begun rows) (omega (arith, length-take begun rows)))

pub kept-abandoned : (p : Payloads) (heads : List TurnHead) (rows : List FlatRow) (begun : ℕ) → Kept p heads rows begun → Kept p heads (take begun rows) begun
kept-abandoned p heads rows begun kept = record {
  rows_within = All-take (RowWithin p) begun rows kept.rows_within;
  turns_within = kept.turns_within;
  begun_within = omega (arith, length-take begun rows, kept.begun_within);
}
