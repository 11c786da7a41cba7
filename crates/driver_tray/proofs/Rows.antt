-- One more row of the turn under way.
use Rattle.std.proofs.Common.{◌≡◌, ℕ, ◌+◌, ◌-◌, ◌*◌, ◌≤◌, List, [], ◌∷◌, ◌++◌, Option, None, Some, All, length, sum_by, drop, min, refl, sym, ap, ◌∙◌, subst, arith}
use Rattle.std.proofs.lemmas.List.{length-take, length-drop}
use Rattle.std.proofs.lemmas.List.Elements.{All-head, All-tail}
use Rattle.std.proofs.lemmas.List.Sums.{sum_by-cons}
use Rattle.ndis_base.specs.declared.ModuleId.{ModuleId}
use Rattle.ndis_base.specs.declared.ListNo.{ListNo}
use Rattle.ndis_base.specs.declared.OidNo.{OidNo}
use Rattle.ndis_base.specs.declared.OidStatus.{OidStatus}
use Rattle.ndis_base.specs.declared.StatusName.{StatusName}
use Rattle.ndis_base.specs.declared.StatusNo.{StatusNo}
use Rattle.journal_types.specs.declared.StackHead.{StackHead}
use Rattle.journal_types.specs.declared.Event.{Event}
use Rattle.journal_types.specs.declared.Reply.{Reply}
use Rattle.journal_types.specs.declared.Row.{Row}
use Rattle.journal_types.specs.declared.Row.TheVariants as row
use Rattle.journal_types.specs.declared.PassWay.{PassWay}
use Rattle.journal_types.specs.declared.Target.{Target}
use Rattle.journal_types.specs.declared.Turn.{Turn}
use Rattle.buffer_pools.specs.declared.label.Label.{Label}
use Rattle.buffer_pools.specs.Views.{ListView, PoolView, Fits}
use Rattle.agenda_items.specs.declared.Carried.{Carried}
use Rattle.agenda_items.specs.declared.Carried.TheVariants.{List as a_list}
use Rattle.frame_arena.specs.declared.FrameSpan.{FrameSpan}
use Rattle.frame_arena.specs.Spans.{frames_at, SpanWithin}
use Rattle.flat_journal.specs.declared.types.FlatRow.{FlatRow}
use Rattle.flat_journal.specs.declared.types.FlatRow.TheVariants as flat_row
use Rattle.flat_journal.specs.declared.types.Room.{Room}
use Rattle.flat_journal.specs.Flat.{FlatView}
use Rattle.flat_journal.specs.Payloads.{Payloads}
use Rattle.flat_journal.specs.Rooms.{Uses, no_room}
use Rattle.flat_journal.specs.Shown.{row_of}
use Rattle.flat_journal.specs.Grows.{Grows}
use Rattle.flat_journal.proofs.Grown.{grown_by_frames, event_of_same, reply_of_same, event_within_grown, reply_within_grown}
use Rattle.stack_rules.specs.Net.{Net, start, told, after, after_rows, after_turn, after_turns, seen}
use Rattle.stack_ledger.specs.Bare.{LedgerView, bare, with_net, with_issued, with_wired, with_status, with_done, noted, asked}
use Rattle.stack_ledger.proofs.Bare.{bare_after}
use Rattle.driver_tray.specs.declared.telling.Telling.{Telling}
use Rattle.driver_tray.specs.Tray.{IsSteady, begun_by, ended, written, framed, issue_row, clone_issued, request_issued}
use Rattle.driver_tray.specs.Inside.{told_of, ToldWithin, net_of, shown_of}

pub after_rows-append : (net : Net) (rows : List Row) (r : Row) → after_rows net (rows ++ r ∷ []) ≡ after (after_rows net rows) r
after_rows-append net [] r = refl
after_rows-append net (x ∷ xs) r = after_rows-append (after net x) xs r

-- a row that leaves what a ledger has
pub steady : (net : Net) (p : Payloads) (r : FlatRow) → IsSteady r → bare (after net (row_of p r)) ≡ bare net
steady net p (flat_row.Issue list owner config direction cancel origin frames) s = absurd s
steady net p (flat_row.Give list m handler) s = refl
steady net p (flat_row.Pass list way to) s = refl
steady net p (flat_row.Keep list m) s = refl
steady net p (flat_row.TurnBack list m status) s = refl
steady net p (flat_row.Home list owner status) s = refl
steady net p (flat_row.Wire list frames) s = absurd s
steady net p (flat_row.Deliver list binding how frames) s = refl
steady net p (flat_row.Phase of) s = absurd s
steady net p (flat_row.Config config filters) s = absurd s
steady net p (flat_row.OidIssue request parent binding kind code value) s = absurd s
steady net p (flat_row.OidGive request m) s = absurd s
steady net p (flat_row.OidDone request status value) s = absurd s
steady net p (flat_row.Status number name to) s = absurd s
steady net p (flat_row.Seen number m) s = refl
steady net p (flat_row.CrossOut message way frames) s = absurd s
steady net p (flat_row.CrossIn stack message way frames) s = refl

-- what is left of a room
same_room : (left : Room) (turns rows frames bytes filters setups : ℕ) → left.turns ≡ turns → left.rows ≡ rows → left.frames ≡ frames → left.bytes ≡ bytes → left.filters ≡ filters → left.setups ≡ setups
    → left ≡ record { turns = turns; rows = rows; frames = frames; bytes = bytes; filters = filters; setups = setups }
same_room left turns rows frames bytes filters setups t r f b i s = rw (← t, ← r, ← f, ← b, ← i, ← s) refl

row_less : (before left : Room) → Uses before left (record no_room { rows = 1 }) → left ≡ record before { rows = before.rows - 1 }
row_less before left u =
    same_room left before.turns (before.rows - 1) before.frames before.bytes before.filters before.setups
    (omega (arith, u.turns)) (omega (arith, u.rows)) (omega (arith, u.frames)) (omega (arith, u.bytes)) (omega (arith, u.filters)) (omega (arith, u.setups))

frames_less : (before left : Room) (many bytes : ℕ) → Uses before left (record no_room { frames = many; bytes = bytes }) → left ≡ record before { frames = before.frames - many; bytes = before.bytes - bytes }
frames_less before left many bytes u =
    same_room left before.turns before.rows (before.frames - many) (before.bytes - bytes) before.filters before.setups
    (omega (arith, u.turns)) (omega (arith, u.rows)) (omega (arith, u.frames)) (omega (arith, u.bytes)) (omega (arith, u.filters)) (omega (arith, u.setups))

same_view : (k : FlatView) (head : StackHead) (turns : List Turn) (rows : List Row) (payloads : Payloads) (room : Room)
    → k.head ≡ head → k.turns ≡ turns → k.rows ≡ rows → k.payloads ≡ payloads → k.room ≡ room
    → k ≡ record { head = head; turns = turns; rows = rows; payloads = payloads; room = room }
same_view k head turns rows payloads room h t r p m = rw (← h, ← t, ← r, ← p, ← m) refl

-- the journal with one more row
abbrev pub row_more : FlatView → Row → FlatView
row_more j r = record j { rows = j.rows ++ r ∷ []; room = record j.room { rows = j.room.rows - 1 } }

pub journal_written : (j k : FlatView) (r : Row) → k.head ≡ j.head → k.turns ≡ j.turns → k.rows ≡ j.rows ++ r ∷ [] → k.payloads ≡ j.payloads
    → Uses j.room k.room (record no_room { rows = 1 }) → k ≡ row_more j r
journal_written j k r h t rs p u =
    same_view k j.head j.turns (j.rows ++ r ∷ []) j.payloads (record j.room { rows = j.room.rows - 1 }) h t rs p (row_less j.room k.room u)

pub net_written : (j : FlatView) (t : Option Telling) (r : Row) → net_of (row_more j r) t ≡ after (net_of j t) r
net_written j t r = after_rows-append (begun_by (seen j.head j.turns) (told_of j.payloads t)) j.rows r

-- the journal with more frames
abbrev pub frames_more : FlatView → List (List ℕ) → FlatView
frames_more j frames = record j {
  payloads = record j.payloads { frames = j.payloads.frames ++ frames };
  room = record j.room { frames = j.room.frames - length frames; bytes = j.room.bytes - sum_by length frames };
}

pub journal_framed : (j k : FlatView) (frames : List (List ℕ)) → k.head ≡ j.head → k.turns ≡ j.turns → k.rows ≡ j.rows → k.payloads ≡ record j.payloads { frames = j.payloads.frames ++ frames }
    → Uses j.room k.room (record no_room { frames = length frames; bytes = sum_by length frames }) → k ≡ frames_more j frames
journal_framed j k frames h t rs p u =
    same_view k j.head j.turns j.rows (record j.payloads { frames = j.payloads.frames ++ frames }) (record j.room { frames = j.room.frames - length frames; bytes = j.room.bytes - sum_by length frames })
    h t rs p (frames_less j.room k.room (length frames) (sum_by length frames) u)

-- a value takes the room of a frame
pub value_uses : (before left : Room) (value : List ℕ) → Uses before left (record no_room { frames = 1; bytes = length value })
    → Uses before left (record no_room { frames = length (value ∷ []); bytes = sum_by length (value ∷ []) })
value_uses before left value u =
    let same : length value ≡ sum_by length (value ∷ []) = omega arith in
    subst (λ n. Uses before left (record no_room { frames = 1; bytes = n })) same u

-- what was told shows as before
pub told_framed : (j : FlatView) (t : Option Telling) (frames : List (List ℕ)) → ToldWithin j.payloads t → told_of (frames_more j frames).payloads t ≡ told_of j.payloads t
told_framed j None frames w = refl
told_framed j (Some t) frames w =
    let g = grown_by_frames j.payloads (frames_more j frames).payloads frames refl refl refl in
    rw (event_of_same j.payloads (frames_more j frames).payloads g t.event w.0, reply_of_same j.payloads (frames_more j frames).payloads g t.reply w.1) refl

pub within_framed : (j : FlatView) (t : Option Telling) (frames : List (List ℕ)) → ToldWithin j.payloads t → ToldWithin (frames_more j frames).payloads t
within_framed j None frames w = w
within_framed j (Some t) frames w =
    let g = grown_by_frames j.payloads (frames_more j frames).payloads frames refl refl refl in
    (event_within_grown j.payloads (frames_more j frames).payloads g t.event w.0, reply_within_grown j.payloads (frames_more j frames).payloads g t.reply w.1)

pub net_framed : (j : FlatView) (t : Option Telling) (frames : List (List ℕ)) → ToldWithin j.payloads t → net_of (frames_more j frames) t ≡ net_of j t
net_framed j t frames w = ap (λ told. after_rows (begun_by (seen j.head j.turns) told) j.rows) (told_framed j t frames w)

-- what was told shows as before where payloads are added
pub told_grown : (p q : Payloads) (t : Option Telling) → Grows p q → ToldWithin p t → told_of q t ≡ told_of p t
told_grown p q None g w = refl
told_grown p q (Some t) g w = rw (event_of_same p q g t.event w.0, reply_of_same p q g t.reply w.1) refl

pub within_grown : (p q : Payloads) (t : Option Telling) → Grows p q → ToldWithin p t → ToldWithin q t
within_grown p q None g w = w
within_grown p q (Some t) g w = (event_within_grown p q g t.event w.0, reply_within_grown p q g t.reply w.1)

-- the journal with other payloads and other room
abbrev pub payloads_are : FlatView → Payloads → Room → FlatView
payloads_are j p room = record j { payloads = p; room = room }

pub journal_grown : (j k : FlatView) → k.head ≡ j.head → k.turns ≡ j.turns → k.rows ≡ j.rows → k ≡ payloads_are j k.payloads k.room
journal_grown j k h t rs = same_view k j.head j.turns j.rows k.payloads k.room h t rs refl refl

pub net_grown : (j : FlatView) (t : Option Telling) (p : Payloads) (room : Room) → Grows j.payloads p → ToldWithin j.payloads t → net_of (payloads_are j p room) t ≡ net_of j t
net_grown j t p room g w = ap (λ told. after_rows (begun_by (seen j.head j.turns) told) j.rows) (told_grown j.payloads p t g w)

pub shown_grown : (j : FlatView) (t : Option Telling) (queue : List Carried) (slack : ℕ) (caller : ModuleId) (pool : PoolView) (p : Payloads) (room : Room) → Grows j.payloads p → ToldWithin j.payloads t
    → shown_of (payloads_are j p room) t queue slack caller pool ≡ record (shown_of j t queue slack caller pool) { payloads = p; room = room }
shown_grown j t queue slack caller pool p room g w =
    ap (λ (n : Net). record (shown_of (payloads_are j p room) t queue slack caller pool) { net = n }) (net_grown j t p room g w)
    ∙ ap (λ (o : Option (Event × Reply)). record (shown_of j t queue slack caller pool) { payloads = p; room = room; told_by = o }) (told_grown j.payloads p t g w)

-- the journal with more filters that a row can show
abbrev pub filters_more : FlatView → List ℕ → FlatView
filters_more j filters = payloads_are j (record j.payloads { filters = j.payloads.filters ++ filters }) (record j.room { filters = j.room.filters - length filters })

filters_less : (before left : Room) (many : ℕ) → Uses before left (record no_room { filters = many }) → left ≡ record before { filters = before.filters - many }
filters_less before left many u =
    same_room left before.turns before.rows before.frames before.bytes (before.filters - many) before.setups
    (omega (arith, u.turns)) (omega (arith, u.rows)) (omega (arith, u.frames)) (omega (arith, u.bytes)) (omega (arith, u.filters)) (omega (arith, u.setups))

pub journal_listed : (j k : FlatView) (filters : List ℕ) → k.head ≡ j.head → k.turns ≡ j.turns → k.rows ≡ j.rows → k.payloads ≡ record j.payloads { filters = j.payloads.filters ++ filters }
    → Uses j.room k.room (record no_room { filters = length filters }) → k ≡ filters_more j filters
journal_listed j k filters h t rs p u =
    same_view k j.head j.turns j.rows (record j.payloads { filters = j.payloads.filters ++ filters }) (record j.room { filters = j.room.filters - length filters })
    h t rs p (filters_less j.room k.room (length filters) u)

-- the rows become a turn
abbrev pub turn_more : FlatView → Turn → FlatView
turn_more j turn = record j { turns = j.turns ++ turn ∷ []; rows = []; room = record j.room { turns = j.room.turns - 1 } }

turn_less : (before left : Room) → Uses before left (record no_room { turns = 1 }) → left ≡ record before { turns = before.turns - 1 }
turn_less before left u =
    same_room left (before.turns - 1) before.rows before.frames before.bytes before.filters before.setups
    (omega (arith, u.turns)) (omega (arith, u.rows)) (omega (arith, u.frames)) (omega (arith, u.bytes)) (omega (arith, u.filters)) (omega (arith, u.setups))

pub journal_ended : (j k : FlatView) (turn : Turn) → k.head ≡ j.head → k.turns ≡ j.turns ++ turn ∷ [] → k.rows ≡ [] → k.payloads ≡ j.payloads
    → Uses j.room k.room (record no_room { turns = 1 }) → k ≡ turn_more j turn
journal_ended j k turn h t rs p u =
    same_view k j.head (j.turns ++ turn ∷ []) [] j.payloads (record j.room { turns = j.room.turns - 1 }) h t rs p (turn_less j.room k.room u)

after_turns-append : (net : Net) (turns : List Turn) (turn : Turn) → after_turns net (turns ++ turn ∷ []) ≡ after_turn (after_turns net turns) turn
after_turns-append net [] turn = refl
after_turns-append net (t ∷ ts) turn = after_turns-append (after_turn net t) ts turn

pub net_ended : (j : FlatView) (t : Option Telling) (turn : Turn) → turn.rows ≡ j.rows → begun_by (seen j.head j.turns) (told_of j.payloads t) ≡ told (seen j.head j.turns) turn.event turn.reply
    → net_of (turn_more j turn) None ≡ net_of j t
net_ended j t turn rows same =
    after_turns-append (start j.head) j.turns turn
    ∙ ap (λ (n : Net). after_rows n turn.rows) (sym same)
    ∙ ap (λ (rs : List Row). after_rows (begun_by (seen j.head j.turns) (told_of j.payloads t)) rs) rows

pub shown_ended : (j k : FlatView) (t : Option Telling) (queue : List Carried) (slack : ℕ) (caller : ModuleId) (pool : PoolView) (turn : Turn) → k ≡ turn_more j turn → turn.rows ≡ j.rows
    → begun_by (seen j.head j.turns) (told_of j.payloads t) ≡ told (seen j.head j.turns) turn.event turn.reply
    → shown_of k None queue slack caller pool ≡ ended (shown_of j t queue slack caller pool) turn
shown_ended j k t queue slack caller pool turn e rows same =
    ap (λ (v : FlatView). shown_of v None queue slack caller pool) e
    ∙ ap (λ (n : Net). record (shown_of (turn_more j turn) None queue slack caller pool) { net = n }) (net_ended j t turn rows same)

-- the tray with one more row, and with a list that was issued
pub shown_written : (j k : FlatView) (t : Option Telling) (queue : List Carried) (slack : ℕ) (caller : ModuleId) (pool : PoolView) (r : Row) → k ≡ row_more j r
    → shown_of k t queue slack caller pool ≡ written (shown_of j t queue slack caller pool) r
shown_written j k t queue slack caller pool r e =
    ap (λ (v : FlatView). shown_of v t queue slack caller pool) e
    ∙ ap (λ (n : Net). record (shown_of (row_more j r) t queue slack caller pool) { net = n }) (net_written j t r)

-- and with a clone that was issued and is on its way
pub shown_cloned : (j k : FlatView) (t : Option Telling) (queue longer : List Carried) (slack : ℕ) (caller : ModuleId) (pool : PoolView) (label : Label) (frames : List (List ℕ)) (l : ListView) (way : PassWay) (to : Target)
    → k ≡ row_more j (issue_row label frames) → longer ≡ queue ++ a_list l way to ∷ []
    → shown_of k t longer (slack - 1) caller pool ≡ clone_issued (shown_of j t queue slack caller pool) label frames l way to
shown_cloned j k t queue longer slack caller pool label frames l way to e f =
    shown_written j k t longer (slack - 1) caller pool (issue_row label frames) e
    ∙ ap (λ (items : List Carried). record (written (shown_of j t queue slack caller pool) (issue_row label frames)) { queue = items; slack = slack - 1 }) f

pub shown_framed : (j : FlatView) (t : Option Telling) (queue : List Carried) (slack : ℕ) (caller : ModuleId) (pool : PoolView) (frames : List (List ℕ)) → ToldWithin j.payloads t
    → shown_of (frames_more j frames) t queue slack caller pool ≡ framed (shown_of j t queue slack caller pool) frames
shown_framed j t queue slack caller pool frames w =
    ap (λ (n : Net). record (shown_of (frames_more j frames) t queue slack caller pool) { net = n }) (net_framed j t frames w)
    ∙ ap (λ (o : Option (Event × Reply)). record (framed (shown_of j t queue slack caller pool) frames) { told_by = o }) (told_framed j t frames w)

-- frames of a list have at most so many bytes together
sum_short : (frames : List (List ℕ)) → All (λ f. length f ≤ 1518) frames → sum_by length frames ≤ 1518 * length frames
sum_short [] short = omega arith
sum_short (f ∷ fs) short =
    let cons : sum_by length (f ∷ fs) ≡ length f + sum_by length fs = sum_by-cons length f fs in
    let first : length f ≤ 1518 = All-head (λ (g : List ℕ). length g ≤ 1518) f fs short in
    let others : sum_by length fs ≤ 1518 * length fs = sum_short fs (All-tail (λ (g : List ℕ). length g ≤ 1518) f fs short) in
    omega (arith, cons, first, others)

pub fits_bytes : (frames : List (List ℕ)) → Fits frames 1518 → sum_by length frames ≤ 8 * 1518
fits_bytes frames fits = omega (arith, fits.few, sum_short frames fits.short)

-- a span has as many frames as it says
pub span_count : (frames : List (List ℕ)) (span : FrameSpan) → SpanWithin frames span → length (frames_at frames span) ≡ span.count
span_count frames span within =
    let taken : length (frames_at frames span) ≡ min span.count (length (drop span.first frames)) = length-take span.count (drop span.first frames) in
    let left : length (drop span.first frames) ≡ length frames - span.first = length-drop span.first frames in
    omega (arith, taken, left, within)

-- what a ledger has after a list was issued, and after frames went onto the wire
pub ledger_issued : (l k : LedgerView) (net net' : Net) (label : Label) (frames : List (List ℕ)) (many : ℕ) → l.net ≡ bare net → k ≡ with_net l (with_issued label.owner many l.net) → length frames ≡ many
    → net' ≡ after net (issue_row label frames) → k.net ≡ bare net'
ledger_issued l k net net' label frames many before now count e =
    ap (λ v. v.net) now
    ∙ ap (with_issued label.owner many) before
    ∙ ap (λ n. with_issued label.owner n (bare net)) (sym count)
    ∙ sym (ap bare e)

pub ledger_wired : (l k : LedgerView) (net net' : Net) (list : ListNo) (frames : List (List ℕ)) (many : ℕ) → l.net ≡ bare net → k ≡ with_net l (with_wired many l.net) → length frames ≡ many
    → net' ≡ after net (row.Wire list frames) → k.net ≡ bare net'
ledger_wired l k net net' list frames many before now count e =
    ap (λ v. v.net) now
    ∙ ap (with_wired many) before
    ∙ ap (λ n. with_wired n (bare net)) (sym count)
    ∙ sym (ap bare e)

-- and after a row that a ledger notes as it is
pub ledger_noted : (l k : LedgerView) (net net' : Net) (r : Row) → l.net ≡ bare net → k ≡ noted l r → net' ≡ after net r → k.net ≡ bare net'
ledger_noted l k net net' r before now e =
    ap (λ v. v.net) now
    ∙ ap (λ n. bare (after n r)) before
    ∙ sym (bare_after net r)
    ∙ sym (ap bare e)

-- and after a status
pub ledger_status : (l k : LedgerView) (net net' : Net) (number : StatusNo) (name : StatusName) (to : Target) → l.net ≡ bare net → k ≡ with_net l (with_status number.0 l.net)
    → net' ≡ after net (row.Status number name to) → k.net ≡ bare net'
ledger_status l k net net' number name to before now e =
    ap (λ v. v.net) now
    ∙ ap (with_status number.0) before
    ∙ sym (ap bare e)

-- and after a request that is issued, or is done
pub ledger_asked : (l k : LedgerView) (net net' : Net) (r : Row) → l.net ≡ bare net → k ≡ asked l r → net' ≡ after net r → k.net ≡ bare net'
ledger_asked l k net net' r before now e =
    ap (λ v. v.net) now
    ∙ ap (λ n. bare (after n r)) before
    ∙ sym (bare_after net r)
    ∙ sym (ap bare e)

pub ledger_done : (l k : LedgerView) (net net' : Net) (request : OidNo) (status : OidStatus) (value : List ℕ) → l.net ≡ bare net → k ≡ with_net l (with_done request status l.net)
    → net' ≡ after net (row.OidDone request status value) → k.net ≡ bare net'
ledger_done l k net net' request status value before now e =
    ap (λ v. v.net) now
    ∙ ap (with_done request status) before
    ∙ sym (ap bare e)

-- a ledger has room for as many requests as before, or for one less
pub asks_same : (l k : LedgerView) (net : Net) (slack : ℕ) → k ≡ with_net l net → slack ≤ l.spare → slack ≤ k.spare
asks_same l k net slack e h = rw e h

pub asks_less : (l k : LedgerView) (r : Row) (slack : ℕ) → k ≡ asked l r → slack ≤ l.spare → slack - 1 ≤ k.spare
asks_less l k r slack e h =
    let left : k.spare ≡ l.spare - 1 = ap (λ v. v.spare) e in
    omega (arith, h, left)

-- the tray with a request that was issued
pub shown_asked : (j k : FlatView) (t : Option Telling) (queue : List Carried) (slack : ℕ) (caller : ModuleId) (pool : PoolView) (r : Row) → k ≡ row_more j r
    → shown_of k t queue (slack - 1) caller pool ≡ request_issued (shown_of j t queue slack caller pool) r
shown_asked j k t queue slack caller pool r e = shown_written j k t queue (slack - 1) caller pool r e
