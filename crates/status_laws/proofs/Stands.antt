-- Each status on its way was sent there by a row.
use Rattle.std.proofs.Common.{◌≡◌, List, [], ◌∷◌, ◌++◌, count_by, refl, ap, sym, subst, append_assoc}
use Rattle.std.specs.List.{Contains}
use Rattle.std.proofs.lemmas.List.Elements.{Contains-append_left, Contains-push}
use Rattle.journal_types.specs.declared.Event.{Event}
use Rattle.journal_types.specs.declared.Event.TheVariants as event
use Rattle.journal_types.specs.declared.Reply.{Reply}
use Rattle.journal_types.specs.declared.Reply.TheVariants as reply
use Rattle.journal_types.specs.declared.Row.{Row}
use Rattle.journal_types.specs.declared.Row.TheVariants as row
use Rattle.journal_types.specs.declared.Turn.{Turn}
use Rattle.stack_rules.specs.declared.Thing.{Thing}
use Rattle.stack_rules.specs.Net.{Net, start, told, after, after_rows, after_turn, after_turns}
use Rattle.stack_rules.specs.Pauses.{is_status_thing}
use Rattle.home_laws.specs.Rows.{rows_of}
use Rattle.place_laws.specs.Kept.{EachStatus}
use Rattle.work_laws.proofs.Halted.{nothing_while_halted}
use Rattle.status_laws.specs.Standing.{status_row, EachStatusStands}
use Rattle.status_laws.proofs.Things.{each-implies, IsOfRow, each-after}

-- the rows have sent each status on its way
abbrev AreSent : List Row → List Thing → Type 0
AreSent rows ts = EachStatus (λ s. Contains rows (status_row s)) ts

sent_more : (past rows : List Row) (ts : List Thing) → AreSent past ts → AreSent (past ++ rows) ts
sent_more past rows ts h = each-implies (λ s. Contains past (status_row s)) (λ s. Contains (past ++ rows) (status_row s)) (λ s k. Contains-append_left past rows (status_row s) k) ts h

-- the row itself sends its status
sent_by : (rows : List Row) (r : Row) → Contains rows r → IsOfRow (λ s. Contains rows (status_row s)) r
sent_by rows (row.Status number name to) here = here
sent_by rows _ here = tt

sent_after : (rows : List Row) (net : Net) (r : Row) → Contains rows r → AreSent rows net.things → AreSent rows (after net r).things
sent_after rows net r here h = each-after (λ s. Contains rows (status_row s)) net r (sent_by rows r here) h

nil_end : (xs : List Row) → xs ++ [] ≡ xs
nil_end [] = refl
nil_end (x ∷ xs) = ap (λ rest. x ∷ rest) (nil_end xs)

sent_rows : (past : List Row) (net : Net) (rows : List Row) → AreSent past net.things → AreSent (past ++ rows) (after_rows net rows).things
sent_rows past net [] h = sent_more past [] net.things h
sent_rows past net (r ∷ rows) h =
    subst (λ all. AreSent all (after_rows (after net r) rows).things) (append_assoc past (r ∷ []) rows)
    (sent_rows (past ++ r ∷ []) (after net r) rows (sent_after (past ++ r ∷ []) net r (Contains-push past r) (sent_more past (r ∷ []) net.things h)))

-- what an event tells changes no thing
pub told_things : (net : Net) (e : Event) (r : Reply) → (told net e r).things ≡ net.things
told_things net (event.Insert kind position setup) (reply.Inserted f) = refl
told_things net (event.Replace old kind setup) (reply.Replaced f) = refl
told_things net (event.CrossTakeUp binding vlan) (reply.Taken message frames) = refl
told_things net e r = refl

sent_turns : (past : List Row) (net : Net) (turns : List Turn) → AreSent past net.things → AreSent (past ++ rows_of turns) (after_turns net turns).things
sent_turns past net [] h = subst (λ rows. AreSent rows net.things) (sym (nil_end past)) h
sent_turns past net (turn ∷ turns) h =
    let now : Net = told net turn.event turn.reply in
    subst (λ all. AreSent all (after_turns (after_turn net turn) turns).things) (append_assoc past turn.rows (rows_of turns))
    (sent_turns (past ++ turn.rows) (after_turn net turn) turns (sent_rows past now turn.rows (subst (AreSent past) (sym (told_things net turn.event turn.reply)) h)))

pub each_status_stands : EachStatusStands
each_status_stands head turns sound = record {
  sent = sent_turns [] (start head) turns tt;
  halted = λ e. ap (count_by is_status_thing) (nothing_while_halted head turns sound e).things;
}
