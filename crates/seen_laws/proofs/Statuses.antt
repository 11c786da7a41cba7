-- The statuses on their way, after each row.
use Rattle.std.proofs.Common.{◌≡◌, ℕ, ◌+◌, ◌≤◌, ◌==◌, ◌||◌, Bool, true, false, not, cond, List, [], ◌∷◌, ◌++◌, Option, Some, None, count_by, find, filter, refl, arith, ap, sym, subst, ◌∙◌}
use Rattle.std.specs.List.{list_any}
use Rattle.std.specs.Option.{option_or}
use Rattle.std.proofs.lemmas.Bool.Decides.{nat_tests}
use Rattle.std.proofs.lemmas.List.Folds.{find-append}
use Rattle.ndis_base.specs.declared.ModuleId.{ModuleId}
use Rattle.ndis_base.specs.declared.ModuleId.TheVariants.{Binding}
use Rattle.ndis_base.specs.declared.ModuleState.{ModuleState}
use Rattle.ndis_base.specs.declared.OidNo.{OidNo}
use Rattle.ndis_base.specs.declared.OidStatus.{OidStatus}
use Rattle.ndis_base.specs.declared.StatusName.{StatusName}
use Rattle.ndis_base.specs.declared.StatusNo.{StatusNo}
use Rattle.journal_types.specs.declared.Event.{Event}
use Rattle.journal_types.specs.declared.Event.TheVariants as event
use Rattle.journal_types.specs.declared.OutWay.TheVariants as out
use Rattle.journal_types.specs.declared.PassWay.{PassWay}
use Rattle.journal_types.specs.declared.PhaseOf.TheVariants as of
use Rattle.journal_types.specs.declared.Reply.{Reply}
use Rattle.journal_types.specs.declared.Reply.TheVariants as reply
use Rattle.journal_types.specs.declared.Row.{Row}
use Rattle.journal_types.specs.declared.Row.TheVariants as row
use Rattle.journal_types.specs.declared.Target.{Target}
use Rattle.journal_types.specs.declared.Turn.{Turn}
use Rattle.stack_rules.specs.declared.LiveList.{LiveList}
use Rattle.stack_rules.specs.declared.Request.{Request}
use Rattle.stack_rules.specs.declared.StatusAway.{StatusAway}
use Rattle.stack_rules.specs.declared.Thing.{Thing}
use Rattle.stack_rules.specs.declared.Thing.TheVariants as thing
use Rattle.stack_rules.specs.Net.{Net, told, after, after_rows, after_turn, is_status, lists, list_of, without, without_status, after_change, at_end, after_keep, as_kept, after_pass, as_passed, is_answer_to, after_answer, things_after_done, request_of, had_by, taken_by, number_past}
use Rattle.stack_rules.specs.Places.{is_away, is_passed}
use Rattle.stack_rules.specs.Pauses.{is_status_thing}
use Rattle.stack_rules.specs.Statuses.{seen_by_all}
use Rattle.rule_basics.proofs.Counts.{count_by-cons}
use Rattle.seen_laws.proofs.Mutes.{is_mute, AreMute}

-- the statuses among the things
abbrev pub statuses : List Thing → List StatusAway
statuses [] = []
statuses (thing.Status s ∷ ts) = s ∷ statuses ts
statuses (thing.List l ∷ ts) = statuses ts
statuses (thing.Answer a ∷ ts) = statuses ts

abbrev pub is_numbered : ℕ → StatusAway → Bool
is_numbered n s = s.number.0 == n

-- the status of a number
abbrev pub status_in : ℕ → List StatusAway → Option StatusAway
status_in n ss = find (is_numbered n) ss

abbrev pub status_of : ℕ → Net → Option StatusAway
status_of n net = status_in n (statuses net.things)

-- all but those of a number
abbrev but : ℕ → List StatusAway → List StatusAway
but n ss = filter (λ s. not (s.number.0 == n)) ss

statuses-append : (ts us : List Thing) → statuses (ts ++ us) ≡ statuses ts ++ statuses us
statuses-append [] us = refl
statuses-append (thing.Status s ∷ ts) us = ap (λ ss. s ∷ ss) (statuses-append ts us)
statuses-append (thing.List l ∷ ts) us = statuses-append ts us
statuses-append (thing.Answer a ∷ ts) us = statuses-append ts us

nil_end : (ss : List StatusAway) → ss ++ [] ≡ ss
nil_end [] = refl
nil_end (s ∷ ss) = ap (λ rest. s ∷ rest) (nil_end ss)

-- one more thing that is no status
statuses-push : (ts : List Thing) (t : Thing) → statuses (t ∷ []) ≡ [] → statuses (ts ++ t ∷ []) ≡ statuses ts
statuses-push ts t e = statuses-append ts (t ∷ []) ∙ ap (λ rest. statuses ts ++ rest) e ∙ nil_end (statuses ts)

-- lists and answers that go
statuses-without : (n : ℕ) (ts : List Thing) → statuses (without n ts) ≡ statuses ts
statuses-without n [] = refl
statuses-without n (thing.Status s ∷ ts) = ap (λ ss. s ∷ ss) (statuses-without n ts)
statuses-without n (thing.List l ∷ ts) =
    elim (l.list.0 == n) as (λ b. statuses (cond (not b) (thing.List l ∷ without n ts) (without n ts)) ≡ statuses ts) [
      | true ↦ statuses-without n ts
      | false ↦ statuses-without n ts
    ]
statuses-without n (thing.Answer a ∷ ts) = statuses-without n ts

abbrev unanswered : ℕ → List Thing → List Thing
unanswered n ts = filter (λ t. not (is_answer_to n t)) ts

statuses-unanswered : (n : ℕ) (ts : List Thing) → statuses (unanswered n ts) ≡ statuses ts
statuses-unanswered n [] = refl
statuses-unanswered n (thing.Status s ∷ ts) = ap (λ ss. s ∷ ss) (statuses-unanswered n ts)
statuses-unanswered n (thing.List l ∷ ts) = statuses-unanswered n ts
statuses-unanswered n (thing.Answer a ∷ ts) =
    elim (a.parent.0 == n) as (λ b. statuses (cond (not b) (thing.Answer a ∷ unanswered n ts) (unanswered n ts)) ≡ statuses ts) [
      | true ↦ statuses-unanswered n ts
      | false ↦ statuses-unanswered n ts
    ]

statuses-changed : (n : ℕ) (f : LiveList → LiveList) (ts : List Thing) → statuses (after_change n f ts) ≡ statuses ts
statuses-changed n f [] = refl
statuses-changed n f (thing.Status s ∷ ts) = ap (λ ss. s ∷ ss) (statuses-changed n f ts)
statuses-changed n f (thing.List l ∷ ts) =
    elim (l.list.0 == n) as (λ b. statuses (cond b (thing.List (f l)) (thing.List l) ∷ after_change n f ts) ≡ statuses ts) [
      | true ↦ statuses-changed n f ts
      | false ↦ statuses-changed n f ts
    ]
statuses-changed n f (thing.Answer a ∷ ts) = statuses-changed n f ts

statuses-at_end : (ts : List Thing) (o : Option LiveList) → statuses (at_end ts o) ≡ statuses ts
statuses-at_end ts None = refl
statuses-at_end ts (Some l) = statuses-push ts (thing.List l) refl

statuses-kept : (n : ℕ) (m : ModuleId) (ts : List Thing) → statuses (after_keep n m ts) ≡ statuses ts
statuses-kept n m ts = statuses-at_end (without n ts) (as_kept m (list_of n (lists ts))) ∙ statuses-without n ts

statuses-passed : (n : ℕ) (way : PassWay) (to : Target) (ts : List Thing) → statuses (after_pass n way to ts) ≡ statuses ts
statuses-passed n way to ts = statuses-at_end (without n ts) (as_passed way to (list_of n (lists ts))) ∙ statuses-without n ts

statuses-answer : (parent : Option OidNo) (request : OidNo) (status : OidStatus) (value : List ℕ) (ts : List Thing) → statuses (after_answer parent request status value ts) ≡ statuses ts
statuses-answer None request status value ts = refl
statuses-answer (Some parent) request status value ts = statuses-push ts (thing.Answer (record { request = request; parent = parent; status = status; value = value })) refl

statuses-done : (o : Option Request) (request : OidNo) (status : OidStatus) (value : List ℕ) (ts : List Thing) → statuses (things_after_done o request status value ts) ≡ statuses ts
statuses-done None request status value ts = refl
statuses-done (Some r) request status value ts =
    statuses-answer r.parent request status value (unanswered request.0 ts) ∙ statuses-unanswered request.0 ts

-- statuses that go
statuses-without_status : (n : ℕ) (ts : List Thing) → statuses (without_status n ts) ≡ but n (statuses ts)
statuses-without_status n [] = refl
statuses-without_status n (thing.Status s ∷ ts) =
    elim (s.number.0 == n) as (λ b. statuses (cond (not b) (thing.Status s ∷ without_status n ts) (without_status n ts)) ≡ cond (not b) (s ∷ but n (statuses ts)) (but n (statuses ts))) [
      | true ↦ statuses-without_status n ts
      | false ↦ ap (λ ss. s ∷ ss) (statuses-without_status n ts)
    ]
statuses-without_status n (thing.List l ∷ ts) = statuses-without_status n ts
statuses-without_status n (thing.Answer a ∷ ts) = statuses-without_status n ts

-- rows that tell nothing of statuses
mute_row : (net : Net) (r : Row) → is_mute r ≡ true → statuses (after net r).things ≡ statuses net.things
mute_row net (row.Issue list owner config direction cancel origin frames) q = statuses-push net.things _ refl
mute_row net (row.Give list m handler) q = statuses-changed list.0 (had_by m) net.things
mute_row net (row.Pass list way to) q = statuses-passed list.0 way to net.things
mute_row net (row.Keep list m) q = statuses-kept list.0 m net.things
mute_row net (row.TurnBack list m status) q = statuses-changed list.0 (had_by m) net.things
mute_row net (row.Home list owner status) q = statuses-without list.0 net.things
mute_row net (row.Wire list frames) q = refl
mute_row net (row.Deliver list binding how frames) q = refl
mute_row net (row.Phase (of.Module m s)) q = refl
mute_row net (row.Phase (of.Stack p)) q = refl
mute_row net (row.Config config filters) q = refl
mute_row net (row.OidIssue request parent binding kind code value) q = refl
mute_row net (row.OidGive request m) q = refl
mute_row net (row.OidDone request status value) q = statuses-done (request_of request.0 net.requests) request status value net.things
mute_row net (row.Status number name to) q = cc
mute_row net (row.Seen number m) q = cc
mute_row net (row.CrossOut message (out.Down list) frames) q = statuses-changed list.0 (taken_by message.0) net.things
mute_row net (row.CrossOut message out.Up frames) q = refl
mute_row net (row.CrossIn stack message way frames) q = refl

pub mute_rows : (net : Net) (rows : List Row) → AreMute rows → statuses (after_rows net rows).things ≡ statuses net.things
mute_rows net [] q = refl
mute_rows net (r ∷ rows) q = mute_rows (after net r) rows q.1 ∙ mute_row net r q.0

-- what an event tells beside its rows is nothing of statuses
pub told_statuses : (net : Net) (e : Event) (r : Reply) → statuses (told net e r).things ≡ statuses net.things
told_statuses net (event.Insert kind position setup) (reply.Inserted f) = refl
told_statuses net (event.Replace old kind setup) (reply.Replaced f) = refl
told_statuses net (event.CrossTakeUp binding vlan) (reply.Taken message frames) = refl
told_statuses net e r = refl

-- the status of a number, without those of the same number and without those of another
none_left : (n : ℕ) (ss : List StatusAway) → status_in n (but n ss) ≡ None
none_left n [] = refl
none_left n (s ∷ ss) =
    let cases : (b : Bool) → (s.number.0 == n) ≡ b → status_in n (cond (not b) (s ∷ but n ss) (but n ss)) ≡ None = elim [
      | true ↦ λ t. none_left n ss
      | false ↦ λ t. ap (λ b. cond b (Some s) (status_in n (but n ss))) t ∙ none_left n ss
    ] in
    cases (s.number.0 == n) refl

other_left : (n k : ℕ) (ss : List StatusAway) → (k == n) ≡ false → status_in n (but k ss) ≡ status_in n ss
other_left n k [] o = refl
other_left n k (s ∷ ss) o =
    let cases : (b : Bool) → (s.number.0 == k) ≡ b → status_in n (cond (not b) (s ∷ but k ss) (but k ss)) ≡ cond (s.number.0 == n) (Some s) (status_in n ss) = elim [
      | true ↦ λ t. other_left n k ss o ∙ sym (ap (λ b. cond b (Some s) (status_in n ss)) (differ s.number.0 t))
      | false ↦ λ t. ap (λ found. cond (s.number.0 == n) (Some s) found) (other_left n k ss o)
    ] in
    cases (s.number.0 == k) refl
  where
    differ : (i : ℕ) → (i == k) ≡ true → (i == n) ≡ false
    differ i t = grind (arith, nat_tests)

pub is_equal : (n m : ℕ) → (n == m) ≡ true → n ≡ m
is_equal n m t = grind (arith, nat_tests)

pub itself : (n : ℕ) → (n == n) ≡ true
itself n = grind (arith, nat_tests)

-- a Seen row takes the status of its number away, and leaves the others
seen_takes : (n : ℕ) (net : Net) (number : StatusNo) (m : ModuleId) → (number.0 == n) ≡ true → status_of n (after net (row.Seen number m)) ≡ None
seen_takes n net number m t =
    ap (status_in n) (statuses-without_status number.0 net.things)
    ∙ ap (λ k. status_in n (but k (statuses net.things))) (is_equal number.0 n t)
    ∙ none_left n (statuses net.things)

pub seen_leaves : (n : ℕ) (net : Net) (number : StatusNo) (m : ModuleId) → (number.0 == n) ≡ false → status_of n (after net (row.Seen number m)) ≡ status_of n net
seen_leaves n net number m f = ap (status_in n) (statuses-without_status number.0 net.things) ∙ other_left n number.0 (statuses net.things) f

-- a Status row sends a status on its way, and leaves the others
abbrev pub sent : StatusNo → StatusName → Target → StatusAway
sent number name to = record { number = number; name = name; to = to }

sends : (n : ℕ) (net : Net) (number : StatusNo) (name : StatusName) (to : Target) → status_of n (after net (row.Status number name to)) ≡ option_or (status_in n (but number.0 (statuses net.things))) (cond (number.0 == n) (Some (sent number name to)) None)
sends n net number name to =
    ap (status_in n) (statuses-append (without_status number.0 net.things) (thing.Status (sent number name to) ∷ []))
    ∙ find-append (is_numbered n) (statuses (without_status number.0 net.things)) (sent number name to ∷ [])
    ∙ ap (λ ss. option_or (status_in n ss) (cond (number.0 == n) (Some (sent number name to)) None)) (statuses-without_status number.0 net.things)

pub status_sends : (n : ℕ) (net : Net) (number : StatusNo) (name : StatusName) (to : Target) → (number.0 == n) ≡ true → status_of n (after net (row.Status number name to)) ≡ Some (sent number name to)
status_sends n net number name to t =
    sends n net number name to
    ∙ ap (λ k. option_or (status_in n (but k (statuses net.things))) (cond (number.0 == n) (Some (sent number name to)) None)) (is_equal number.0 n t)
    ∙ ap (λ found. option_or found (cond (number.0 == n) (Some (sent number name to)) None)) (none_left n (statuses net.things))
    ∙ ap (λ b. cond b (Some (sent number name to)) None) t

pub status_leaves : (n : ℕ) (net : Net) (number : StatusNo) (name : StatusName) (to : Target) → (number.0 == n) ≡ false → status_of n (after net (row.Status number name to)) ≡ status_of n net
status_leaves n net number name to f =
    sends n net number name to
    ∙ ap (λ b. option_or (status_in n (but number.0 (statuses net.things))) (cond b (Some (sent number name to)) None)) f
    ∙ ap (λ found. option_or found None) (other_left n number.0 (statuses net.things) f)
    ∙ or_none (status_of n net)
  where
    or_none : (o : Option StatusAway) → option_or o None ≡ o
    or_none None = refl
    or_none (Some s) = refl

-- all bindings see a status
pub all_leave : (n : ℕ) (net : Net) (number : StatusNo) (b : ℕ) (ss : List ModuleState) → (number.0 == n) ≡ false → status_of n (after_rows net (seen_by_all number b ss)) ≡ status_of n net
all_leave n net number b [] f = refl
all_leave n net number b (s ∷ ss) f =
    all_leave n (after net (row.Seen number (Binding b))) number (b + 1) ss f ∙ seen_leaves n net number (Binding b) f

stays_gone : (n : ℕ) (net : Net) (number : StatusNo) (b : ℕ) (ss : List ModuleState) → (number.0 == n) ≡ true → status_of n net ≡ None → status_of n (after_rows net (seen_by_all number b ss)) ≡ None
stays_gone n net number b [] t e = e
stays_gone n net number b (s ∷ ss) t e = stays_gone n (after net (row.Seen number (Binding b))) number (b + 1) ss t (seen_takes n net number (Binding b) t)

pub all_take : (n : ℕ) (net : Net) (number : StatusNo) (b : ℕ) (s : ModuleState) (ss : List ModuleState) → (number.0 == n) ≡ true → status_of n (after_rows net (seen_by_all number b (s ∷ ss))) ≡ None
all_take n net number b s ss t = stays_gone n (after net (row.Seen number (Binding b))) number (b + 1) ss t (seen_takes n net number (Binding b) t)

-- a status that is the first thing on its way is the one of its number
pub first_status : (ts : List Thing) (s : StatusAway) → find is_away ts ≡ Some (thing.Status s) → status_in s.number.0 (statuses ts) ≡ Some s
first_status [] s e = cc
first_status (thing.Status x ∷ ts) s e =
    let same : x ≡ s = cc in
    subst (λ (y : StatusAway). cond (y.number.0 == s.number.0) (Some y) (status_in s.number.0 (statuses ts)) ≡ Some s) (sym same)
    (ap (λ b. cond b (Some s) (status_in s.number.0 (statuses ts))) (itself s.number.0))
first_status (thing.Answer a ∷ ts) s e = cc
first_status (thing.List l ∷ ts) s e = by (is_passed l.stand) (λ later. first_status ts s later) e
  where
    by : (b : Bool) → (find is_away ts ≡ Some (thing.Status s) → status_in s.number.0 (statuses ts) ≡ Some s) → cond b (Some (thing.List l)) (find is_away ts) ≡ Some (thing.Status s) → status_in s.number.0 (statuses ts) ≡ Some s
    by true rest e = cc
    by false rest e = rest e

-- where none of the number is on its way, none is found
pub none_found : (n : ℕ) (ts : List Thing) → list_any (is_status n) ts ≡ false → status_in n (statuses ts) ≡ None
none_found n [] e = refl
none_found n (thing.List l ∷ ts) e = none_found n ts e
none_found n (thing.Answer a ∷ ts) e = none_found n ts e
none_found n (thing.Status s ∷ ts) e = by (s.number.0 == n) (λ later. none_found n ts later) e
  where
    by : (b : Bool) → (list_any (is_status n) ts ≡ false → status_in n (statuses ts) ≡ None) → (b || list_any (is_status n) ts) ≡ false → cond b (Some s) (status_in n (statuses ts)) ≡ None
    by true rest e = cc
    by false rest e = rest e

-- where there is none on its way there is none of any number
pub none_at_all : (ts : List Thing) → count_by is_status_thing ts ≡ 0 → statuses ts ≡ []
none_at_all [] e = refl
none_at_all (thing.Status s ∷ ts) e = let whole = count_by-cons is_status_thing (thing.Status s) ts in absurd (omega (arith, whole, e))
none_at_all (thing.List l ∷ ts) e = let whole = count_by-cons is_status_thing (thing.List l) ts in none_at_all ts (omega (arith, whole, e))
none_at_all (thing.Answer a ∷ ts) e = let whole = count_by-cons is_status_thing (thing.Answer a) ts in none_at_all ts (omega (arith, whole, e))

-- the next number never falls
past_most : (next n : ℕ) → next ≤ number_past next n
past_most next n = elim (n == next) as (λ b. next ≤ cond b (next + 1) next) [ true ↦ omega arith | false ↦ omega arith ]

row_grows : (net : Net) (r : Row) → net.next.status ≤ (after net r).next.status
row_grows net (row.Status number name to) = past_most net.next.status number.0
row_grows net (row.Phase (of.Module m s)) = omega arith
row_grows net (row.Phase (of.Stack p)) = omega arith
row_grows net _ = omega arith

rows_grow : (net : Net) (rows : List Row) → net.next.status ≤ (after_rows net rows).next.status
rows_grow net [] = omega arith
rows_grow net (r ∷ rows) = let one = row_grows net r in let rest = rows_grow (after net r) rows in omega (arith, one, rest)

told_number : (net : Net) (e : Event) (r : Reply) → (told net e r).next.status ≡ net.next.status
told_number net (event.Insert kind position setup) (reply.Inserted f) = refl
told_number net (event.Replace old kind setup) (reply.Replaced f) = refl
told_number net (event.CrossTakeUp binding vlan) (reply.Taken message frames) = refl
told_number net e r = refl

pub turn_grows : (net : Net) (turn : Turn) → net.next.status ≤ (after_turn net turn).next.status
turn_grows net turn =
    let same = told_number net turn.event turn.reply in
    let rest = rows_grow (told net turn.event turn.reply) turn.rows in
    omega (arith, same, rest)
