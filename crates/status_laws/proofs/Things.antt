-- What holds of each status still does after each change of the list of things.
use Rattle.std.proofs.Common.{ℕ, ◌==◌, not, Bool, true, false, cond, List, [], ◌∷◌, ◌++◌, Option, Some, None, filter}
use Rattle.ndis_base.specs.declared.ModuleId.{ModuleId}
use Rattle.ndis_base.specs.declared.OidNo.{OidNo}
use Rattle.ndis_base.specs.declared.OidStatus.{OidStatus}
use Rattle.journal_types.specs.declared.OutWay.TheVariants as out
use Rattle.journal_types.specs.declared.PassWay.{PassWay}
use Rattle.journal_types.specs.declared.PhaseOf.TheVariants as of
use Rattle.journal_types.specs.declared.Row.{Row}
use Rattle.journal_types.specs.declared.Row.TheVariants as row
use Rattle.journal_types.specs.declared.Target.{Target}
use Rattle.stack_rules.specs.declared.LiveList.{LiveList}
use Rattle.stack_rules.specs.declared.Request.{Request}
use Rattle.stack_rules.specs.declared.StatusAway.{StatusAway}
use Rattle.stack_rules.specs.declared.Thing.{Thing}
use Rattle.stack_rules.specs.declared.Thing.TheVariants as thing
use Rattle.stack_rules.specs.Net.{Net, after, after_rows, lists, list_of, is_list, is_status, without, after_change, at_end, after_keep, as_kept, after_pass, as_passed, is_answer_to, after_answer, things_after_done, had_by, taken_by, request_of, without_status}
use Rattle.place_laws.specs.Kept.{EachStatus}

pub each-implies : (P Q : StatusAway → Type 0) → ((s : StatusAway) → P s → Q s) → (ts : List Thing) → EachStatus P ts → EachStatus Q ts
each-implies P Q f [] h = tt
each-implies P Q f (thing.Status s ∷ ts) h = (f s h.0, each-implies P Q f ts h.1)
each-implies P Q f (thing.List l ∷ ts) h = each-implies P Q f ts h
each-implies P Q f (thing.Answer a ∷ ts) h = each-implies P Q f ts h

module _ (P : StatusAway → Type 0) where
  pub each-filter : (test : Thing → Bool) (ts : List Thing) → EachStatus P ts → EachStatus P (filter test ts)
  each-filter test [] h = tt
  each-filter test (thing.Status s ∷ ts) h =
      elim (test (thing.Status s)) as (λ b. EachStatus P (cond b (thing.Status s ∷ filter test ts) (filter test ts))) [ true ↦ (h.0, each-filter test ts h.1) | false ↦ each-filter test ts h.1 ]
  each-filter test (thing.List l ∷ ts) h =
      elim (test (thing.List l)) as (λ b. EachStatus P (cond b (thing.List l ∷ filter test ts) (filter test ts))) [ true ↦ each-filter test ts h | false ↦ each-filter test ts h ]
  each-filter test (thing.Answer a ∷ ts) h =
      elim (test (thing.Answer a)) as (λ b. EachStatus P (cond b (thing.Answer a ∷ filter test ts) (filter test ts))) [ true ↦ each-filter test ts h | false ↦ each-filter test ts h ]

  pub each-append : (ts us : List Thing) → EachStatus P ts → EachStatus P us → EachStatus P (ts ++ us)
  each-append [] us h k = k
  each-append (thing.Status s ∷ ts) us h k = (h.0, each-append ts us h.1 k)
  each-append (thing.List l ∷ ts) us h k = each-append ts us h k
  each-append (thing.Answer a ∷ ts) us h k = each-append ts us h k

  pub each-changed : (n : ℕ) (f : LiveList → LiveList) (ts : List Thing) → EachStatus P ts → EachStatus P (after_change n f ts)
  each-changed n f [] h = tt
  each-changed n f (thing.Status s ∷ ts) h = (h.0, each-changed n f ts h.1)
  each-changed n f (thing.List l ∷ ts) h =
      elim (l.list.0 == n) as (λ b. EachStatus P (cond b (thing.List (f l)) (thing.List l) ∷ after_change n f ts)) [ true ↦ each-changed n f ts h | false ↦ each-changed n f ts h ]
  each-changed n f (thing.Answer a ∷ ts) h = each-changed n f ts h

  each-at_end : (ts : List Thing) (o : Option LiveList) → EachStatus P ts → EachStatus P (at_end ts o)
  each-at_end ts None h = h
  each-at_end ts (Some l) h = each-append ts (thing.List l ∷ []) h tt

  pub each-kept : (n : ℕ) (m : ModuleId) (ts : List Thing) → EachStatus P ts → EachStatus P (after_keep n m ts)
  each-kept n m ts h = each-at_end (without n ts) (as_kept m (list_of n (lists ts))) (each-filter (λ t. not (is_list n t)) ts h)

  pub each-passed : (n : ℕ) (way : PassWay) (to : Target) (ts : List Thing) → EachStatus P ts → EachStatus P (after_pass n way to ts)
  each-passed n way to ts h = each-at_end (without n ts) (as_passed way to (list_of n (lists ts))) (each-filter (λ t. not (is_list n t)) ts h)

  each-answer : (parent : Option OidNo) (request : OidNo) (status : OidStatus) (value : List ℕ) (ts : List Thing) → EachStatus P ts → EachStatus P (after_answer parent request status value ts)
  each-answer None request status value ts h = h
  each-answer (Some parent) request status value ts h = each-append ts (thing.Answer (record { request = request; parent = parent; status = status; value = value }) ∷ []) h tt

  pub each-done : (o : Option Request) (request : OidNo) (status : OidStatus) (value : List ℕ) (ts : List Thing) → EachStatus P ts → EachStatus P (things_after_done o request status value ts)
  each-done None request status value ts h = h
  each-done (Some r) request status value ts h = each-answer r.parent request status value (filter (λ t. not (is_answer_to request.0 t)) ts) (each-filter (λ t. not (is_answer_to request.0 t)) ts h)

  -- the status that a row sends is so
  abbrev pub IsOfRow : Row → Type 0
  IsOfRow (row.Status number name to) = P (record { number = number; name = name; to = to })
  IsOfRow _ = Unit {0}

  abbrev pub AreOfRows : List Row → Type 0
  AreOfRows [] = Unit {0}
  AreOfRows (r ∷ rows) = IsOfRow r × AreOfRows rows

  pub of-append : (xs ys : List Row) → AreOfRows xs → AreOfRows ys → AreOfRows (xs ++ ys)
  of-append [] ys h k = k
  of-append (x ∷ xs) ys h k = (h.0, of-append xs ys h.1 k)

  -- after a row
  pub each-after : (net : Net) (r : Row) → IsOfRow r → EachStatus P net.things → EachStatus P (after net r).things
  each-after net (row.Issue list owner config direction cancel origin frames) i h = each-append net.things _ h tt
  each-after net (row.Give list m handler) i h = each-changed list.0 (had_by m) net.things h
  each-after net (row.Pass list way to) i h = each-passed list.0 way to net.things h
  each-after net (row.Keep list m) i h = each-kept list.0 m net.things h
  each-after net (row.TurnBack list m status) i h = each-changed list.0 (had_by m) net.things h
  each-after net (row.Home list owner status) i h = each-filter (λ t. not (is_list list.0 t)) net.things h
  each-after net (row.Wire list frames) i h = h
  each-after net (row.Deliver list binding how frames) i h = h
  each-after net (row.Phase (of.Module m s)) i h = h
  each-after net (row.Phase (of.Stack p)) i h = h
  each-after net (row.Config config filters) i h = h
  each-after net (row.OidIssue request parent binding kind code value) i h = h
  each-after net (row.OidGive request m) i h = h
  each-after net (row.OidDone request status value) i h = each-done (request_of request.0 net.requests) request status value net.things h
  each-after net (row.Status number name to) i h =
      each-append (without_status number.0 net.things) (thing.Status (record { number = number; name = name; to = to }) ∷ []) (each-filter (λ t. not (is_status number.0 t)) net.things h) (i, tt)
  each-after net (row.Seen number m) i h = each-filter (λ t. not (is_status number.0 t)) net.things h
  each-after net (row.CrossOut message (out.Down list) frames) i h = each-changed list.0 (taken_by message.0) net.things h
  each-after net (row.CrossOut message out.Up frames) i h = h
  each-after net (row.CrossIn stack message way frames) i h = h

  -- after rows, one after the other
  pub each-rows : (net : Net) (rows : List Row) → AreOfRows rows → EachStatus P net.things → EachStatus P (after_rows net rows).things
  each-rows net [] i h = h
  each-rows net (r ∷ rows) i h = each-rows (after net r) rows i.1 (each-after net r i.0 h)
