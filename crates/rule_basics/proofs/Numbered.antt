-- The numbers of live lists differ and lie below the next number, as long as each list that is issued takes
-- the next number.
use Rattle.std.proofs.Common.{◌≡◌, ℕ, ◌+◌, ◌<◌, ◌==◌, not, true, false, cond, List, [], ◌∷◌, ◌++◌, Option, Some, None, filter, refl, sym, ap, ◌∙◌, subst, arith}
use Rattle.std.proofs.lemmas.Bool.Decides.{nat_tests}
use Rattle.ndis_base.specs.declared.OidNo.{OidNo}
use Rattle.ndis_base.specs.declared.OidStatus.{OidStatus}
use Rattle.journal_types.specs.declared.PhaseOf.TheVariants as of
use Rattle.journal_types.specs.declared.OutWay.TheVariants as out
use Rattle.journal_types.specs.declared.StackHead.{StackHead}
use Rattle.journal_types.specs.declared.Row.{Row}
use Rattle.journal_types.specs.declared.Row.TheVariants as row
use Rattle.stack_rules.specs.declared.LiveList.{LiveList}
use Rattle.stack_rules.specs.declared.Request.{Request}
use Rattle.stack_rules.specs.declared.Thing.{Thing}
use Rattle.stack_rules.specs.declared.Thing.TheVariants as thing
use Rattle.stack_rules.specs.declared.Stand.TheVariants as stand
use Rattle.stack_rules.specs.Net.{Net, start, after, after_rows, lists, list_of, without_status, is_answer_to, after_answer, things_after_done, request_of, taken_by, had_by, as_kept, as_passed}
use Rattle.rule_basics.specs.Live.{is_live, IsApart, IsBelow, others, retouched, with_last, KeepsNumber}
use Rattle.rule_basics.specs.Numbers.{IsNumbered, IssuesNext, IssueNext}
use Rattle.rule_basics.proofs.Lists.{lists-append, lists-without, lists-changed, lists-kept, lists-passed}
use Rattle.rule_basics.proofs.Apart.{IsApart-append, IsApart-others, IsApart-retouched, IsApart-kept, IsApart-passed}
use Rattle.rule_basics.proofs.Each.{Each-append, Each-others, Each-found, Each-implies, Each-retouched}

-- a number that isn't below is not live
pub below_absent : (n : ℕ) (ls : List LiveList) → IsBelow n ls → is_live n ls ≡ false
below_absent n [] h = refl
below_absent n (l ∷ ls) h =
    let less : l.list.0 < n = h.0 in
    let rest : is_live n ls ≡ false = below_absent n ls h.1 in
    grind (arith, nat_tests)

-- rows of statuses and of answered requests change no list
pub lists-without_status : (n : ℕ) (ts : List Thing) → lists (without_status n ts) ≡ lists ts
lists-without_status n [] = refl
lists-without_status n (thing.List l ∷ ts) = ap (λ ls. l ∷ ls) (lists-without_status n ts)
lists-without_status n (thing.Status s ∷ ts) =
    elim (s.number.0 == n) as (λ b. lists (cond (not b) (thing.Status s ∷ without_status n ts) (without_status n ts)) ≡ lists ts) [
      | true ↦ lists-without_status n ts
      | false ↦ lists-without_status n ts
    ]
lists-without_status n (thing.Answer a ∷ ts) = lists-without_status n ts

nil_end : (ls : List LiveList) → ls ++ [] ≡ ls
nil_end [] = refl
nil_end (l ∷ ls) = ap (λ rest. l ∷ rest) (nil_end ls)

pub lists-status : (n : ℕ) (ts : List Thing) (t : Thing) → lists (t ∷ []) ≡ [] → lists (without_status n ts ++ t ∷ []) ≡ lists ts
lists-status n ts t e =
    lists-append (without_status n ts) (t ∷ []) ∙ ap (λ rest. lists (without_status n ts) ++ rest) e ∙ nil_end (lists (without_status n ts)) ∙ lists-without_status n ts

lists-unanswered : (n : ℕ) (ts : List Thing) → lists (filter (λ t. not (is_answer_to n t)) ts) ≡ lists ts
lists-unanswered n [] = refl
lists-unanswered n (thing.List l ∷ ts) = ap (λ ls. l ∷ ls) (lists-unanswered n ts)
lists-unanswered n (thing.Status s ∷ ts) = lists-unanswered n ts
lists-unanswered n (thing.Answer a ∷ ts) =
    elim (a.parent.0 == n) as (λ b. lists (cond (not b) (thing.Answer a ∷ filter (λ t. not (is_answer_to n t)) ts) (filter (λ t. not (is_answer_to n t)) ts)) ≡ lists ts) [
      | true ↦ lists-unanswered n ts
      | false ↦ lists-unanswered n ts
    ]

lists-answer_to : (parent : Option OidNo) (request : OidNo) (status : OidStatus) (value : List ℕ) (ts : List Thing) → lists (after_answer parent request status value ts) ≡ lists ts
lists-answer_to None request status value ts = refl
lists-answer_to (Some parent) request status value ts =
    lists-append ts (thing.Answer (record { request = request; parent = parent; status = status; value = value }) ∷ []) ∙ nil_end (lists ts)

pub lists-things_done : (o : Option Request) (request : OidNo) (status : OidStatus) (value : List ℕ) (ts : List Thing) → lists (things_after_done o request status value ts) ≡ lists ts
lists-things_done None request status value ts = refl
lists-things_done (Some r) request status value ts =
    lists-answer_to r.parent request status value (filter (λ t. not (is_answer_to request.0 t)) ts) ∙ lists-unanswered request.0 ts

-- the two facts, of any list of live lists
abbrev pub Numbered : ℕ → List LiveList → Type 0
Numbered n ls = IsApart ls × IsBelow n ls

number_below : (n m : ℕ) (ls : List LiveList) (l : LiveList) → IsBelow n ls → list_of m ls ≡ Some l → l.list.0 < n
number_below n m ls l h f = Each-found (λ k. k.list.0 < n) m ls l h f

below_retouched : (n m : ℕ) (f : LiveList → LiveList) → KeepsNumber f → (ls : List LiveList) → Numbered n ls → Numbered n (retouched m f ls)
below_retouched n m f k ls h = (
  IsApart-retouched m f k ls h.0,
  Each-retouched (λ l. l.list.0 < n) m f ls h.0 h.1 (λ l e. let P : ℕ → Type 0 = λ i. i < n in subst P (sym (k l)) (number_below n m ls l h.1 e)),
)

-- a list that is moved to the end by a change that keeps its number
below_moved : (n m : ℕ) (ls : List LiveList) (found : Option LiveList) (change : Option LiveList → Option LiveList) → change None ≡ None → (to : (l : LiveList) → (k : LiveList) × (change (Some l) ≡ Some k) × (k.list.0 ≡ l.list.0)) → list_of m ls ≡ found → IsBelow n ls → IsBelow n (with_last (others m ls) (change found))
below_moved n m ls None change c to h b = rw c (Each-others (λ l. l.list.0 < n) m ls b)
below_moved n m ls (Some l) change c to h b =
    let P : ℕ → Type 0 = λ i. i < n in
    rw (to l).1 (Each-append (λ l. l.list.0 < n) (others m ls) (to l).0 (Each-others (λ l. l.list.0 < n) m ls b) (subst P (sym (to l).2) (number_below n m ls l b h)))

numbered_by : (n : ℕ) (ls ms : List LiveList) → ls ≡ ms → Numbered n ms → Numbered n ls
numbered_by n ls ms e h = subst (Numbered n) (sym e) h

numbered : (net : Net) → IsNumbered net → Numbered net.next.list (lists net.things)
numbered net h = (h.apart, h.below)

is_numbered : (net : Net) → Numbered net.next.list (lists net.things) → IsNumbered net
is_numbered net h = record { apart = h.0; below = h.1 }

-- each row keeps them
pub numbered_after : (net : Net) (r : Row) → IssuesNext net r → IsNumbered net → IsNumbered (after net r)
numbered_after net (row.Issue list owner config direction cancel origin frames) e h =
    is_numbered (after net (row.Issue list owner config direction cancel origin frames)) (numbered_by (net.next.list + 1) _ _ (lists-append net.things _) (issued net.next.list list.0 (lists net.things) _ refl e (numbered net h)))
  where
    issued : (n m : ℕ) (ls : List LiveList) (l : LiveList) → l.list.0 ≡ m → m ≡ n → Numbered n ls → Numbered (n + 1) (ls ++ l ∷ [])
    issued n m ls l i e h =
        let less : IsBelow (n + 1) ls = Each-implies (λ k. k.list.0 < n) (λ k. k.list.0 < n + 1) (λ k b. omega (arith, b)) ls h.1 in
        let here : l.list.0 ≡ n = i ∙ e in
        let free : is_live l.list.0 ls ≡ false = ap (λ k. is_live k ls) here ∙ below_absent n ls h.1 in
        (IsApart-append ls l h.0 free, Each-append (λ k. k.list.0 < n + 1) ls l less (omega (arith, here)))
numbered_after net (row.Give list m handler) e h =
    is_numbered (after net (row.Give list m handler)) (numbered_by net.next.list _ _ (lists-changed list.0 (had_by m) net.things) (below_retouched net.next.list list.0 (had_by m) (λ l. refl) (lists net.things) (numbered net h)))
numbered_after net (row.TurnBack list m status) e h =
    is_numbered (after net (row.TurnBack list m status)) (numbered_by net.next.list _ _ (lists-changed list.0 (had_by m) net.things) (below_retouched net.next.list list.0 (had_by m) (λ l. refl) (lists net.things) (numbered net h)))
numbered_after net (row.Pass list way to) e h =
    is_numbered (after net (row.Pass list way to)) (numbered_by net.next.list _ _ (lists-passed list.0 way to net.things) (IsApart-passed list.0 way to (lists net.things) h.apart, below_moved net.next.list list.0 (lists net.things) (list_of list.0 (lists net.things)) (as_passed way to) refl (λ l. (record l { stand = stand.Passed way to; crossed = None }, refl, refl)) refl h.below))
numbered_after net (row.Keep list m) e h =
    is_numbered (after net (row.Keep list m)) (numbered_by net.next.list _ _ (lists-kept list.0 m net.things) (IsApart-kept list.0 m (lists net.things) h.apart, below_moved net.next.list list.0 (lists net.things) (list_of list.0 (lists net.things)) (as_kept m) refl (λ l. (record l { last = m; stand = stand.Kept m }, refl, refl)) refl h.below))
numbered_after net (row.Home list owner status) e h =
    is_numbered (after net (row.Home list owner status)) (numbered_by net.next.list _ _ (lists-without list.0 net.things) (IsApart-others list.0 (lists net.things) h.apart, Each-others (λ l. l.list.0 < net.next.list) list.0 (lists net.things) h.below))
numbered_after net (row.Wire list frames) e h = record { apart = h.apart; below = h.below }
numbered_after net (row.Deliver list binding how frames) e h = record { apart = h.apart; below = h.below }
numbered_after net (row.Phase (of.Module m s)) e h = record { apart = h.apart; below = h.below }
numbered_after net (row.Phase (of.Stack p)) e h = record { apart = h.apart; below = h.below }
numbered_after net (row.Config config filters) e h = record { apart = h.apart; below = h.below }
numbered_after net (row.OidIssue request parent binding kind code value) e h = record { apart = h.apart; below = h.below }
numbered_after net (row.OidGive request m) e h = record { apart = h.apart; below = h.below }
numbered_after net (row.OidDone request status value) e h =
    is_numbered (after net (row.OidDone request status value)) (numbered_by net.next.list _ _ (lists-things_done (request_of request.0 net.requests) request status value net.things) (numbered net h))
numbered_after net (row.Status number name to) e h =
    is_numbered (after net (row.Status number name to)) (numbered_by net.next.list _ _ (lists-status number.0 net.things _ refl) (numbered net h))
numbered_after net (row.Seen number m) e h =
    is_numbered (after net (row.Seen number m)) (numbered_by net.next.list _ _ (lists-without_status number.0 net.things) (numbered net h))
numbered_after net (row.CrossOut message (out.Down list) frames) e h =
    is_numbered (after net (row.CrossOut message (out.Down list) frames)) (numbered_by net.next.list _ _ (lists-changed list.0 (taken_by message.0) net.things) (below_retouched net.next.list list.0 (taken_by message.0) (λ l. refl) (lists net.things) (numbered net h)))
numbered_after net (row.CrossOut message out.Up frames) e h = record { apart = h.apart; below = h.below }
numbered_after net (row.CrossIn stack message way frames) e h = h

pub numbered_start : (head : StackHead) → IsNumbered (start head)
numbered_start head = record { apart = tt; below = tt }

pub numbered_rows : (net : Net) (rows : List Row) → IssueNext net rows → IsNumbered net → IsNumbered (after_rows net rows)
numbered_rows net [] e h = h
numbered_rows net (r ∷ rows) e h = numbered_rows (after net r) rows e.1 (numbered_after net r e.0 h)

-- so the next number is free
pub next_is_free : (net : Net) → IsNumbered net → is_live net.next.list (lists net.things) ≡ false
next_is_free net h = below_absent net.next.list (lists net.things) h.below
