-- A row that takes no list home leaves each list that has a clone with one.
use Rattle.std.proofs.Common.{◌≡◌, ℕ, ◌==◌, ◌||◌, not, Bool, true, false, cond, List, [], ◌∷◌, ◌++◌, Option, Some, None, refl, arith, ap, sym, ◌∙◌}
use Rattle.std.specs.List.{list_any}
use Rattle.std.proofs.lemmas.Bool.Decides.{nat_tests}
use Rattle.std.proofs.lemmas.List.Folds.{list_any-append}
use Rattle.journal_types.specs.declared.PhaseOf.TheVariants as of
use Rattle.journal_types.specs.declared.OutWay.TheVariants as out
use Rattle.journal_types.specs.declared.Row.{Row}
use Rattle.journal_types.specs.declared.Row.TheVariants as row
use Rattle.stack_rules.specs.declared.LiveList.{LiveList}
use Rattle.stack_rules.specs.declared.Stand.TheVariants as stand
use Rattle.stack_rules.specs.Net.{Net, after, after_rows, lists, list_of, had_by, taken_by, as_kept, as_passed, request_of}
use Rattle.stack_rules.specs.Places.{is_clone_of, has_clone}
use Rattle.rule_basics.specs.Live.{is_live, IsApart, others, touched, retouched, with_last}
use Rattle.rule_basics.specs.Numbers.{IsNumbered, IssueNext}
use Rattle.rule_basics.proofs.Lists.{lists-append, lists-changed, lists-kept, lists-passed}
use Rattle.rule_basics.proofs.Apart.{others-absent}
use Rattle.rule_basics.proofs.Numbered.{numbered_after, lists-without_status, lists-status, lists-things_done}
use Rattle.work_laws.proofs.Weights.{Stay}

-- a clone of the list is among these
abbrev pub any_clone : ℕ → List LiveList → Bool
any_clone n ls = list_any (λ l. is_clone_of n l.origin) ls

abbrev ListsStay : List LiveList → List LiveList → Type 0
ListsStay ls ys = (n : ℕ) → any_clone n ls ≡ true → any_clone n ys ≡ true

or_left : (a b : Bool) → a ≡ true → (a || b) ≡ true
or_left true b h = refl
or_left false b h = cc

or_right : (a b : Bool) → b ≡ true → (a || b) ≡ true
or_right true b h = refl
or_right false b h = h

stay_more : (ls more : List LiveList) → ListsStay ls (ls ++ more)
stay_more ls more n h = list_any-append (λ l. is_clone_of n l.origin) ls more ∙ or_left (any_clone n ls) (any_clone n more) h

touched_same : (n m : ℕ) (f : LiveList → LiveList) → ((l : LiveList) → (f l).origin ≡ l.origin) → (l : LiveList) → is_clone_of n (touched m f l).origin ≡ is_clone_of n l.origin
touched_same n m f same l = elim (l.list.0 == m) as (λ b. is_clone_of n (cond b (f l) l).origin ≡ is_clone_of n l.origin) [ true ↦ ap (is_clone_of n) (same l) | false ↦ refl ]

retouched_same : (n m : ℕ) (f : LiveList → LiveList) → ((l : LiveList) → (f l).origin ≡ l.origin) → (ls : List LiveList) → any_clone n (retouched m f ls) ≡ any_clone n ls
retouched_same n m f same [] = refl
retouched_same n m f same (x ∷ ls) = rw (touched_same n m f same x) (rw (retouched_same n m f same ls) refl)

stay_retouched : (m : ℕ) (f : LiveList → LiveList) → ((l : LiveList) → (f l).origin ≡ l.origin) → (ls : List LiveList) → ListsStay ls (retouched m f ls)
stay_retouched m f same ls n h = retouched_same n m f same ls ∙ h

-- a list that is moved to the end
pub none_out : (m : ℕ) (ls : List LiveList) → list_of m ls ≡ None → others m ls ≡ ls
none_out m [] h = refl
none_out m (x ∷ ls) h =
    let cases : (b : Bool) → cond b (Some x) (list_of m ls) ≡ None → cond (not b) (x ∷ others m ls) (others m ls) ≡ x ∷ ls = elim [
      | true ↦ λ f. cc
      | false ↦ λ f. ap (λ ys. x ∷ ys) (none_out m ls f)
    ] in
    cases (x.list.0 == m) h

some_same : (x l : LiveList) → Some x ≡ Some l → x ≡ l
some_same x l f = cc

pub taken_any : (n m : ℕ) (ls : List LiveList) (l : LiveList) → IsApart ls → list_of m ls ≡ Some l → any_clone n ls ≡ true → (any_clone n (others m ls) || is_clone_of n l.origin) ≡ true
taken_any n m [] l a f h = cc
taken_any n m (x ∷ ls) l a f h =
    let cases : (b : Bool) → (x.list.0 == m) ≡ b → cond b (Some x) (list_of m ls) ≡ Some l → (any_clone n (cond (not b) (x ∷ others m ls) (others m ls)) || is_clone_of n l.origin) ≡ true = elim [
      | true ↦ λ t f.
          let absent : is_live m ls ≡ false = grind (arith, nat_tests) in
          rw (others-absent m ls absent) (swap (is_clone_of n x.origin) (any_clone n ls) (is_clone_of n l.origin) (ap (λ (k : LiveList). is_clone_of n k.origin) (some_same x l f)) h)
      | false ↦ λ t f. later (is_clone_of n x.origin) (any_clone n ls) (any_clone n (others m ls)) (is_clone_of n l.origin) (taken_any n m ls l a.1 f) h
    ] in
    cases (x.list.0 == m) refl f
  where
    swap : (a b c : Bool) → a ≡ c → (a || b) ≡ true → (b || c) ≡ true
    swap true true c e h = refl
    swap true false c e h = sym e
    swap false true c e h = refl
    swap false false c e h = cc

    later : (a b c d : Bool) → (b ≡ true → (c || d) ≡ true) → (a || b) ≡ true → ((a || c) || d) ≡ true
    later true b c d k h = refl
    later false b c d k h = k h

-- a change that keeps what the list was made of
abbrev KeepsOrigin : (Option LiveList → Option LiveList) → Type 0
KeepsOrigin change = (l : LiveList) → (k : LiveList) × (change (Some l) ≡ Some k) × (k.origin ≡ l.origin)

stay_moved : (m : ℕ) (ls : List LiveList) (found : Option LiveList) (change : Option LiveList → Option LiveList) → change None ≡ None → KeepsOrigin change → IsApart ls → list_of m ls ≡ found → ListsStay ls (with_last (others m ls) (change found))
stay_moved m ls None change none keeps a f n h = rw none (ap (any_clone n) (none_out m ls f) ∙ h)
stay_moved m ls (Some l) change none keeps a f n h =
    rw (keeps l).1
    (list_any-append (λ x. is_clone_of n x.origin) (others m ls) ((keeps l).0 ∷ [])
    ∙ last (any_clone n (others m ls)) (is_clone_of n (keeps l).0.origin) (is_clone_of n l.origin) (ap (is_clone_of n) (keeps l).2) (taken_any n m ls l a f h))
  where
    last : (a b c : Bool) → b ≡ c → (a || c) ≡ true → (a || (b || false)) ≡ true
    last true b c e h = refl
    last false true c e h = refl
    last false false true e h = cc
    last false false false e h = h

-- the row takes no list home
abbrev pub is_staying : Row → Bool
is_staying (row.Home list owner status) = false
is_staying _ = true

abbrev pub AreStaying : List Row → Type 0
AreStaying [] = Unit {0}
AreStaying (r ∷ rows) = (is_staying r ≡ true) × AreStaying rows

stay_by : (ls ys zs : List LiveList) → zs ≡ ys → ListsStay ls ys → ListsStay ls zs
stay_by ls ys zs e h n t = ap (any_clone n) e ∙ h n t

pub clones_after : (net : Net) (r : Row) → IsNumbered net → is_staying r ≡ true → Stay (has_clone net) (has_clone (after net r))
clones_after net (row.Issue list owner config direction cancel origin frames) h q = stay_by (lists net.things) _ _ (lists-append net.things _) (stay_more (lists net.things) _)
clones_after net (row.Give list m by) h q = stay_by (lists net.things) _ _ (lists-changed list.0 (had_by m) net.things) (stay_retouched list.0 (had_by m) (λ l. refl) (lists net.things))
clones_after net (row.TurnBack list m status) h q = stay_by (lists net.things) _ _ (lists-changed list.0 (had_by m) net.things) (stay_retouched list.0 (had_by m) (λ l. refl) (lists net.things))
clones_after net (row.Pass list way to) h q =
    stay_by (lists net.things) _ _ (lists-passed list.0 way to net.things)
    (stay_moved list.0 (lists net.things) (list_of list.0 (lists net.things)) (as_passed way to) refl (λ l. (record l { stand = stand.Passed way to; crossed = None }, refl, refl)) h.apart refl)
clones_after net (row.Keep list m) h q =
    stay_by (lists net.things) _ _ (lists-kept list.0 m net.things)
    (stay_moved list.0 (lists net.things) (list_of list.0 (lists net.things)) (as_kept m) refl (λ l. (record l { last = m; stand = stand.Kept m }, refl, refl)) h.apart refl)
clones_after net (row.Home list owner status) h q = cc
clones_after net (row.Wire list frames) h q = λ n t. t
clones_after net (row.Deliver list binding how frames) h q = λ n t. t
clones_after net (row.Phase (of.Module m s)) h q = λ n t. t
clones_after net (row.Phase (of.Stack p)) h q = λ n t. t
clones_after net (row.Config config filters) h q = λ n t. t
clones_after net (row.OidIssue request parent binding kind code value) h q = λ n t. t
clones_after net (row.OidGive request m) h q = λ n t. t
clones_after net (row.OidDone request status value) h q = stay_by (lists net.things) (lists net.things) _ (lists-things_done (request_of request.0 net.requests) request status value net.things) (λ n t. t)
clones_after net (row.Status number name to) h q = stay_by (lists net.things) (lists net.things) _ (lists-status number.0 net.things _ refl) (λ n t. t)
clones_after net (row.Seen number m) h q = stay_by (lists net.things) (lists net.things) _ (lists-without_status number.0 net.things) (λ n t. t)
clones_after net (row.CrossOut message (out.Down list) frames) h q = stay_by (lists net.things) _ _ (lists-changed list.0 (taken_by message.0) net.things) (stay_retouched list.0 (taken_by message.0) (λ l. refl) (lists net.things))
clones_after net (row.CrossOut message out.Up frames) h q = λ n t. t
clones_after net (row.CrossIn stack message way frames) h q = λ n t. t

pub clones_rows : (net : Net) (rows : List Row) → IsNumbered net → IssueNext net rows → AreStaying rows → Stay (has_clone net) (has_clone (after_rows net rows))
clones_rows net [] h e q = λ n t. t
clones_rows net (r ∷ rows) h e q = λ n t. clones_rows (after net r) rows (numbered_after net r e.0 h) e.1 q.1 n (clones_after net r h q.0 n t)
