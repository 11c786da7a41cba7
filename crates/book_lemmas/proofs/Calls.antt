-- The calls that a row stands for by the state before it are those that are promised of the journal: of all rows but
-- those by which a request is done.
use Rattle.std.proofs.Common.{◌≡◌, ℕ, ◌+◌, ◌≤◌, ◌==◌, Bool, true, false, cond, List, [], ◌∷◌, ◌++◌, Option, Some, None, find, flat_map, sum_by, count_by, refl, sym, ap, ◌∙◌, subst, arith, append_assoc, append-nil}
use Rattle.std.proofs.lemmas.Bool.Decides.{nat_tests}
use Rattle.std.proofs.lemmas.Bool.{cond-true, cond-false}
use Rattle.ndis_base.specs.declared.Direction.{Direction}
use Rattle.ndis_base.specs.declared.Direction.TheVariants as direction
use Rattle.ndis_base.specs.declared.ListNo.{ListNo}
use Rattle.ndis_base.specs.declared.ListStatus.{ListStatus}
use Rattle.ndis_base.specs.declared.ModuleId.{ModuleId}
use Rattle.journal_types.specs.declared.Row.{Row}
use Rattle.journal_types.specs.declared.Row.TheVariants as row
use Rattle.journal_types.specs.declared.Turn.{Turn}
use Rattle.stack_rules.specs.declared.LiveList.{LiveList}
use Rattle.journal_types.specs.declared.StackHead.{StackHead}
use Rattle.stack_rules.specs.Net.{Net, start, told, after, after_turn, lists, list_of}
use Rattle.stack_rules.specs.Sound.{Sound, SoundFrom}
use Rattle.rule_basics.proofs.Counts.{count_by-append}
use Rattle.std.proofs.lemmas.List.Sums.{sum_by-cons}
use Rattle.home_laws.specs.Rows.{Label, rows_of}
use Rattle.home_laws.proofs.Fits.{Register, empty, entered, registered, registered_rows, Fits, AllFit, IsSane}
use Rattle.home_laws.proofs.Agreed.{Agrees, label_in, agrees_after, agrees_start, agrees_told}
use Rattle.home_laws.proofs.Registers.{sane_empty, sane_after, sane_rows}
use Rattle.home_laws.proofs.Events.{turn_fits, turn_agrees}
use Rattle.promise_rules.specs.Rows.{first_of_two, first_row, is_issue, issue_of}
use Rattle.promise_rules.specs.Calls.{calls_at, direction_in, home_call, is_call_of, logged_at, served, log_of}
use Rattle.promise_rules.specs.declared.Call.{Call}
use Rattle.promise_rules.specs.declared.Called.{Called}
use Rattle.book_lemmas.specs.Did.{calls_now, calls_in, calls_of, logs_in, direction_of}

-- the first row of a kind, in rows that are put together
first_of_both : (test : Row → Bool) (xs ys : List Row) → find test (xs ++ ys) ≡ first_of_two (find test xs) (find test ys)
first_of_both test [] ys = refl
first_of_both test (x ∷ xs) ys = elim (test x) as (λ b. cond b (Some x) (find test (xs ++ ys)) ≡ first_of_two (cond b (Some x) (find test xs)) (find test ys)) [ true ↦ refl | false ↦ first_of_both test xs ys ]

first_row_is : (test : Row → Bool) (turns : List Turn) → first_row test turns ≡ find test (rows_of turns)
first_row_is test [] = refl
first_row_is test (t ∷ ts) = ap (first_of_two (find test t.rows)) (first_row_is test ts) ∙ sym (first_of_both test t.rows (rows_of ts))

found_left : (test : Row → Bool) (xs ys : List Row) (r : Row) → find test xs ≡ Some r → find test (xs ++ ys) ≡ Some r
found_left test xs ys r e = first_of_both test xs ys ∙ ap (λ o. first_of_two o (find test ys)) e

found_right : (test : Row → Bool) (xs ys : List Row) → find test xs ≡ None → find test (xs ++ ys) ≡ find test ys
found_right test xs ys e = first_of_both test xs ys ∙ ap (λ o. first_of_two o (find test ys)) e

-- each live list of the register was issued first with its direction; no number from the next one on was issued
pub record IsFound (rows : List Row) (n : ℕ) (label : Label) : Type 0 where
  pub issue : Row
  pub first : find (is_issue n) rows ≡ Some issue
  pub shows : direction_in (Some issue) ≡ label.direction

-- so was each one of the register, and no number from the next one on
pub record Found (rows : List Row) (reg : Register) : Type 0 where
  pub issued : (n : ℕ) (label : Label) → reg.live n ≡ Some label → IsFound rows n label
  pub none : (n : ℕ) → reg.next ≤ n → find (is_issue n) rows ≡ None

found_on : (rows more : List Row) (n : ℕ) (label : Label) → IsFound rows n label → IsFound (rows ++ more) n label
found_on rows more n label f = record { issue = f.issue; first = found_left (is_issue n) rows more f.issue f.first; shows = f.shows }

found_other : (rows : List Row) (r : Row) (reg : Register) → Found rows reg → ((n : ℕ) → is_issue n r ≡ false) → Found (rows ++ r ∷ []) reg
found_other rows r reg f other = record {
  issued = λ n label e. found_on rows (r ∷ []) n label (f.issued n label e);
  none = λ n high. found_right (is_issue n) rows (r ∷ []) (f.none n high) ∙ cond-false (is_issue n r) (Some r) None (other n);
}

found_issue : (rows : List Row) (reg : Register) (list : ListNo) (r : Row) (label : Label) → Found rows reg → list.0 ≡ reg.next → ((n : ℕ) → is_issue n r ≡ (list.0 == n)) → direction_in (Some r) ≡ label.direction
    → Found (rows ++ r ∷ []) (record { next = reg.next + 1; live = entered list.0 (Some label) reg.live })
found_issue rows reg list r label f number test shows = record {
  issued = λ n found e.
      let cases : (b : Bool) → (n == list.0) ≡ b → cond b (Some label) (reg.live n) ≡ Some found → IsFound (rows ++ r ∷ []) n found = elim [
        | true ↦ λ t g.
            let same : label ≡ found = some_same label found g in
            let at : is_issue n r ≡ true = test n ∙ turned n list.0 t in
            record {
              issue = r;
              first = found_right (is_issue n) rows (r ∷ []) (f.none n (high n list.0 reg.next t number)) ∙ cond-true (is_issue n r) (Some r) None at;
              shows = shows ∙ ap (λ (x : Label). x.direction) same;
            }
        | false ↦ λ t g. found_on rows (r ∷ []) n found (f.issued n found g)
      ] in
      cases (n == list.0) refl e;
  none = λ n above.
      let other : is_issue n r ≡ false = test n ∙ not_there n list.0 reg.next number above in
      found_right (is_issue n) rows (r ∷ []) (f.none n (omega (arith, above))) ∙ cond-false (is_issue n r) (Some r) None other;
}
  where
    some_same : (a b : Label) → Some a ≡ Some b → a ≡ b
    some_same a b h = cc

    turned : (n m : ℕ) → (n == m) ≡ true → (m == n) ≡ true
    turned n m t = grind (arith, nat_tests)

    high : (n m next : ℕ) → (n == m) ≡ true → m ≡ next → next ≤ n
    high n m next t e = grind (arith, nat_tests)

    not_there : (n m next : ℕ) → m ≡ next → next + 1 ≤ n → (m == n) ≡ false
    not_there n m next e above = grind (arith, nat_tests)

found_home : (rows : List Row) (reg : Register) (list : ListNo) (r : Row) → Found rows reg → ((n : ℕ) → is_issue n r ≡ false) → Found (rows ++ r ∷ []) (record reg { live = entered list.0 None reg.live })
found_home rows reg list r f other = record {
  issued = λ n label e.
      let cases : (b : Bool) → cond b None (reg.live n) ≡ Some label → IsFound (rows ++ r ∷ []) n label = elim [
        | true ↦ λ g. absurd (none_some label g)
        | false ↦ λ g. found_on rows (r ∷ []) n label (f.issued n label g)
      ] in
      cases (n == list.0) e;
  none = (found_other rows r reg f other).none;
}
  where
    none_some : (label : Label) → None ≡ Some label → ⊥
    none_some label h = cc

found_after : (rows : List Row) (reg : Register) (r : Row) → Found rows reg → Fits reg r → Found (rows ++ r ∷ []) (registered reg r)
found_after rows reg (row.Issue list owner config way cancel origin frames) f fit =
    found_issue rows reg list (row.Issue list owner config way cancel origin frames) (record { owner = owner; direction = way; cancel = cancel; origin = origin; frames = frames }) f fit.0 (λ n. refl) refl
found_after rows reg (row.Home list owner status) f fit = found_home rows reg list (row.Home list owner status) f (λ n. refl)
found_after rows reg (row.Give list m handler) f fit = found_other rows (row.Give list m handler) reg f (λ n. refl)
found_after rows reg (row.Pass list way to) f fit = found_other rows (row.Pass list way to) reg f (λ n. refl)
found_after rows reg (row.Keep list m) f fit = found_other rows (row.Keep list m) reg f (λ n. refl)
found_after rows reg (row.TurnBack list m status) f fit = found_other rows (row.TurnBack list m status) reg f (λ n. refl)
found_after rows reg (row.Wire list frames) f fit = found_other rows (row.Wire list frames) reg f (λ n. refl)
found_after rows reg (row.Deliver list binding how frames) f fit = found_other rows (row.Deliver list binding how frames) reg f (λ n. refl)
found_after rows reg (row.Phase whose) f fit = found_other rows (row.Phase whose) reg f (λ n. refl)
found_after rows reg (row.Config config filters) f fit = found_other rows (row.Config config filters) reg f (λ n. refl)
found_after rows reg (row.OidIssue request parent binding kind code value) f fit = found_other rows (row.OidIssue request parent binding kind code value) reg f (λ n. refl)
found_after rows reg (row.OidGive request m) f fit = found_other rows (row.OidGive request m) reg f (λ n. refl)
found_after rows reg (row.OidDone request status value) f fit = found_other rows (row.OidDone request status value) reg f (λ n. refl)
found_after rows reg (row.Status number name to) f fit = found_other rows (row.Status number name to) reg f (λ n. refl)
found_after rows reg (row.Seen number m) f fit = found_other rows (row.Seen number m) reg f (λ n. refl)
found_after rows reg (row.CrossOut message way frames) f fit = found_other rows (row.CrossOut message way frames) reg f (λ n. refl)
found_after rows reg (row.CrossIn stack message way frames) f fit = found_other rows (row.CrossIn stack message way frames) reg f (λ n. refl)

found_rows : (before rows : List Row) (reg : Register) → Found before reg → AllFit reg rows → Found (before ++ rows) (registered_rows reg rows)
found_rows before [] reg f fit = subst (λ rs. Found rs reg) (sym (append-nil before)) f
found_rows before (r ∷ rows) reg f fit =
    subst (λ rs. Found rs (registered_rows (registered reg r) rows)) (append_assoc before (r ∷ []) rows) (found_rows (before ++ r ∷ []) rows (registered reg r) (found_after before reg r f fit.0) fit.1)

-- the direction of a live list is that of its label
direction_known : (o : Option LiveList) (label : Label) → label_in o ≡ Some label → direction_of o ≡ label.direction
direction_known None label e = cc
direction_known (Some l) label e = ap (λ (o : Option Label). shown o) e
  where
    shown : Option Label → Direction
    shown None = direction.Lent
    shown (Some label) = label.direction

-- a row by which no request is done
abbrev pub IsNoAnswer : Row → Type 0
IsNoAnswer (row.OidDone request status value) = ⊥
IsNoAnswer _ = Unit {0}

home_known : (turns : List Turn) (net : Net) (reg : Register) (before rest : List Row) (list : ListNo) (owner : ModuleId) (status : ListStatus) → rows_of turns ≡ before ++ row.Home list owner status ∷ rest → Found before reg
    → Fits reg (row.Home list owner status) → Agrees net reg → direction_in (issue_of turns list.0) ≡ direction_of (list_of list.0 (lists net.things))
home_known turns net reg before rest list owner status is f fit agrees =
    let issue : IsFound before list.0 fit.label = f.issued list.0 fit.label fit.found in
    let whole : issue_of turns list.0 ≡ Some issue.issue =
    first_row_is (is_issue list.0) turns ∙ ap (find (is_issue list.0)) is ∙ found_left (is_issue list.0) before (row.Home list owner status ∷ rest) issue.issue issue.first in
    ap direction_in whole ∙ issue.shows ∙ sym (direction_known (list_of list.0 (lists net.things)) fit.label (agrees.live list.0 ∙ fit.found))

-- what a row stands for by the state is what is promised of the journal
pub calls_are : (turns : List Turn) (net : Net) (reg : Register) (before rest : List Row) (r : Row) → IsNoAnswer r → rows_of turns ≡ before ++ r ∷ rest → Found before reg → Fits reg r → Agrees net reg → calls_at turns r ≡ calls_now net r
calls_are turns net reg before rest (row.Home list owner status) other is f fit agrees = ap (home_call owner) (home_known turns net reg before rest list owner status is f fit agrees)
calls_are turns net reg before rest (row.OidDone request status value) other is f fit agrees = absurd other
calls_are turns net reg before rest (row.Issue list owner config way cancel origin frames) other is f fit agrees = refl
calls_are turns net reg before rest (row.Give list m handler) other is f fit agrees = refl
calls_are turns net reg before rest (row.Pass list way to) other is f fit agrees = refl
calls_are turns net reg before rest (row.Keep list m) other is f fit agrees = refl
calls_are turns net reg before rest (row.TurnBack list m status) other is f fit agrees = refl
calls_are turns net reg before rest (row.Wire list frames) other is f fit agrees = refl
calls_are turns net reg before rest (row.Deliver list binding how frames) other is f fit agrees = refl
calls_are turns net reg before rest (row.Phase whose) other is f fit agrees = refl
calls_are turns net reg before rest (row.Config config filters) other is f fit agrees = refl
calls_are turns net reg before rest (row.OidIssue request parent binding kind code value) other is f fit agrees = refl
calls_are turns net reg before rest (row.OidGive request m) other is f fit agrees = refl
calls_are turns net reg before rest (row.Status number name to) other is f fit agrees = refl
calls_are turns net reg before rest (row.Seen number m) other is f fit agrees = refl
calls_are turns net reg before rest (row.CrossOut message way frames) other is f fit agrees = refl
calls_are turns net reg before rest (row.CrossIn stack message way frames) other is f fit agrees = refl

-- So the calls that a journal serves a module are those that its states tell.

-- rows of that kind alone
abbrev pub NoAnswers : List Row → Type 0
NoAnswers [] = Unit {0}
NoAnswers (r ∷ rows) = IsNoAnswer r × NoAnswers rows

no_left : (xs ys : List Row) → NoAnswers (xs ++ ys) → NoAnswers xs
no_left [] ys h = tt
no_left (x ∷ xs) ys h = (h.0, no_left xs ys h.1)

no_right : (xs ys : List Row) → NoAnswers (xs ++ ys) → NoAnswers ys
no_right [] ys h = h
no_right (x ∷ xs) ys h = no_right xs ys h.1

rows_count : (all : List Turn) (m : ModuleId) (what : Called) (net : Net) (reg : Register) (before rows rest : List Row) → NoAnswers rows → rows_of all ≡ before ++ (rows ++ rest) → Found before reg → AllFit reg rows → Agrees net reg → IsSane reg
    → sum_by (λ r. count_by (is_call_of m what) (calls_at all r)) rows ≡ count_by (is_call_of m what) (calls_in net rows)
rows_count all m what net reg before [] rest other is f fit a s = refl
rows_count all m what net reg before (r ∷ rows) rest other is f fit a s =
    let p : Call → Bool = is_call_of m what in
    let here : count_by p (calls_at all r) ≡ count_by p (calls_now net r) = ap (count_by p) (calls_are all net reg before (rows ++ rest) r other.0 is f fit.0 a) in
    let more = rows_count all m what (after net r) (registered reg r) (before ++ r ∷ []) rows rest other.1 (is ∙ sym (append_assoc before (r ∷ []) (rows ++ rest))) (found_after before reg r f fit.0) fit.1 (agrees_after net reg r a s fit.0) (sane_after reg r s fit.0) in
    let split = count_by-append p (calls_now net r) (calls_in (after net r) rows) in
    let cons = sum_by-cons (λ r. count_by p (calls_at all r)) r rows in
    omega (arith, here, more, split, cons)

turns_count : (all : List Turn) (m : ModuleId) (what : Called) (net : Net) (reg : Register) (before : List Row) (turns : List Turn) → NoAnswers (rows_of turns) → rows_of all ≡ before ++ rows_of turns → Found before reg → Agrees net reg → IsSane reg → SoundFrom net turns
    → sum_by (λ t. sum_by (λ r. count_by (is_call_of m what) (calls_at all r)) t.rows) turns ≡ count_by (is_call_of m what) (calls_of net turns)
turns_count all m what net reg before [] other is f a s n = refl
turns_count all m what net reg before (t ∷ ts) other is f a s n =
    let p : Call → Bool = is_call_of m what in
    let fit : AllFit reg t.rows = turn_fits net reg t a s n.0 in
    let begun : Net = told net t.event t.reply in
    let one = rows_count all m what begun reg before t.rows (rows_of ts) (no_left t.rows (rows_of ts) other) is f fit (agrees_told net reg t.event t.reply a) s in
    let rest = turns_count all m what (after_turn net t) (registered_rows reg t.rows) (before ++ t.rows) ts (no_right t.rows (rows_of ts) other) (is ∙ sym (append_assoc before t.rows (rows_of ts)))
    (found_rows before t.rows reg f fit) (turn_agrees net reg t a s fit) (sane_rows reg t.rows s fit) n.1 in
    let split = count_by-append p (calls_in begun t.rows) (calls_of (after_turn net t) ts) in
    let cons = sum_by-cons (λ (t : Turn). sum_by (λ r. count_by p (calls_at all r)) t.rows) t ts in
    omega (arith, one, rest, split, cons)

-- after every sound journal in which no request is done
pub served_is : (head : StackHead) (turns : List Turn) (m : ModuleId) (what : Called) → Sound head turns → NoAnswers (rows_of turns) → served turns m what ≡ count_by (is_call_of m what) (calls_of (start head) turns)
served_is head turns m what s other =
    turns_count turns m what (start head) empty [] turns other refl (record { issued = λ n label e. absurd (never label e); none = λ n high. refl }) (agrees_start head) sane_empty s
  where
    never : (label : Label) → None ≡ Some label → ⊥
    never label e = cc

-- and what it logs are the rows' logs
flat_more : {X Y : Type 0} (f : X → List Y) (xs ys : List X) → flat_map f (xs ++ ys) ≡ flat_map f xs ++ flat_map f ys
flat_more f [] ys = refl
flat_more f (x ∷ xs) ys = ap (λ zs. f x ++ zs) (flat_more f xs ys) ∙ sym (append_assoc (f x) (flat_map f xs) (flat_map f ys))

pub log_is : (turns : List Turn) (m : ModuleId) → log_of turns m ≡ logs_in m (rows_of turns)
log_is [] m = refl
log_is (t ∷ ts) m = ap (λ rest. flat_map (logged_at m) t.rows ++ rest) (log_is ts m) ∙ sym (flat_more (logged_at m) t.rows (rows_of ts))
