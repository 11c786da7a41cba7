-- The lists that an event works.
use Rattle.std.proofs.Common.{◌≡◌, ℕ, ◌+◌, ◌<◌, ◌≤◌, ◌==◌, not, Bool, true, false, cond, List, [], ◌∷◌, Option, Some, None, length, filter, find, refl, arith, ap, subst, ◌∙◌}
use Rattle.std.proofs.lemmas.Bool.Decides.{nat_tests}
use Rattle.ndis_base.specs.declared.ModuleId.{ModuleId}
use Rattle.ndis_base.specs.declared.ModuleId.TheVariants.{Filter}
use Rattle.ndis_base.specs.declared.ListNo.{ListNo}
use Rattle.ndis_base.specs.declared.ConfigNo.{ConfigNo}
use Rattle.ndis_base.specs.declared.Direction.{Direction}
use Rattle.ndis_base.specs.declared.Direction.TheVariants as direction
use Rattle.ndis_base.specs.declared.Origin.{Origin}
use Rattle.journal_types.specs.declared.PassWay.{PassWay}
use Rattle.journal_types.specs.declared.Target.{Target}
use Rattle.journal_types.specs.declared.Row.TheVariants as row
use Rattle.stack_rules.specs.declared.LiveList.{LiveList}
use Rattle.stack_rules.specs.declared.Attached.{Attached}
use Rattle.stack_rules.specs.declared.Thing.{Thing}
use Rattle.stack_rules.specs.declared.Thing.TheVariants as thing
use Rattle.stack_rules.specs.Tests.{is_running, phase_is_running}
use Rattle.stack_rules.specs.Net.{Net, Modules, after, after_rows, lists, list_of, attached, as_passed}
use Rattle.stack_rules.specs.Places.{position, is_away, agenda_first}
use Rattle.stack_rules.specs.Sends.{first_of}
use Rattle.stack_rules.specs.Targets.{onward}
use Rattle.rule_basics.specs.Live.{is_live, IsApart, Each, others, with_last}
use Rattle.rule_basics.proofs.Lists.{lists-append, lists-passed}
use Rattle.rule_basics.proofs.Lives.{find_is}
use Rattle.rule_basics.proofs.Each.{Each-implies}
use Rattle.state_laws.specs.Shape.{IsDistinct}
use Rattle.pause_laws.specs.Clear.{IsClear}
use Rattle.pause_laws.proofs.Lists.{found-append, found-moved}
use Rattle.pause_laws.proofs.Hands.{Clear}

-- what the states of the modules tell of the front
pub record Facts (net : Net) (front : ℕ) : Type 0 where
  pub distinct : IsDistinct net.modules.order
  pub filter : (f : ℕ) (a : Attached) → attached f net.modules.filters ≡ Some a → is_running a.state ≡ true → front ≤ position net.modules.order (Filter f)
  pub miniport : is_running net.modules.miniport ≡ true → front ≤ length net.modules.order + 1
  pub running : phase_is_running net.phase ≡ true → front ≡ 0

-- a live list of the state
pub record IsWorked (net : Net) (front : ℕ) (l : LiveList) : Type 0 where
  pub found : list_of l.list.0 (lists net.things) ≡ Some l
  pub clear : IsClear net.modules front l

all_found : (ls : List LiveList) → IsApart ls → Each (λ l. list_of l.list.0 ls ≡ Some l) ls
all_found [] a = tt
all_found (x ∷ ls) a =
    let here : (x.list.0 == x.list.0) ≡ true = grind (arith, nat_tests) in
    (rw here refl, Each-implies (λ l. list_of l.list.0 ls ≡ Some l) (λ l. list_of l.list.0 (x ∷ ls) ≡ Some l) (λ l f. later x.list.0 l.list.0 ls (Some x) (Some l) a.0 (find_is l.list.0 ls l f).1 f) ls (all_found ls a.1))
  where
    later : (n m : ℕ) (ls : List LiveList) (a b : Option LiveList) → is_live n ls ≡ false → is_live m ls ≡ true → list_of m ls ≡ b → cond (n == m) a (list_of m ls) ≡ b
    later n m ls a b h l f =
        let cases : (c : Bool) → (n == m) ≡ c → cond c a (list_of m ls) ≡ b = elim [
          | true ↦ λ t. let same : n ≡ m = grind (arith, nat_tests) in absurd (cc (ap (λ x. is_live x ls) same))
          | false ↦ λ t. f
        ] in
        cases (n == m) refl

both_each : (P Q R : LiveList → Type 0) → ((l : LiveList) → P l → Q l → R l) → (ls : List LiveList) → Each P ls → Each Q ls → Each R ls
both_each P Q R f [] h k = tt
both_each P Q R f (x ∷ ls) h k = (f x h.0 k.0, both_each P Q R f ls h.1 k.1)

-- each live list of a clear state
pub all_worked : (net : Net) (front : ℕ) → Clear net.modules front net → Each (IsWorked net front) (lists net.things)
all_worked net front h =
    both_each (λ l. list_of l.list.0 (lists net.things) ≡ Some l) (IsClear net.modules front) (IsWorked net front) (λ l f c. record { found = f; clear = c }) (lists net.things) (all_found (lists net.things) h.apart) h.each

pub each_filter : (P : LiveList → Type 0) (test : LiveList → Bool) (ls : List LiveList) → Each P ls → Each (λ l. P l × (test l ≡ true)) (filter test ls)
each_filter P test [] h = tt
each_filter P test (x ∷ ls) h =
    let cases : (b : Bool) → test x ≡ b → Each (λ l. P l × (test l ≡ true)) (cond b (x ∷ filter test ls) (filter test ls)) = elim [
      | true ↦ λ t. ((h.0, t), each_filter P test ls h.1)
      | false ↦ λ t. each_filter P test ls h.1
    ] in
    cases (test x) refl

pub each_find : (P : LiveList → Type 0) (test : LiveList → Bool) (ls : List LiveList) (l : LiveList) → Each P ls → find test ls ≡ Some l → P l × (test l ≡ true)
each_find P test [] l h f = cc
each_find P test (x ∷ ls) l h f =
    let cases : (b : Bool) → test x ≡ b → cond b (Some x) (find test ls) ≡ Some l → P l × (test l ≡ true) = elim [
      | true ↦ λ t f. let same : x ≡ l = cc in subst (λ y. P y × (test y ≡ true)) same (h.0, t)
      | false ↦ λ t f. each_find P test ls l h.1 f
    ] in
    cases (test x) refl f

pub each_first : (P : LiveList → Type 0) (ls : List LiveList) (l : LiveList) → Each P ls → first_of ls ≡ Some l → P l
each_first P [] l h f = cc
each_first P (x ∷ ls) l h f = let same : x ≡ l = cc in subst P same h.0

pub each_away : (P : LiveList → Type 0) (ts : List Thing) (l : LiveList) → Each P (lists ts) → find is_away ts ≡ Some (thing.List l) → P l
each_away P [] l h f = cc
each_away P (thing.Status s ∷ ts) l h f = cc
each_away P (thing.Answer a ∷ ts) l h f = cc
each_away P (thing.List x ∷ ts) l h f =
    let cases : (b : Bool) → cond b (Some (thing.List x)) (find is_away ts) ≡ Some (thing.List l) → P l = elim [
      | true ↦ λ f. let same : x ≡ l = cc in subst P same h.0
      | false ↦ λ f. each_away P ts l h.1 f
    ] in
    cases (is_away (thing.List x)) f

pub worked_away : (net : Net) (front : ℕ) (l : LiveList) → Clear net.modules front net → agenda_first net ≡ Some (thing.List l) → IsWorked net front l
worked_away net front l h f = each_away (IsWorked net front) net.things l (all_worked net front h) f

-- a list that is found is found after another one is passed on, and after a new one is issued
found-apart : (n m : ℕ) (ls : List LiveList) → (n == m) ≡ false → list_of m (others n ls) ≡ list_of m ls
found-apart n m [] h = refl
found-apart n m (x ∷ ls) h =
    let rest : list_of m (others n ls) ≡ list_of m ls = found-apart n m ls h in
    let cases : (b : Bool) → (x.list.0 == n) ≡ b → list_of m (cond (not b) (x ∷ others n ls) (others n ls)) ≡ cond (x.list.0 == m) (Some x) (list_of m ls) = elim [
      | true ↦ λ t. let other : (x.list.0 == m) ≡ false = apart x.list.0 n m t h in rest ∙ rw other refl
      | false ↦ λ t. rw rest refl
    ] in
    cases (x.list.0 == n) refl
  where
    apart : (x n m : ℕ) → (x == n) ≡ true → (n == m) ≡ false → (x == m) ≡ false
    apart x n m t h = grind (arith, nat_tests)

pub found_pass : (net : Net) (list : ListNo) (way : PassWay) (to : Target) (m : ℕ) → (list.0 == m) ≡ false → list_of m (lists (after net (row.Pass list way to)).things) ≡ list_of m (lists net.things)
found_pass net list way to m a = ap (list_of m) (lists-passed list.0 way to net.things) ∙ at (list_of list.0 (lists net.things)) refl
  where
    at : (o : Option LiveList) → list_of list.0 (lists net.things) ≡ o → list_of m (with_last (others list.0 (lists net.things)) (as_passed way to o)) ≡ list_of m (lists net.things)
    at None e = found-apart list.0 m (lists net.things) a
    at (Some x) e = found-moved list.0 m (lists net.things) _ a (find_is list.0 (lists net.things) x e).0

pub found_issue : (net : Net) (list : ListNo) (owner : ModuleId) (config : ConfigNo) (way_of : Direction) (cancel : Option ℕ) (origin : Origin) (frames : List (List ℕ)) (m : ℕ) (l : LiveList) → list_of m (lists net.things) ≡ Some l →
    list_of m (lists (after net (row.Issue list owner config way_of cancel origin frames)).things) ≡ Some l
found_issue net list owner config way_of cancel origin frames m l f = ap (list_of m) (lists-append net.things _) ∙ found-append m (lists net.things) l _ f

pub found_onward : (ms : Modules) (net : Net) (list : ListNo) (way_of : Direction) (i m : ℕ) → (list.0 == m) ≡ false → list_of m (lists (after net (onward ms list way_of i)).things) ≡ list_of m (lists net.things)
found_onward ms net list direction.Down i m a = found_pass net list _ _ m a
found_onward ms net list direction.Up i m a = found_pass net list _ _ m a
found_onward ms net list direction.Lent i m a = found_pass net list _ _ m a

-- it stays found while a new list is issued and goes on
pub found_issue_on : (ms : Modules) (net : Net) (list : ListNo) (owner : ModuleId) (config : ConfigNo) (way_of : Direction) (cancel : Option ℕ) (origin : Origin) (frames : List (List ℕ)) (i m : ℕ) (l : LiveList) → m < list.0 → list_of m (lists net.things) ≡ Some l →
    list_of m (lists (after_rows net (row.Issue list owner config way_of cancel origin frames ∷ onward ms list way_of i ∷ [])).things) ≡ Some l
found_issue_on ms net list owner config way_of cancel origin frames i m l a f =
    found_onward ms (after net (row.Issue list owner config way_of cancel origin frames)) list way_of i m (apart list.0 m a) ∙ found_issue net list owner config way_of cancel origin frames m l f
  where
    apart : (n m : ℕ) → m < n → (n == m) ≡ false
    apart n m a = grind (arith, nat_tests)
