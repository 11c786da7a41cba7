-- A live list stays found by its number while rows change where it was last or put others on their way.
use Rattle.std.proofs.Common.{◌≡◌, ℕ, ◌==◌, not, Bool, true, false, cond, List, [], ◌∷◌, ◌++◌, Option, Some, None, refl, arith, ap, ◌∙◌}
use Rattle.std.proofs.lemmas.Bool.Decides.{nat_tests}
use Rattle.ndis_base.specs.declared.ModuleId.{ModuleId}
use Rattle.ndis_base.specs.declared.ListNo.{ListNo}
use Rattle.ndis_base.specs.declared.ListStatus.{ListStatus}
use Rattle.ndis_base.specs.declared.ConfigNo.{ConfigNo}
use Rattle.ndis_base.specs.declared.Direction.{Direction}
use Rattle.ndis_base.specs.declared.Origin.{Origin}
use Rattle.journal_types.specs.declared.Handler.{Handler}
use Rattle.journal_types.specs.declared.PassWay.{PassWay}
use Rattle.journal_types.specs.declared.Target.{Target}
use Rattle.journal_types.specs.declared.Row.TheVariants as row
use Rattle.stack_rules.specs.declared.LiveList.{LiveList}
use Rattle.stack_rules.specs.Net.{Net, after, lists, list_of, had_by, as_passed}
use Rattle.rule_basics.specs.Live.{others, retouched, with_last, KeepsNumber}
use Rattle.rule_basics.proofs.Lists.{lists-append, lists-without, lists-changed, lists-passed}

-- the list is found by its number
abbrev pub Found : Net → LiveList → Type 0
Found net l = list_of l.list.0 (lists net.things) ≡ Some l

some_same : (x l : LiveList) → Some x ≡ Some l → x ≡ l
some_same x l f = cc

found_touched : (n : ℕ) (f : LiveList → LiveList) → KeepsNumber f → (ls : List LiveList) (l : LiveList) → list_of n ls ≡ Some l → list_of n (retouched n f ls) ≡ Some (f l)
found_touched n f k [] l h = cc
found_touched n f k (x ∷ ls) l h =
    let cases : (b : Bool) → (x.list.0 == n) ≡ b → cond b (Some x) (list_of n ls) ≡ Some l → cond ((cond b (f x) x).list.0 == n) (Some (cond b (f x) x)) (list_of n (retouched n f ls)) ≡ Some (f l) = elim [
      | true ↦ λ t g. let same : ((f x).list.0 == n) ≡ true = ap (λ i. i == n) (k x) ∙ t in rw same (ap (λ y. Some (f y)) (some_same x l g))
      | false ↦ λ t g. rw t (found_touched n f k ls l g)
    ] in
    cases (x.list.0 == n) refl h

found_append : (n : ℕ) (ls more : List LiveList) (l : LiveList) → list_of n ls ≡ Some l → list_of n (ls ++ more) ≡ Some l
found_append n [] more l h = cc
found_append n (x ∷ ls) more l h =
    let cases : (b : Bool) → cond b (Some x) (list_of n ls) ≡ Some l → cond b (Some x) (list_of n (ls ++ more)) ≡ Some l = elim [
      | true ↦ λ g. g
      | false ↦ λ g. found_append n ls more l g
    ] in
    cases (x.list.0 == n) h

found_others : (n m : ℕ) (ls : List LiveList) (l : LiveList) → (n == m) ≡ false → list_of n ls ≡ Some l → list_of n (others m ls) ≡ Some l
found_others n m [] l a h = cc
found_others n m (x ∷ ls) l a h =
    let cases : (b c : Bool) → (x.list.0 == n) ≡ b → (x.list.0 == m) ≡ c → cond b (Some x) (list_of n ls) ≡ Some l → list_of n (cond (not c) (x ∷ others m ls) (others m ls)) ≡ Some l = elim [
      | true ↦ elim [
        | true ↦ λ s t g. absurd (clash x.list.0 n m s t a)
        | false ↦ λ s t g. rw s g
      ]
      | false ↦ elim [
        | true ↦ λ s t g. found_others n m ls l a g
        | false ↦ λ s t g. rw s (found_others n m ls l a g)
      ]
    ] in
    cases (x.list.0 == n) (x.list.0 == m) refl refl h
  where
    clash : (i n m : ℕ) → (i == n) ≡ true → (i == m) ≡ true → (n == m) ≡ false → ⊥
    clash i n m s t a = grind (arith, nat_tests)

found_last : (n m : ℕ) (ls : List LiveList) (o : Option LiveList) (l : LiveList) → (n == m) ≡ false → list_of n ls ≡ Some l → list_of n (with_last (others m ls) o) ≡ Some l
found_last n m ls None l a h = found_others n m ls l a h
found_last n m ls (Some k) l a h = found_append n (others m ls) (k ∷ []) l (found_others n m ls l a h)

by_lists : (n : ℕ) (ls ys : List LiveList) (l : LiveList) → ys ≡ ls → list_of n ls ≡ Some l → list_of n ys ≡ Some l
by_lists n ls ys l e h = ap (list_of n) e ∙ h

pub found_give : (net : Net) (l : LiveList) (m : ModuleId) (handler : Handler) → Found net l → Found (after net (row.Give l.list m handler)) (had_by m l)
found_give net l m handler h = by_lists l.list.0 _ _ (had_by m l) (lists-changed l.list.0 (had_by m) net.things) (found_touched l.list.0 (had_by m) (λ k. refl) (lists net.things) l h)

pub found_back : (net : Net) (l : LiveList) (m : ModuleId) (status : ListStatus) → Found net l → Found (after net (row.TurnBack l.list m status)) (had_by m l)
found_back net l m status h = by_lists l.list.0 _ _ (had_by m l) (lists-changed l.list.0 (had_by m) net.things) (found_touched l.list.0 (had_by m) (λ k. refl) (lists net.things) l h)

pub found_issue : (net : Net) (l : LiveList) (list : ListNo) (owner : ModuleId) (config : ConfigNo) (direction : Direction) (cancel : Option ℕ) (origin : Origin) (frames : List (List ℕ)) → Found net l →
    Found (after net (row.Issue list owner config direction cancel origin frames)) l
found_issue net l list owner config direction cancel origin frames h = by_lists l.list.0 _ _ l (lists-append net.things _) (found_append l.list.0 (lists net.things) _ l h)

pub found_pass : (net : Net) (l : LiveList) (list : ListNo) (way : PassWay) (to : Target) → (l.list.0 == list.0) ≡ false → Found net l → Found (after net (row.Pass list way to)) l
found_pass net l list way to a h =
    by_lists l.list.0 _ _ l (lists-passed list.0 way to net.things) (found_last l.list.0 list.0 (lists net.things) (as_passed way to (list_of list.0 (lists net.things))) l a h)

pub found_home : (net : Net) (l : LiveList) (list : ListNo) (owner : ModuleId) (status : ListStatus) → (l.list.0 == list.0) ≡ false → Found net l → Found (after net (row.Home list owner status)) l
found_home net l list owner status a h = by_lists l.list.0 _ _ l (lists-without list.0 net.things) (found_others l.list.0 list.0 (lists net.things) l a h)

-- a list of another number is changed
found_beside : (n m : ℕ) (f : LiveList → LiveList) → KeepsNumber f → (ls : List LiveList) (l : LiveList) → (n == m) ≡ false → list_of n ls ≡ Some l → list_of n (retouched m f ls) ≡ Some l
found_beside n m f k [] l a h = cc
found_beside n m f k (x ∷ ls) l a h =
    let cases : (b c : Bool) → (x.list.0 == n) ≡ b → (x.list.0 == m) ≡ c → cond b (Some x) (list_of n ls) ≡ Some l → cond ((cond c (f x) x).list.0 == n) (Some (cond c (f x) x)) (list_of n (retouched m f ls)) ≡ Some l = elim [
      | true ↦ elim [
        | true ↦ λ s t g. absurd (clash x.list.0 n m s t a)
        | false ↦ λ s t g. rw s g
      ]
      | false ↦ elim [
        | true ↦ λ s t g. let same : ((f x).list.0 == n) ≡ false = ap (λ i. i == n) (k x) ∙ s in rw same (found_beside n m f k ls l a g)
        | false ↦ λ s t g. rw s (found_beside n m f k ls l a g)
      ]
    ] in
    cases (x.list.0 == n) (x.list.0 == m) refl refl h
  where
    clash : (i n m : ℕ) → (i == n) ≡ true → (i == m) ≡ true → (n == m) ≡ false → ⊥
    clash i n m s t a = grind (arith, nat_tests)

pub found_back_other : (net : Net) (l : LiveList) (list : ListNo) (m : ModuleId) (status : ListStatus) → (l.list.0 == list.0) ≡ false → Found net l → Found (after net (row.TurnBack list m status)) l
found_back_other net l list m status a h = by_lists l.list.0 _ _ l (lists-changed list.0 (had_by m) net.things) (found_beside l.list.0 list.0 (had_by m) (λ k. refl) (lists net.things) l a h)
