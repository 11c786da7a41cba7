-- The live list of a number after each row.
use Rattle.std.proofs.Common.{◌≡◌, ℕ, ◌==◌, ◌&&◌, not, Bool, true, false, cond, List, [], ◌∷◌, ◌++◌, Option, Some, None, option_map, refl, arith, ap, ◌∙◌}
use Rattle.std.proofs.lemmas.Bool.Decides.{nat_tests}
use Rattle.ndis_base.specs.declared.ModuleId.{ModuleId}
use Rattle.ndis_base.specs.declared.ListNo.{ListNo}
use Rattle.ndis_base.specs.declared.ListStatus.{ListStatus}
use Rattle.ndis_base.specs.declared.CrossNo.{CrossNo}
use Rattle.ndis_base.specs.declared.ConfigNo.{ConfigNo}
use Rattle.ndis_base.specs.declared.Direction.{Direction}
use Rattle.ndis_base.specs.declared.Origin.{Origin}
use Rattle.journal_types.specs.declared.Handler.{Handler}
use Rattle.journal_types.specs.declared.PassWay.{PassWay}
use Rattle.journal_types.specs.declared.Target.{Target}
use Rattle.journal_types.specs.declared.OutWay.TheVariants as out
use Rattle.journal_types.specs.declared.Row.TheVariants as row
use Rattle.stack_rules.specs.declared.LiveList.{LiveList}
use Rattle.stack_rules.specs.declared.Stand.TheVariants as stand
use Rattle.stack_rules.specs.Net.{Net, after, lists, list_of, had_by, taken_by, as_passed, as_kept}
use Rattle.rule_basics.specs.Live.{is_live, others, retouched, with_last, KeepsNumber}
use Rattle.rule_basics.proofs.Lists.{lists-append, lists-without, lists-changed, lists-kept, lists-passed}
use Rattle.rule_basics.proofs.Lives.{find_is, is_live-others}
use Rattle.pause_laws.proofs.Lists.{found-touched, none-touched, found-last, found-moved, gone}

-- the live list of a number
abbrev pub look : Net → ℕ → Option LiveList
look net n = list_of n (lists net.things)

-- the list of one number is now this one, and the others are as they were
pub record IsUpdate (net next : Net) (n : ℕ) (o : Option LiveList) : Type 0 where
  pub here : look next n ≡ o
  pub others : (m : ℕ) → (n == m) ≡ false → look next m ≡ look net m

-- a list on its way, and a kept one
abbrev pub passing : PassWay → Target → LiveList → LiveList
passing way to l = record l { stand = stand.Passed way to; crossed = None }

abbrev pub keeping : ModuleId → LiveList → LiveList
keeping m l = record l { last = m; stand = stand.Kept m }

apart : (x n m : ℕ) → (x == n) ≡ true → (n == m) ≡ false → (x == m) ≡ false
apart x n m t h = grind (arith, nat_tests)

found-apart : (n m : ℕ) (ls : List LiveList) → (n == m) ≡ false → list_of m (others n ls) ≡ list_of m ls
found-apart n m [] h = refl
found-apart n m (x ∷ ls) h =
    let rest : list_of m (others n ls) ≡ list_of m ls = found-apart n m ls h in
    let cases : (b : Bool) → (x.list.0 == n) ≡ b → list_of m (cond (not b) (x ∷ others n ls) (others n ls)) ≡ cond (x.list.0 == m) (Some x) (list_of m ls) = elim [
      | true ↦ λ t. let other : (x.list.0 == m) ≡ false = apart x.list.0 n m t h in rest ∙ rw other refl
      | false ↦ λ t. rw rest refl
    ] in
    cases (x.list.0 == n) refl

found-other : (n m : ℕ) (g : LiveList → LiveList) → KeepsNumber g → (ls : List LiveList) → (n == m) ≡ false → list_of m (retouched n g ls) ≡ list_of m ls
found-other n m g k [] h = refl
found-other n m g k (x ∷ ls) h =
    let rest : list_of m (retouched n g ls) ≡ list_of m ls = found-other n m g k ls h in
    let cases : (b : Bool) → (x.list.0 == n) ≡ b → list_of m (cond b (g x) x ∷ retouched n g ls) ≡ cond (x.list.0 == m) (Some x) (list_of m ls) = elim [
      | true ↦ λ t.
          let here : (x.list.0 == m) ≡ false = apart x.list.0 n m t h in
          let there : ((g x).list.0 == m) ≡ false = ap (λ i. i == m) (k x) ∙ here in
          rw (there, here) rest
      | false ↦ λ t. rw rest refl
    ] in
    cases (x.list.0 == n) refl

found-before : (m : ℕ) (ls : List LiveList) (l : LiveList) → (l.list.0 == m) ≡ false → list_of m (ls ++ l ∷ []) ≡ list_of m ls
found-before m [] l h = rw h refl
found-before m (x ∷ ls) l h = ap (cond (x.list.0 == m) (Some x)) (found-before m ls l h)

absent : (n : ℕ) (ls : List LiveList) → is_live n (others n ls) ≡ false
absent n ls = is_live-others n n ls ∙ same n (is_live n ls)
  where
    same : (n : ℕ) (b : Bool) → (not (n == n) && b) ≡ false
    same n b = grind (arith, nat_tests)

-- a list moves to the end
moved : (n : ℕ) (ls : List LiveList) (g : LiveList → LiveList) → KeepsNumber g → (o : Option LiveList) → list_of n ls ≡ o → list_of n (with_last (others n ls) (option_map g o)) ≡ option_map g o
moved n ls g k None e = gone n ls
moved n ls g k (Some x) e = found-last n (others n ls) (g x) (k x ∙ (find_is n ls x e).0) (absent n ls)

moved-other : (n m : ℕ) (ls : List LiveList) (g : LiveList → LiveList) → KeepsNumber g → (n == m) ≡ false → (o : Option LiveList) → list_of n ls ≡ o → list_of m (with_last (others n ls) (option_map g o)) ≡ list_of m ls
moved-other n m ls g k h None e = found-apart n m ls h
moved-other n m ls g k h (Some x) e = found-moved n m ls (g x) h (k x ∙ (find_is n ls x e).0)

-- a list is changed in its place
touched : (n : ℕ) (ls : List LiveList) (g : LiveList → LiveList) → KeepsNumber g → (o : Option LiveList) → list_of n ls ≡ o → list_of n (retouched n g ls) ≡ option_map g o
touched n ls g k None e = none-touched n g k ls e
touched n ls g k (Some x) e = found-touched n g k ls x e

passed_map : (way : PassWay) (to : Target) (o : Option LiveList) → as_passed way to o ≡ option_map (passing way to) o
passed_map way to None = refl
passed_map way to (Some x) = refl

kept_map : (m : ModuleId) (o : Option LiveList) → as_kept m o ≡ option_map (keeping m) o
kept_map m None = refl
kept_map m (Some x) = refl

pub look_pass : (net : Net) (list : ListNo) (way : PassWay) (to : Target) → IsUpdate net (after net (row.Pass list way to)) list.0 (option_map (passing way to) (look net list.0))
look_pass net list way to = record {
  here = ap (list_of list.0) now ∙ moved list.0 (lists net.things) (passing way to) (λ x. refl) (look net list.0) refl;
  others = λ m h. ap (list_of m) now ∙ moved-other list.0 m (lists net.things) (passing way to) (λ x. refl) h (look net list.0) refl;
}
  where
    now : lists (after net (row.Pass list way to)).things ≡ with_last (others list.0 (lists net.things)) (option_map (passing way to) (look net list.0))
    now = lists-passed list.0 way to net.things ∙ ap (with_last (others list.0 (lists net.things))) (passed_map way to (look net list.0))

pub look_keep : (net : Net) (list : ListNo) (by : ModuleId) → IsUpdate net (after net (row.Keep list by)) list.0 (option_map (keeping by) (look net list.0))
look_keep net list by = record {
  here = ap (list_of list.0) now ∙ moved list.0 (lists net.things) (keeping by) (λ x. refl) (look net list.0) refl;
  others = λ m h. ap (list_of m) now ∙ moved-other list.0 m (lists net.things) (keeping by) (λ x. refl) h (look net list.0) refl;
}
  where
    now : lists (after net (row.Keep list by)).things ≡ with_last (others list.0 (lists net.things)) (option_map (keeping by) (look net list.0))
    now = lists-kept list.0 by net.things ∙ ap (with_last (others list.0 (lists net.things))) (kept_map by (look net list.0))

pub look_give : (net : Net) (list : ListNo) (by : ModuleId) (handler : Handler) → IsUpdate net (after net (row.Give list by handler)) list.0 (option_map (had_by by) (look net list.0))
look_give net list by handler = record {
  here = ap (list_of list.0) (lists-changed list.0 (had_by by) net.things) ∙ touched list.0 (lists net.things) (had_by by) (λ x. refl) (look net list.0) refl;
  others = λ m h. ap (list_of m) (lists-changed list.0 (had_by by) net.things) ∙ found-other list.0 m (had_by by) (λ x. refl) (lists net.things) h;
}

pub look_back : (net : Net) (list : ListNo) (by : ModuleId) (status : ListStatus) → IsUpdate net (after net (row.TurnBack list by status)) list.0 (option_map (had_by by) (look net list.0))
look_back net list by status = record {
  here = ap (list_of list.0) (lists-changed list.0 (had_by by) net.things) ∙ touched list.0 (lists net.things) (had_by by) (λ x. refl) (look net list.0) refl;
  others = λ m h. ap (list_of m) (lists-changed list.0 (had_by by) net.things) ∙ found-other list.0 m (had_by by) (λ x. refl) (lists net.things) h;
}

pub look_out : (net : Net) (message : CrossNo) (list : ListNo) (frames : List (List ℕ)) → IsUpdate net (after net (row.CrossOut message (out.Down list) frames)) list.0 (option_map (taken_by message.0) (look net list.0))
look_out net message list frames = record {
  here = ap (list_of list.0) (lists-changed list.0 (taken_by message.0) net.things) ∙ touched list.0 (lists net.things) (taken_by message.0) (λ x. refl) (look net list.0) refl;
  others = λ m h. ap (list_of m) (lists-changed list.0 (taken_by message.0) net.things) ∙ found-other list.0 m (taken_by message.0) (λ x. refl) (lists net.things) h;
}

pub look_home : (net : Net) (list : ListNo) (owner : ModuleId) (status : ListStatus) → IsUpdate net (after net (row.Home list owner status)) list.0 None
look_home net list owner status = record {
  here = ap (list_of list.0) (lists-without list.0 net.things) ∙ gone list.0 (lists net.things);
  others = λ m h. ap (list_of m) (lists-without list.0 net.things) ∙ found-apart list.0 m (lists net.things) h;
}

-- a list that is just issued
abbrev pub issued : ListNo → ModuleId → Direction → Option ℕ → Origin → List (List ℕ) → LiveList
issued list owner direction cancel origin frames = record {
  list = list;
  owner = owner;
  direction = direction;
  cancel = cancel;
  origin = origin;
  frames = frames;
  last = owner;
  stand = stand.Unplaced;
  crossed = None;
}

pub look_issue : (net : Net) (list : ListNo) (owner : ModuleId) (config : ConfigNo) (way_of : Direction) (cancel : Option ℕ) (origin : Origin) (frames : List (List ℕ)) → is_live list.0 (lists net.things) ≡ false →
    IsUpdate net (after net (row.Issue list owner config way_of cancel origin frames)) list.0 (Some (issued list owner way_of cancel origin frames))
look_issue net list owner config way_of cancel origin frames a = record {
  here = ap (list_of list.0) (lists-append net.things _) ∙ found-last list.0 (lists net.things) (issued list owner way_of cancel origin frames) refl a;
  others = λ m h. ap (list_of m) (lists-append net.things _) ∙ found-before m (lists net.things) (issued list owner way_of cancel origin frames) h;
}

-- a number that finds nothing isn't live
pub not_live : (n : ℕ) (ls : List LiveList) → list_of n ls ≡ None → is_live n ls ≡ false
not_live n [] h = refl
not_live n (x ∷ ls) h = grind (arith, nat_tests, not_live n ls)
