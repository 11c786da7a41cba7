-- A list that is ready is turned back: which other lists wait stays the same.
use Rattle.std.proofs.Common.{◌≡◌, ℕ, ◌==◌, ◌||◌, not, Bool, true, false, cond, List, [], ◌∷◌, Option, Some, None, option_map, refl, sym, ap, ◌∙◌, subst, arith, eqb-true}
use Rattle.std.proofs.lemmas.Bool.Decides.{nat_tests}
use Rattle.std.proofs.lemmas.List.Folds.{list_any-append}
use Rattle.ndis_base.specs.declared.ModuleId.{ModuleId}
use Rattle.ndis_base.specs.declared.ListNo.{ListNo}
use Rattle.ndis_base.specs.declared.ListStatus.{ListStatus}
use Rattle.journal_types.specs.declared.PassWay.{PassWay}
use Rattle.journal_types.specs.declared.Target.{Target}
use Rattle.journal_types.specs.declared.Row.TheVariants as row
use Rattle.stack_rules.specs.declared.LiveList.{LiveList}
use Rattle.stack_rules.specs.Net.{Net, after, lists, list_of, had_by, as_passed}
use Rattle.stack_rules.specs.Places.{is_clone_of, has_clone}
use Rattle.rule_basics.specs.Live.{is_live, IsApart, others, touched, retouched, with_last}
use Rattle.rule_basics.specs.Numbers.{IsNumbered}
use Rattle.rule_basics.proofs.Apart.{others-absent}
use Rattle.rule_basics.proofs.Lists.{lists-changed, lists-passed}
use Rattle.place_laws.proofs.Looks.{look, passing, look_pass, look_back}
use Rattle.work_laws.proofs.Clones.{any_clone, none_out}
use Rattle.agenda_items.specs.Waits.{crossed_at, waits_at}

-- Clones: they stay live, wherever they go.

touched_origin : (k m : ℕ) (by : ModuleId) (l : LiveList) → is_clone_of k (touched m (had_by by) l).origin ≡ is_clone_of k l.origin
touched_origin k m by l = elim (l.list.0 == m) as (λ b. is_clone_of k (cond b (had_by by l) l).origin ≡ is_clone_of k l.origin) [ true ↦ refl | false ↦ refl ]

retouched_any : (k m : ℕ) (by : ModuleId) (ls : List LiveList) → any_clone k (retouched m (had_by by) ls) ≡ any_clone k ls
retouched_any k m by [] = refl
retouched_any k m by (x ∷ ls) = ap (λ b. b || any_clone k (retouched m (had_by by) ls)) (touched_origin k m by x) ∙ ap (λ b. is_clone_of k x.origin || b) (retouched_any k m by ls)

some_same : (x l : LiveList) → Some x ≡ Some l → x ≡ l
some_same x l f = cc

moved_any : (k m : ℕ) (ls : List LiveList) (l : LiveList) → IsApart ls → list_of m ls ≡ Some l → (any_clone k (others m ls) || is_clone_of k l.origin) ≡ any_clone k ls
moved_any k m [] l a f = cc
moved_any k m (x ∷ ls) l a f =
    let cases : (b : Bool) → (x.list.0 == m) ≡ b → cond b (Some x) (list_of m ls) ≡ Some l → (any_clone k (cond (not b) (x ∷ others m ls) (others m ls)) || is_clone_of k l.origin) ≡ (is_clone_of k x.origin || any_clone k ls) = elim [
      | true ↦ λ t f.
          let absent : is_live m ls ≡ false = grind (arith, nat_tests) in
          ap (λ ys. any_clone k ys || is_clone_of k l.origin) (others-absent m ls absent)
          ∙ ap (λ (y : LiveList). any_clone k ls || is_clone_of k y.origin) (sym (some_same x l f))
          ∙ turned (any_clone k ls) (is_clone_of k x.origin)
      | false ↦ λ t f. grouped (is_clone_of k x.origin) (any_clone k (others m ls)) (is_clone_of k l.origin) ∙ ap (λ b. is_clone_of k x.origin || b) (moved_any k m ls l a.1 f)
    ] in
    cases (x.list.0 == m) refl f
  where
    turned : (a b : Bool) → (a || b) ≡ (b || a)
    turned true true = refl
    turned true false = refl
    turned false true = refl
    turned false false = refl

    grouped : (a b c : Bool) → ((a || b) || c) ≡ (a || (b || c))
    grouped true b c = refl
    grouped false b c = refl

last_any : (a b : Bool) → (a || (b || false)) ≡ (a || b)
last_any true b = refl
last_any false true = refl
last_any false false = refl

clones_pass : (net : Net) (n : ListNo) (way : PassWay) (to : Target) → IsNumbered net → (k : ℕ) → has_clone (after net (row.Pass n way to)) k ≡ has_clone net k
clones_pass net n way to h k = ap (any_clone k) (lists-passed n.0 way to net.things) ∙ by (look net n.0) refl
  where
    by : (o : Option LiveList) → look net n.0 ≡ o → any_clone k (with_last (others n.0 (lists net.things)) (as_passed way to o)) ≡ any_clone k (lists net.things)
    by None e = ap (any_clone k) (none_out n.0 (lists net.things) e)
    by (Some l) e =
        list_any-append (λ x. is_clone_of k x.origin) (others n.0 (lists net.things)) (passing way to l ∷ [])
        ∙ last_any (any_clone k (others n.0 (lists net.things))) (is_clone_of k l.origin)
        ∙ moved_any k n.0 (lists net.things) l h.apart e

clones_back : (net : Net) (n : ListNo) (m : ModuleId) (status : ListStatus) (k : ℕ) → has_clone (after net (row.TurnBack n m status)) k ≡ has_clone net k
clones_back net n m status k = ap (any_clone k) (lists-changed n.0 (had_by m) net.things) ∙ retouched_any k n.0 m (lists net.things)

-- Crossings: no list comes to cross, and one that is passed doesn't.

had_crossed : (m : ModuleId) (o : Option LiveList) → crossed_at (option_map (had_by m) o) ≡ crossed_at o
had_crossed m None = refl
had_crossed m (Some l) = refl

none_crossed : (way : PassWay) (to : Target) (o : Option LiveList) → crossed_at (option_map (passing way to) o) ≡ false
none_crossed way to None = refl
none_crossed way to (Some l) = refl

crossed_back : (net : Net) (n : ListNo) (m : ModuleId) (status : ListStatus) (k : ℕ) → crossed_at (look (after net (row.TurnBack n m status)) k) ≡ crossed_at (look net k)
crossed_back net n m status k = by (n.0 == k) refl
  where
    by : (b : Bool) → (n.0 == k) ≡ b → crossed_at (look (after net (row.TurnBack n m status)) k) ≡ crossed_at (look net k)
    by true t =
        subst (λ i. crossed_at (look (after net (row.TurnBack n m status)) i) ≡ crossed_at (look net i)) (eqb-true n.0 k t)
        (ap crossed_at (look_back net n m status).here ∙ had_crossed m (look net n.0))
    by false t = ap crossed_at ((look_back net n m status).others k t)

crossed_pass : (net : Net) (n : ListNo) (way : PassWay) (to : Target) → crossed_at (look net n.0) ≡ false → (k : ℕ) → crossed_at (look (after net (row.Pass n way to)) k) ≡ crossed_at (look net k)
crossed_pass net n way to free k = by (n.0 == k) refl
  where
    by : (b : Bool) → (n.0 == k) ≡ b → crossed_at (look (after net (row.Pass n way to)) k) ≡ crossed_at (look net k)
    by true t =
        subst (λ i. crossed_at (look (after net (row.Pass n way to)) i) ≡ crossed_at (look net i)) (eqb-true n.0 k t)
        (ap crossed_at (look_pass net n way to).here ∙ none_crossed way to (look net n.0) ∙ sym free)
    by false t = ap crossed_at ((look_pass net n way to).others k t)

-- so which lists wait stays the same
pub waits_back : (net : Net) (n : ListNo) (m : ModuleId) (status : ListStatus) (k : ℕ) → waits_at (after net (row.TurnBack n m status)) k ≡ waits_at net k
waits_back net n m status k =
    ap (λ b. b || has_clone (after net (row.TurnBack n m status)) k) (crossed_back net n m status k)
    ∙ ap (λ b. crossed_at (look net k) || b) (clones_back net n m status k)

uncrossed : (a b : Bool) → (a || b) ≡ false → a ≡ false
uncrossed true b h = cc
uncrossed false b h = refl

pub waits_pass : (net : Net) (n : ListNo) (way : PassWay) (to : Target) → IsNumbered net → waits_at net n.0 ≡ false → (k : ℕ) → waits_at (after net (row.Pass n way to)) k ≡ waits_at net k
waits_pass net n way to h ready k =
    ap (λ b. b || has_clone (after net (row.Pass n way to)) k) (crossed_pass net n way to (uncrossed (crossed_at (look net n.0)) (has_clone net n.0) ready) k)
    ∙ ap (λ b. crossed_at (look net k) || b) (clones_pass net n way to h k)
