-- The numbers of live lists differ after each change.
use Rattle.std.proofs.Common.{◌≡◌, ℕ, ◌==◌, ◌&&◌, not, Bool, true, false, cond, List, [], ◌∷◌, ◌++◌, Option, Some, None, refl, arith}
use Rattle.std.proofs.lemmas.Bool.Decides.{nat_tests}
use Rattle.ndis_base.specs.declared.ModuleId.{ModuleId}
use Rattle.journal_types.specs.declared.PassWay.{PassWay}
use Rattle.journal_types.specs.declared.Target.{Target}
use Rattle.stack_rules.specs.declared.LiveList.{LiveList}
use Rattle.stack_rules.specs.declared.Stand.TheVariants as stand
use Rattle.stack_rules.specs.Net.{list_of, as_kept, as_passed}
use Rattle.rule_basics.specs.Live.{is_live, IsApart, others, retouched, with_last, KeepsNumber}
use Rattle.rule_basics.proofs.Lives.{is_live-append, is_live-others, is_live-retouched, number-touched, find_is}

pub IsApart-append : (ls : List LiveList) (l : LiveList) → IsApart ls → is_live l.list.0 ls ≡ false → IsApart (ls ++ l ∷ [])
IsApart-append [] l h p = (refl, tt)
IsApart-append (x ∷ ls) l h p =
    (rw (is_live-append x.list.0 ls l) (grind (arith, nat_tests)), IsApart-append ls l h.1 (grind (arith, nat_tests)))

pub IsApart-others : (n : ℕ) (ls : List LiveList) → IsApart ls → IsApart (others n ls)
IsApart-others n [] h = tt
IsApart-others n (x ∷ ls) h =
    let head : is_live x.list.0 (others n ls) ≡ false = rw (is_live-others x.list.0 n ls) (grind (arith, nat_tests)) in
    elim (x.list.0 == n) as (λ b. IsApart (cond (not b) (x ∷ others n ls) (others n ls))) [
      | true ↦ IsApart-others n ls h.1
      | false ↦ (head, IsApart-others n ls h.1)
    ]

pub IsApart-retouched : (n : ℕ) (f : LiveList → LiveList) → KeepsNumber f → (ls : List LiveList) → IsApart ls → IsApart (retouched n f ls)
IsApart-retouched n f k [] h = tt
IsApart-retouched n f k (x ∷ ls) h =
    (rw (number-touched n f k x) (rw (is_live-retouched x.list.0 n f k ls) h.0), IsApart-retouched n f k ls h.1)

-- a list that was taken out is there no more
pub taken_absent : (n : ℕ) (ls : List LiveList) (l : LiveList) → list_of n ls ≡ Some l → is_live l.list.0 (others n ls) ≡ false
taken_absent n ls l h = rw is_live-others (absent l.list.0 n (is_live l.list.0 ls) (find_is n ls l h).0)
  where
    absent : (m n : ℕ) (b : Bool) → m ≡ n → (not (n == m) && b) ≡ false
    absent m n b h = grind (arith, nat_tests)

pub others-absent : (n : ℕ) (ls : List LiveList) → is_live n ls ≡ false → others n ls ≡ ls
others-absent n [] h = refl
others-absent n (x ∷ ls) h = grind (arith, nat_tests, others-absent n ls)

pub retouched-absent : (n : ℕ) (f : LiveList → LiveList) (ls : List LiveList) → is_live n ls ≡ false → retouched n f ls ≡ ls
retouched-absent n f [] h = refl
retouched-absent n f (x ∷ ls) h = grind (arith, nat_tests, retouched-absent n f ls)

-- moving a list to the end
apart_at_end : (n : ℕ) (ls : List LiveList) (found : Option LiveList) (change : Option LiveList → Option LiveList) → change None ≡ None → (to : (l : LiveList) → (k : LiveList) × (change (Some l) ≡ Some k) × (k.list.0 ≡ l.list.0)) → list_of n ls ≡ found → IsApart ls → IsApart (with_last (others n ls) (change found))
apart_at_end n ls None change c to h a = rw c (IsApart-others n ls a)
apart_at_end n ls (Some l) change c to h a =
    rw (to l).1 (IsApart-append (others n ls) (to l).0 (IsApart-others n ls a) (rw (to l).2 (taken_absent n ls l h)))

pub IsApart-kept : (n : ℕ) (m : ModuleId) (ls : List LiveList) → IsApart ls → IsApart (with_last (others n ls) (as_kept m (list_of n ls)))
IsApart-kept n m ls a = apart_at_end n ls (list_of n ls) (as_kept m) refl (λ l. (record l { last = m; stand = stand.Kept m }, refl, refl)) refl a

pub IsApart-passed : (n : ℕ) (way : PassWay) (to : Target) (ls : List LiveList) → IsApart ls → IsApart (with_last (others n ls) (as_passed way to (list_of n ls)))
IsApart-passed n way to ls a = apart_at_end n ls (list_of n ls) (as_passed way to) refl (λ l. (record l { stand = stand.Passed way to; crossed = None }, refl, refl)) refl a
