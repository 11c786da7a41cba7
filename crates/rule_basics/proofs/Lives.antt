-- Which numbers are live after each change of the live lists.
use Rattle.std.proofs.Common.{◌≡◌, ℕ, ◌==◌, ◌||◌, ◌&&◌, not, true, false, List, [], ◌∷◌, ◌++◌, Option, Some, None, refl, arith}
use Rattle.std.proofs.lemmas.Bool.Decides.{nat_tests}
use Rattle.ndis_base.specs.declared.ModuleId.{ModuleId}
use Rattle.journal_types.specs.declared.PassWay.{PassWay}
use Rattle.journal_types.specs.declared.Target.{Target}
use Rattle.stack_rules.specs.declared.LiveList.{LiveList}
use Rattle.stack_rules.specs.declared.Stand.TheVariants as stand
use Rattle.stack_rules.specs.Net.{list_of, as_kept, as_passed}
use Rattle.rule_basics.specs.Live.{is_live, others, touched, retouched, with_last, KeepsNumber}

pub is_live-append : (n : ℕ) (ls : List LiveList) (l : LiveList) → is_live n (ls ++ l ∷ []) ≡ (is_live n ls || (l.list.0 == n))
is_live-append n [] l = grind (arith, nat_tests)
is_live-append n (x ∷ ls) l = grind (arith, nat_tests, is_live-append n ls l)

pub is_live-others : (n m : ℕ) (ls : List LiveList) → is_live n (others m ls) ≡ (not (m == n) && is_live n ls)
is_live-others n m [] = grind (arith, nat_tests)
is_live-others n m (x ∷ ls) = grind (arith, nat_tests, is_live-others n m ls)

pub number-touched : (m : ℕ) (f : LiveList → LiveList) → KeepsNumber f → (x : LiveList) → (touched m f x).list.0 ≡ x.list.0
number-touched m f k x = grind (arith, nat_tests, k x)

pub is_live-retouched : (n m : ℕ) (f : LiveList → LiveList) → KeepsNumber f → (ls : List LiveList) → is_live n (retouched m f ls) ≡ is_live n ls
is_live-retouched n m f k [] = refl
is_live-retouched n m f k (x ∷ ls) = rw (number-touched m f k x) (rw (is_live-retouched n m f k ls) refl)

-- what is found is live and has the number
pub find_is : (n : ℕ) (ls : List LiveList) (l : LiveList) → list_of n ls ≡ Some l → (l.list.0 ≡ n) × (is_live n ls ≡ true)
find_is n [] l h = cc
find_is n (x ∷ ls) l h = grind (arith, nat_tests, find_is n ls l)

pub find_none : (n : ℕ) (ls : List LiveList) → list_of n ls ≡ None → is_live n ls ≡ false
find_none n [] h = refl
find_none n (x ∷ ls) h = grind (arith, nat_tests, find_none n ls)

-- a list that is moved to the end by a function that keeps its number
live_at_end : (n m : ℕ) (ls : List LiveList) (found : Option LiveList) (change : Option LiveList → Option LiveList) → change None ≡ None → (to : (l : LiveList) → (k : LiveList) × (change (Some l) ≡ Some k) × (k.list.0 ≡ l.list.0)) → list_of m ls ≡ found → is_live n (with_last (others m ls) (change found)) ≡ is_live n ls
live_at_end n m ls None change c to h = rw c (rw (is_live-others n m ls) (grind (arith, nat_tests, find_none m ls h)))
live_at_end n m ls (Some l) change c to h =
    rw (to l).1 (rw (is_live-append n (others m ls) (to l).0) (rw (is_live-others n m ls) (grind (arith, nat_tests, find_is m ls l h, (to l).2))))

-- moving a list to the end changes no number
pub is_live-kept : (n m : ℕ) (by : ModuleId) (ls : List LiveList) → is_live n (with_last (others m ls) (as_kept by (list_of m ls))) ≡ is_live n ls
is_live-kept n m by ls = live_at_end n m ls (list_of m ls) (as_kept by) refl (λ l. (record l { last = by; stand = stand.Kept by }, refl, refl)) refl

pub is_live-passed : (n m : ℕ) (way : PassWay) (to : Target) (ls : List LiveList) → is_live n (with_last (others m ls) (as_passed way to (list_of m ls))) ≡ is_live n ls
is_live-passed n m way to ls = live_at_end n m ls (list_of m ls) (as_passed way to) refl (λ l. (record l { stand = stand.Passed way to; crossed = None }, refl, refl)) refl
