-- What holds of each live list.
use Rattle.std.proofs.Common.{◌≡◌, ℕ, ◌==◌, not, Bool, true, false, cond, List, [], ◌∷◌, ◌++◌, Some, refl, arith, sym, subst}
use Rattle.std.proofs.lemmas.Bool.Decides.{nat_tests}
use Rattle.stack_rules.specs.declared.LiveList.{LiveList}
use Rattle.stack_rules.specs.Net.{list_of}
use Rattle.rule_basics.specs.Live.{IsApart, Each, others, retouched}
use Rattle.rule_basics.proofs.Apart.{retouched-absent}

pub Each-append : (P : LiveList → Type 0) (ls : List LiveList) (l : LiveList) → Each P ls → P l → Each P (ls ++ l ∷ [])
Each-append P [] l h p = (p, tt)
Each-append P (x ∷ ls) l h p = (h.0, Each-append P ls l h.1 p)

pub Each-others : (P : LiveList → Type 0) (n : ℕ) (ls : List LiveList) → Each P ls → Each P (others n ls)
Each-others P n [] h = tt
Each-others P n (x ∷ ls) h =
    elim (x.list.0 == n) as (λ b. Each P (cond (not b) (x ∷ others n ls) (others n ls))) [
      | true ↦ Each-others P n ls h.1
      | false ↦ (h.0, Each-others P n ls h.1)
    ]

pub Each-found : (P : LiveList → Type 0) (n : ℕ) (ls : List LiveList) (l : LiveList) → Each P ls → list_of n ls ≡ Some l → P l
Each-found P n [] l h f = cc
Each-found P n (x ∷ ls) l h f =
    let cases : (b : Bool) → cond b (Some x) (list_of n ls) ≡ Some l → P l = elim [
      | true ↦ λ f. subst P (some_same x l f) h.0
      | false ↦ λ f. Each-found P n ls l h.1 f
    ] in
    cases (x.list.0 == n) f
  where
    some_same : (x l : LiveList) → Some x ≡ Some l → x ≡ l
    some_same x l f = cc

pub Each-implies : (P Q : LiveList → Type 0) → ((l : LiveList) → P l → Q l) → (ls : List LiveList) → Each P ls → Each Q ls
Each-implies P Q f [] h = tt
Each-implies P Q f (x ∷ ls) h = (f x h.0, Each-implies P Q f ls h.1)

-- one list may change, where what is asked of it holds
pub Each-retouched : (P : LiveList → Type 0) (n : ℕ) (g : LiveList → LiveList) (ls : List LiveList) → IsApart ls → Each P ls → ((l : LiveList) → list_of n ls ≡ Some l → P (g l)) → Each P (retouched n g ls)
Each-retouched P n g [] a h f = tt
Each-retouched P n g (x ∷ ls) a h f =
    let cases : (b : Bool) → (x.list.0 == n) ≡ b → ((l : LiveList) → cond b (Some x) (list_of n ls) ≡ Some l → P (g l)) → Each P (cond b (g x) x ∷ retouched n g ls) = elim [
      | true ↦ λ t f. (f x refl, subst (Each P) (sym (retouched-absent n g ls (grind (arith, nat_tests)))) h.1)
      | false ↦ λ t f. (h.0, Each-retouched P n g ls a.1 h.1 f)
    ] in
    cases (x.list.0 == n) refl f
