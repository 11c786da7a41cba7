-- What is clear of the paused positions stays so: lists that come, change, go, and one in a module's hand.
use Rattle.std.proofs.Common.{◌≡◌, ℕ, ◌+◌, ◌<◌, ◌==◌, ◌&&◌, not, Bool, true, false, cond, List, [], ◌∷◌, ◌++◌, Option, Some, None, refl, arith, ap, sym, subst, ◌∙◌}
use Rattle.std.proofs.lemmas.Bool.Decides.{nat_tests}
use Rattle.stack_rules.specs.declared.LiveList.{LiveList}
use Rattle.stack_rules.specs.Net.{Modules, list_of}
use Rattle.rule_basics.specs.Live.{is_live, others, retouched, with_last, KeepsNumber}
use Rattle.rule_basics.proofs.Lives.{find_is, is_live-others}
use Rattle.rule_basics.proofs.Apart.{IsApart-append, IsApart-others, IsApart-retouched}
use Rattle.rule_basics.proofs.Each.{Each-append, Each-others, Each-found, Each-implies, Each-retouched}
use Rattle.rule_basics.proofs.Numbered.{below_absent}
use Rattle.pause_laws.specs.Clear.{IsClear, AreClear}

pub same_found : (o : Option LiveList) (x y : LiveList) → o ≡ Some x → o ≡ Some y → x ≡ y
same_found o x y h k = cc

pub not_both : (b : Bool) → b ≡ true → b ≡ false → ⊥
not_both b h k = cc

-- what is found after a change
pub found-touched : (n : ℕ) (g : LiveList → LiveList) → KeepsNumber g → (ls : List LiveList) (l : LiveList) → list_of n ls ≡ Some l → list_of n (retouched n g ls) ≡ Some (g l)
found-touched n g k [] l h = cc
found-touched n g k (x ∷ ls) l h =
    let cases : (b : Bool) → (x.list.0 == n) ≡ b → cond b (Some x) (list_of n ls) ≡ Some l → list_of n (cond b (g x) x ∷ retouched n g ls) ≡ Some (g l) = elim [
      | true ↦ λ t h.
          let same : x ≡ l = cc in
          let at : ((g x).list.0 == n) ≡ true = ap (λ i. i == n) (k x) ∙ t in
          rw at (ap (λ y. Some (g y)) same)
      | false ↦ λ t h. rw t (found-touched n g k ls l h)
    ] in
    cases (x.list.0 == n) refl h

pub others-touched : (n : ℕ) (g : LiveList → LiveList) → KeepsNumber g → (ls : List LiveList) → others n (retouched n g ls) ≡ others n ls
others-touched n g k [] = refl
others-touched n g k (x ∷ ls) =
    let rest : others n (retouched n g ls) ≡ others n ls = others-touched n g k ls in
    let cases : (b : Bool) → (x.list.0 == n) ≡ b → others n (cond b (g x) x ∷ retouched n g ls) ≡ cond (not b) (x ∷ others n ls) (others n ls) = elim [
      | true ↦ λ t. let at : ((g x).list.0 == n) ≡ true = ap (λ i. i == n) (k x) ∙ t in rw at rest
      | false ↦ λ t. rw t (ap (λ ys. x ∷ ys) rest)
    ] in
    cases (x.list.0 == n) refl

pub none-touched : (n : ℕ) (g : LiveList → LiveList) → KeepsNumber g → (ls : List LiveList) → list_of n ls ≡ None → list_of n (retouched n g ls) ≡ None
none-touched n g k [] h = refl
none-touched n g k (x ∷ ls) h = grind (arith, nat_tests, k x, none-touched n g k ls)

pub found-append : (n : ℕ) (ls : List LiveList) (l x : LiveList) → list_of n ls ≡ Some l → list_of n (ls ++ x ∷ []) ≡ Some l
found-append n [] l x h = cc
found-append n (y ∷ ls) l x h = grind (arith, nat_tests, found-append n ls l x)

pub found-last : (n : ℕ) (ls : List LiveList) (l : LiveList) → l.list.0 ≡ n → is_live n ls ≡ false → list_of n (ls ++ l ∷ []) ≡ Some l
found-last n [] l e h = grind (arith, nat_tests)
found-last n (x ∷ ls) l e h = grind (arith, nat_tests, found-last n ls l)

pub others-append : (n : ℕ) (ls : List LiveList) (l : LiveList) → (l.list.0 == n) ≡ false → others n (ls ++ l ∷ []) ≡ others n ls ++ l ∷ []
others-append n [] l h = rw h refl
others-append n (x ∷ ls) l h =
    elim (x.list.0 == n) as (λ b. cond (not b) (x ∷ others n (ls ++ l ∷ [])) (others n (ls ++ l ∷ [])) ≡ cond (not b) (x ∷ others n ls) (others n ls) ++ l ∷ []) [
      | true ↦ others-append n ls l h
      | false ↦ ap (λ ys. x ∷ ys) (others-append n ls l h)
    ]

pub others-last : (n : ℕ) (ls : List LiveList) (l : LiveList) → l.list.0 ≡ n → is_live n ls ≡ false → others n (ls ++ l ∷ []) ≡ ls
others-last n [] l e h = grind (arith, nat_tests)
others-last n (x ∷ ls) l e h =
    let other : (x.list.0 == n) ≡ false = grind (arith, nat_tests) in
    let rest : is_live n ls ≡ false = grind (arith, nat_tests) in
    rw other (ap (λ ys. x ∷ ys) (others-last n ls l e rest))

-- a list of another number, after one has been moved to the end
pub found-moved : (n m : ℕ) (ls : List LiveList) (k : LiveList) → (n == m) ≡ false → k.list.0 ≡ n → list_of m (with_last (others n ls) (Some k)) ≡ list_of m ls
found-moved n m [] k h e = grind (arith, nat_tests)
found-moved n m (x ∷ ls) k h e =
    let rest : list_of m (others n ls ++ k ∷ []) ≡ list_of m ls = found-moved n m ls k h e in
    let cases : (b : Bool) → (x.list.0 == n) ≡ b → list_of m (cond (not b) (x ∷ others n ls) (others n ls) ++ k ∷ []) ≡ cond (x.list.0 == m) (Some x) (list_of m ls) = elim [
      | true ↦ λ t. let other : (x.list.0 == m) ≡ false = apart x.list.0 n m t h in rest ∙ rw other refl
      | false ↦ λ t. rw rest refl
    ] in
    cases (x.list.0 == n) refl
  where
    apart : (x n m : ℕ) → (x == n) ≡ true → (n == m) ≡ false → (x == m) ≡ false
    apart x n m t h = grind (arith, nat_tests)

pub gone : (n : ℕ) (ls : List LiveList) → list_of n (others n ls) ≡ None
gone n [] = refl
gone n (x ∷ ls) = grind (arith, nat_tests, gone n ls)

-- what is left when another has gone was there
pub found-others : (n m : ℕ) (ls : List LiveList) (l : LiveList) → list_of m (others n ls) ≡ Some l → list_of m ls ≡ Some l
found-others n m [] l h = h
found-others n m (x ∷ ls) l h =
    let cases : (b : Bool) → (x.list.0 == n) ≡ b → list_of m (cond (not b) (x ∷ others n ls) (others n ls)) ≡ Some l → cond (x.list.0 == m) (Some x) (list_of m ls) ≡ Some l = elim [
      | true ↦ λ t h.
          let rest : list_of m ls ≡ Some l = found-others n m ls l h in
          let inner : (c : Bool) → (x.list.0 == m) ≡ c → cond c (Some x) (list_of m ls) ≡ Some l = elim [
            | true ↦ λ u. let same : n ≡ m = grind (arith, nat_tests) in absurd (cc (subst (λ i. list_of i (others n ls) ≡ Some l) (sym same) h, gone n ls))
            | false ↦ λ u. rest
          ] in
          inner (x.list.0 == m) refl
      | false ↦ λ t h.
          let inner : (c : Bool) → cond c (Some x) (list_of m (others n ls)) ≡ Some l → cond c (Some x) (list_of m ls) ≡ Some l = elim [
            | true ↦ λ u. u
            | false ↦ λ u. found-others n m ls l u
          ] in
          inner (x.list.0 == m) h
    ] in
    cases (x.list.0 == n) refl h

module _ (ms : Modules) (front : ℕ) where
  pub clear_gone : (n : ℕ) (ls : List LiveList) (next : ℕ) → AreClear ms front ls next → AreClear ms front (others n ls) next
  clear_gone n ls next h = record {
    apart = IsApart-others n ls h.apart;
    below = Each-others (λ l. l.list.0 < next) n ls h.below;
    each = Each-others (IsClear ms front) n ls h.each;
  }

  pub clear_new : (ls : List LiveList) (next : ℕ) (l : LiveList) → l.list.0 ≡ next → IsClear ms front l → AreClear ms front ls next → AreClear ms front (ls ++ l ∷ []) (next + 1)
  clear_new ls next l e c h =
      let free : is_live l.list.0 ls ≡ false = ap (λ k. is_live k ls) e ∙ below_absent next ls h.below in
      record {
        apart = IsApart-append ls l h.apart free;
        below = Each-append (λ k. k.list.0 < next + 1) ls l (Each-implies (λ k. k.list.0 < next) (λ k. k.list.0 < next + 1) (λ k b. omega (arith, b)) ls h.below) (omega (arith, e));
        each = Each-append (IsClear ms front) ls l h.each c;
      }

  pub clear_found : (n : ℕ) (ls : List LiveList) (next : ℕ) (l : LiveList) → AreClear ms front ls next → list_of n ls ≡ Some l → IsClear ms front l
  clear_found n ls next l h f = Each-found (IsClear ms front) n ls l h.each f

  pub clear_touched : (n : ℕ) (g : LiveList → LiveList) → KeepsNumber g → (ls : List LiveList) (next : ℕ) → ((l : LiveList) → list_of n ls ≡ Some l → IsClear ms front (g l)) → AreClear ms front ls next → AreClear ms front (retouched n g ls) next
  clear_touched n g k ls next c h = record {
    apart = IsApart-retouched n g k ls h.apart;
    below = Each-retouched (λ l. l.list.0 < next) n g ls h.apart h.below (λ l f. omega (arith, k l, Each-found (λ x. x.list.0 < next) n ls l h.below f));
    each = Each-retouched (IsClear ms front) n g ls h.apart h.each c;
  }

  -- list n is in a module's hand, and the others are clear
  pub record InHand (n : ℕ) (l : LiveList) (ls : List LiveList) (next : ℕ) : Type 0 where
    pub found : list_of n ls ≡ Some l
    pub rest : AreClear ms front (others n ls) next
    pub number : l.list.0 ≡ n
    pub below : n < next

  pub hand_take : (n : ℕ) (l : LiveList) (ls : List LiveList) (next : ℕ) → AreClear ms front ls next → list_of n ls ≡ Some l → InHand n l ls next
  hand_take n l ls next h f =
      let number : l.list.0 ≡ n = (find_is n ls l f).0 in
      record { found = f; rest = clear_gone n ls next h; number = number; below = omega (arith, number, Each-found (λ x. x.list.0 < next) n ls l h.below f) }

  pub hand_touch : (n : ℕ) (l : LiveList) (g : LiveList → LiveList) → KeepsNumber g → (ls : List LiveList) (next : ℕ) → InHand n l ls next → InHand n (g l) (retouched n g ls) next
  hand_touch n l g k ls next h = record {
    found = found-touched n g k ls l h.found;
    rest = subst (λ ys. AreClear ms front ys next) (sym (others-touched n g k ls)) h.rest;
    number = k l ∙ h.number;
    below = h.below;
  }

  pub hand_put : (n : ℕ) (l to : LiveList) (ls : List LiveList) (next : ℕ) → InHand n l ls next → to.list.0 ≡ n → IsClear ms front to → AreClear ms front (with_last (others n ls) (Some to)) next
  hand_put n l to ls next h e c =
      let free : is_live to.list.0 (others n ls) ≡ false = ap (λ k. is_live k (others n ls)) e ∙ is_live-others n n ls ∙ absent n (is_live n ls) in
      record {
        apart = IsApart-append (others n ls) to h.rest.apart free;
        below = Each-append (λ k. k.list.0 < next) (others n ls) to h.rest.below (omega (arith, e, h.below));
        each = Each-append (IsClear ms front) (others n ls) to h.rest.each c;
      }
    where
      absent : (n : ℕ) (b : Bool) → (not (n == n) && b) ≡ false
      absent n b = grind (arith, nat_tests)

  pub hand_issue : (n : ℕ) (l new : LiveList) (ls : List LiveList) (next : ℕ) → new.list.0 ≡ next → IsClear ms front new → InHand n l ls next → InHand n l (ls ++ new ∷ []) (next + 1)
  hand_issue n l new ls next e c h =
      let below : n < next = h.below in
      let other : (new.list.0 == n) ≡ false = grind (arith, nat_tests) in
      record {
        found = found-append n ls l new h.found;
        rest = subst (λ ys. AreClear ms front ys (next + 1)) (sym (others-append n ls new other)) (clear_new (others n ls) next new e c h.rest);
        number = h.number;
        below = omega (arith, h.below);
      }

  pub hand_new : (new : LiveList) (ls : List LiveList) (next : ℕ) → new.list.0 ≡ next → AreClear ms front ls next → InHand next new (ls ++ new ∷ []) (next + 1)
  hand_new new ls next e h =
      let free : is_live next ls ≡ false = below_absent next ls h.below in
      record {
        found = found-last next ls new e free;
        rest = subst (λ ys. AreClear ms front ys (next + 1)) (sym (others-last next ls new e free)) record { apart = h.apart; below = Each-implies (λ k. k.list.0 < next) (λ k. k.list.0 < next + 1) (λ k b. omega (arith, b)) ls h.below; each = h.each };
        number = e;
        below = omega arith;
      }
