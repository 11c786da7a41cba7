-- The live lists after each change of the list of things.
use Rattle.std.proofs.Common.{◌≡◌, ℕ, ◌==◌, not, true, false, cond, List, [], ◌∷◌, ◌++◌, Option, Some, None, refl, ap, sym, ◌∙◌}
use Rattle.ndis_base.specs.declared.ModuleId.{ModuleId}
use Rattle.journal_types.specs.declared.PassWay.{PassWay}
use Rattle.journal_types.specs.declared.Target.{Target}
use Rattle.stack_rules.specs.declared.LiveList.{LiveList}
use Rattle.stack_rules.specs.declared.Thing.{Thing}
use Rattle.stack_rules.specs.declared.Thing.TheVariants as thing
use Rattle.stack_rules.specs.Net.{lists, list_of, without, after_change, at_end, after_keep, as_kept, after_pass, as_passed}
use Rattle.rule_basics.specs.Live.{others, retouched, with_last, things_of}

pub lists-append : (ts us : List Thing) → lists (ts ++ us) ≡ lists ts ++ lists us
lists-append [] us = refl
lists-append (thing.List l ∷ ts) us = ap (λ ls. l ∷ ls) (lists-append ts us)
lists-append (thing.Status s ∷ ts) us = lists-append ts us
lists-append (thing.Answer a ∷ ts) us = lists-append ts us

pub lists-without : (n : ℕ) (ts : List Thing) → lists (without n ts) ≡ others n (lists ts)
lists-without n [] = refl
lists-without n (thing.List l ∷ ts) =
    elim (l.list.0 == n) as (λ b. lists (cond (not b) (thing.List l ∷ without n ts) (without n ts)) ≡ cond (not b) (l ∷ others n (lists ts)) (others n (lists ts))) [
      | true ↦ lists-without n ts
      | false ↦ ap (λ ls. l ∷ ls) (lists-without n ts)
    ]
lists-without n (thing.Status s ∷ ts) = lists-without n ts
lists-without n (thing.Answer a ∷ ts) = lists-without n ts

pub lists-changed : (n : ℕ) (f : LiveList → LiveList) (ts : List Thing) → lists (after_change n f ts) ≡ retouched n f (lists ts)
lists-changed n f [] = refl
lists-changed n f (thing.List l ∷ ts) =
    elim (l.list.0 == n) as (λ b. lists (cond b (thing.List (f l)) (thing.List l) ∷ after_change n f ts) ≡ cond b (f l) l ∷ retouched n f (lists ts)) [
      | true ↦ ap (λ ls. f l ∷ ls) (lists-changed n f ts)
      | false ↦ ap (λ ls. l ∷ ls) (lists-changed n f ts)
    ]
lists-changed n f (thing.Status s ∷ ts) = lists-changed n f ts
lists-changed n f (thing.Answer a ∷ ts) = lists-changed n f ts

pub lists-at_end : (ts : List Thing) (o : Option LiveList) → lists (at_end ts o) ≡ with_last (lists ts) o
lists-at_end ts None = refl
lists-at_end ts (Some l) = lists-append ts (thing.List l ∷ [])

pub lists-kept : (n : ℕ) (m : ModuleId) (ts : List Thing) → lists (after_keep n m ts) ≡ with_last (others n (lists ts)) (as_kept m (list_of n (lists ts)))
lists-kept n m ts =
    lists-at_end (without n ts) (as_kept m (list_of n (lists ts)))
    ∙ ap (λ ls. with_last ls (as_kept m (list_of n (lists ts)))) (lists-without n ts)

pub lists-passed : (n : ℕ) (way : PassWay) (to : Target) (ts : List Thing) → lists (after_pass n way to ts) ≡ with_last (others n (lists ts)) (as_passed way to (list_of n (lists ts)))
lists-passed n way to ts =
    lists-at_end (without n ts) (as_passed way to (list_of n (lists ts)))
    ∙ ap (λ ls. with_last ls (as_passed way to (list_of n (lists ts)))) (lists-without n ts)

-- lists as things, and back
pub lists-things_of : (ls : List LiveList) → lists (things_of ls) ≡ ls
lists-things_of [] = refl
lists-things_of (l ∷ ls) = ap (λ rest. l ∷ rest) (lists-things_of ls)

pub things_of-others : (n : ℕ) (ls : List LiveList) → things_of (others n ls) ≡ without n (things_of ls)
things_of-others n [] = refl
things_of-others n (l ∷ ls) =
    elim (l.list.0 == n) as (λ b. things_of (cond (not b) (l ∷ others n ls) (others n ls)) ≡ cond (not b) (thing.List l ∷ without n (things_of ls)) (without n (things_of ls))) [
      | true ↦ things_of-others n ls
      | false ↦ ap (λ ts. thing.List l ∷ ts) (things_of-others n ls)
    ]

pub things_of-retouched : (n : ℕ) (f : LiveList → LiveList) (ls : List LiveList) → things_of (retouched n f ls) ≡ after_change n f (things_of ls)
things_of-retouched n f [] = refl
things_of-retouched n f (l ∷ ls) =
    elim (l.list.0 == n) as (λ b. thing.List (cond b (f l) l) ∷ things_of (retouched n f ls) ≡ cond b (thing.List (f l)) (thing.List l) ∷ after_change n f (things_of ls)) [
      | true ↦ ap (λ ts. thing.List (f l) ∷ ts) (things_of-retouched n f ls)
      | false ↦ ap (λ ts. thing.List l ∷ ts) (things_of-retouched n f ls)
    ]

pub things_of-append : (ls ms : List LiveList) → things_of (ls ++ ms) ≡ things_of ls ++ things_of ms
things_of-append [] ms = refl
things_of-append (l ∷ ls) ms = ap (λ ts. thing.List l ∷ ts) (things_of-append ls ms)

pub things_of-with_last : (n : ℕ) (ls : List LiveList) (o : Option LiveList) → things_of (with_last (others n ls) o) ≡ at_end (without n (things_of ls)) o
things_of-with_last n ls None = things_of-others n ls
things_of-with_last n ls (Some l) =
    things_of-append (others n ls) (l ∷ []) ∙ ap (λ ts. ts ++ thing.List l ∷ []) (things_of-others n ls)

pub things_of-kept : (n : ℕ) (m : ModuleId) (ls : List LiveList) → things_of (with_last (others n ls) (as_kept m (list_of n ls))) ≡ after_keep n m (things_of ls)
things_of-kept n m ls =
    things_of-with_last n ls (as_kept m (list_of n ls))
    ∙ ap (λ found. at_end (without n (things_of ls)) (as_kept m (list_of n found))) (sym (lists-things_of ls))

pub things_of-passed : (n : ℕ) (way : PassWay) (to : Target) (ls : List LiveList) → things_of (with_last (others n ls) (as_passed way to (list_of n ls))) ≡ after_pass n way to (things_of ls)
things_of-passed n way to ls =
    things_of-with_last n ls (as_passed way to (list_of n ls))
    ∙ ap (λ found. at_end (without n (things_of ls)) (as_passed way to (list_of n found))) (sym (lists-things_of ls))
