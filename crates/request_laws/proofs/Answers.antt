-- The answers on their way, after each change of the list of things.
use Rattle.std.proofs.Common.{◌≡◌, ℕ, ◌==◌, Bool, true, false, not, cond, List, [], ◌∷◌, ◌++◌, Option, Some, None, refl, ap, sym, subst, ◌∙◌, find, filter}
use Rattle.ndis_base.specs.declared.ModuleId.{ModuleId}
use Rattle.ndis_base.specs.declared.OidNo.{OidNo}
use Rattle.ndis_base.specs.declared.OidStatus.{OidStatus}
use Rattle.journal_types.specs.declared.PassWay.{PassWay}
use Rattle.journal_types.specs.declared.Target.{Target}
use Rattle.stack_rules.specs.declared.Answered.{Answered}
use Rattle.stack_rules.specs.declared.LiveList.{LiveList}
use Rattle.stack_rules.specs.declared.Request.{Request}
use Rattle.stack_rules.specs.declared.Thing.{Thing}
use Rattle.stack_rules.specs.declared.Thing.TheVariants as thing
use Rattle.stack_rules.specs.Net.{without, without_status, after_change, at_end, after_keep, as_kept, after_pass, as_passed, lists, list_of, is_answer_to, after_answer, things_after_done}
use Rattle.place_laws.specs.Kept.{EachAnswer}
use Rattle.request_laws.proofs.Asked.{Each, answers_but, some_same, none_some}

-- the answers among the things
abbrev pub answered : List Thing → List Answered
answered [] = []
answered (thing.Answer a ∷ ts) = a ∷ answered ts
answered (thing.List l ∷ ts) = answered ts
answered (thing.Status s ∷ ts) = answered ts

pub answered-append : (ts us : List Thing) → answered (ts ++ us) ≡ answered ts ++ answered us
answered-append [] us = refl
answered-append (thing.Answer a ∷ ts) us = ap (λ xs. a ∷ xs) (answered-append ts us)
answered-append (thing.List l ∷ ts) us = answered-append ts us
answered-append (thing.Status s ∷ ts) us = answered-append ts us

nil_end : (xs : List Answered) → xs ++ [] ≡ xs
nil_end [] = refl
nil_end (x ∷ xs) = ap (λ rest. x ∷ rest) (nil_end xs)

-- one more thing that is no answer
pub answered-push : (ts : List Thing) (t : Thing) → answered (t ∷ []) ≡ [] → answered (ts ++ t ∷ []) ≡ answered ts
answered-push ts t e = answered-append ts (t ∷ []) ∙ ap (λ rest. answered ts ++ rest) e ∙ nil_end (answered ts)

pub answered-without : (n : ℕ) (ts : List Thing) → answered (without n ts) ≡ answered ts
answered-without n [] = refl
answered-without n (thing.Answer a ∷ ts) = ap (λ xs. a ∷ xs) (answered-without n ts)
answered-without n (thing.List l ∷ ts) =
    elim (l.list.0 == n) as (λ b. answered (cond (not b) (thing.List l ∷ without n ts) (without n ts)) ≡ answered ts) [
      | true ↦ answered-without n ts
      | false ↦ answered-without n ts
    ]
answered-without n (thing.Status s ∷ ts) = answered-without n ts

pub answered-without_status : (n : ℕ) (ts : List Thing) → answered (without_status n ts) ≡ answered ts
answered-without_status n [] = refl
answered-without_status n (thing.Answer a ∷ ts) = ap (λ xs. a ∷ xs) (answered-without_status n ts)
answered-without_status n (thing.List l ∷ ts) = answered-without_status n ts
answered-without_status n (thing.Status s ∷ ts) =
    elim (s.number.0 == n) as (λ b. answered (cond (not b) (thing.Status s ∷ without_status n ts) (without_status n ts)) ≡ answered ts) [
      | true ↦ answered-without_status n ts
      | false ↦ answered-without_status n ts
    ]

pub answered-changed : (n : ℕ) (f : LiveList → LiveList) (ts : List Thing) → answered (after_change n f ts) ≡ answered ts
answered-changed n f [] = refl
answered-changed n f (thing.Answer a ∷ ts) = ap (λ xs. a ∷ xs) (answered-changed n f ts)
answered-changed n f (thing.List l ∷ ts) =
    elim (l.list.0 == n) as (λ b. answered (cond b (thing.List (f l)) (thing.List l) ∷ after_change n f ts) ≡ answered ts) [
      | true ↦ answered-changed n f ts
      | false ↦ answered-changed n f ts
    ]
answered-changed n f (thing.Status s ∷ ts) = answered-changed n f ts

answered-at_end : (ts : List Thing) (o : Option LiveList) → answered (at_end ts o) ≡ answered ts
answered-at_end ts None = refl
answered-at_end ts (Some l) = answered-push ts (thing.List l) refl

pub answered-kept : (n : ℕ) (m : ModuleId) (ts : List Thing) → answered (after_keep n m ts) ≡ answered ts
answered-kept n m ts = answered-at_end (without n ts) (as_kept m (list_of n (lists ts))) ∙ answered-without n ts

pub answered-passed : (n : ℕ) (way : PassWay) (to : Target) (ts : List Thing) → answered (after_pass n way to ts) ≡ answered ts
answered-passed n way to ts = answered-at_end (without n ts) (as_passed way to (list_of n (lists ts))) ∙ answered-without n ts

-- a request that is done leaves an answer, where it has a parent
abbrev pub answer_of : Option OidNo → OidNo → OidStatus → List ℕ → List Answered
answer_of None request status value = []
answer_of (Some parent) request status value = record { request = request; parent = parent; status = status; value = value } ∷ []

answered-but : (n : ℕ) (ts : List Thing) → answered (filter (λ t. not (is_answer_to n t)) ts) ≡ answers_but n (answered ts)
answered-but n [] = refl
answered-but n (thing.Answer a ∷ ts) =
    elim (a.parent.0 == n) as (λ b. answered (cond (not b) (thing.Answer a ∷ filter (λ t. not (is_answer_to n t)) ts) (filter (λ t. not (is_answer_to n t)) ts)) ≡ cond (not b) (a ∷ answers_but n (answered ts)) (answers_but n (answered ts))) [
      | true ↦ answered-but n ts
      | false ↦ ap (λ xs. a ∷ xs) (answered-but n ts)
    ]
answered-but n (thing.List l ∷ ts) = answered-but n ts
answered-but n (thing.Status s ∷ ts) = answered-but n ts

answered-answer_to : (parent : Option OidNo) (request : OidNo) (status : OidStatus) (value : List ℕ) (ts : List Thing) → answered (after_answer parent request status value ts) ≡ answered ts ++ answer_of parent request status value
answered-answer_to None request status value ts = sym (nil_end (answered ts))
answered-answer_to (Some parent) request status value ts = answered-append ts (thing.Answer (record { request = request; parent = parent; status = status; value = value }) ∷ [])

pub answered-done : (r : Request) (request : OidNo) (status : OidStatus) (value : List ℕ) (ts : List Thing) → answered (things_after_done (Some r) request status value ts) ≡ answers_but request.0 (answered ts) ++ answer_of r.parent request status value
answered-done r request status value ts =
    answered-answer_to r.parent request status value (filter (λ t. not (is_answer_to request.0 t)) ts)
    ∙ ap (λ xs. xs ++ answer_of r.parent request status value) (answered-but request.0 ts)

-- what holds of each answer, by the things
pub each_answer : (P : Answered → Type 0) (ts : List Thing) → Each P (answered ts) → EachAnswer P ts
each_answer P [] h = tt
each_answer P (thing.Answer a ∷ ts) h = (h.0, each_answer P ts h.1)
each_answer P (thing.List l ∷ ts) h = each_answer P ts h
each_answer P (thing.Status s ∷ ts) h = each_answer P ts h

-- and of an answer that is found
pub answer_found : (P : Answered → Type 0) (test : Thing → Bool) (ts : List Thing) (a : Answered) → Each P (answered ts) → find test ts ≡ Some (thing.Answer a) → P a
answer_found P test [] a h f = absurd (none_some (thing.Answer a) f)
answer_found P test (t ∷ ts) a h f = by (test t) (answer_found P test ts a (rest t h)) f
  where
    rest : (t : Thing) → Each P (answered (t ∷ ts)) → Each P (answered ts)
    rest (thing.Answer b) h = h.1
    rest (thing.List l) h = h
    rest (thing.Status s) h = h

    first : (t : Thing) → Each P (answered (t ∷ ts)) → t ≡ thing.Answer a → P a
    first (thing.Answer b) h e = let same : b ≡ a = cc in subst P same h.0
    first (thing.List l) h e = cc
    first (thing.Status s) h e = cc

    by : (b : Bool) → (find test ts ≡ Some (thing.Answer a) → P a) → cond b (Some t) (find test ts) ≡ Some (thing.Answer a) → P a
    by true later e = first t h (some_same t (thing.Answer a) e)
    by false later e = later e
