-- Statuses go up after each change of the list of things.
use Rattle.std.proofs.Common.{ℕ, ◌==◌, not, Bool, true, false, cond, List, [], ◌∷◌, ◌++◌, Option, Some, None, filter}
use Rattle.ndis_base.specs.declared.OidNo.{OidNo}
use Rattle.ndis_base.specs.declared.OidStatus.{OidStatus}
use Rattle.ndis_base.specs.declared.ModuleId.{ModuleId}
use Rattle.journal_types.specs.declared.PassWay.{PassWay}
use Rattle.journal_types.specs.declared.Target.{Target}
use Rattle.stack_rules.specs.declared.LiveList.{LiveList}
use Rattle.stack_rules.specs.declared.Request.{Request}
use Rattle.stack_rules.specs.declared.Thing.{Thing}
use Rattle.stack_rules.specs.declared.Thing.TheVariants as thing
use Rattle.stack_rules.specs.Net.{lists, list_of, is_list, without, after_change, at_end, after_keep, as_kept, after_pass, as_passed, is_answer_to, after_answer, things_after_done}
use Rattle.place_laws.specs.Kept.{EachStatus, GoesUp}

-- each status goes up
abbrev pub AllGoUp : List Thing → Type 0
AllGoUp ts = EachStatus (λ s. GoesUp s.to) ts

pub up_filter : (test : Thing → Bool) (ts : List Thing) → AllGoUp ts → AllGoUp (filter test ts)
up_filter test [] h = tt
up_filter test (thing.Status s ∷ ts) h =
    elim (test (thing.Status s)) as (λ b. AllGoUp (cond b (thing.Status s ∷ filter test ts) (filter test ts))) [ true ↦ (h.0, up_filter test ts h.1) | false ↦ up_filter test ts h.1 ]
up_filter test (thing.List l ∷ ts) h =
    elim (test (thing.List l)) as (λ b. AllGoUp (cond b (thing.List l ∷ filter test ts) (filter test ts))) [ true ↦ up_filter test ts h | false ↦ up_filter test ts h ]
up_filter test (thing.Answer a ∷ ts) h =
    elim (test (thing.Answer a)) as (λ b. AllGoUp (cond b (thing.Answer a ∷ filter test ts) (filter test ts))) [ true ↦ up_filter test ts h | false ↦ up_filter test ts h ]

pub up_append : (ts us : List Thing) → AllGoUp ts → AllGoUp us → AllGoUp (ts ++ us)
up_append [] us h k = k
up_append (thing.Status s ∷ ts) us h k = (h.0, up_append ts us h.1 k)
up_append (thing.List l ∷ ts) us h k = up_append ts us h k
up_append (thing.Answer a ∷ ts) us h k = up_append ts us h k

pub up_changed : (n : ℕ) (f : LiveList → LiveList) (ts : List Thing) → AllGoUp ts → AllGoUp (after_change n f ts)
up_changed n f [] h = tt
up_changed n f (thing.Status s ∷ ts) h = (h.0, up_changed n f ts h.1)
up_changed n f (thing.List l ∷ ts) h =
    elim (l.list.0 == n) as (λ b. AllGoUp (cond b (thing.List (f l)) (thing.List l) ∷ after_change n f ts)) [ true ↦ up_changed n f ts h | false ↦ up_changed n f ts h ]
up_changed n f (thing.Answer a ∷ ts) h = up_changed n f ts h

up_at_end : (ts : List Thing) (o : Option LiveList) → AllGoUp ts → AllGoUp (at_end ts o)
up_at_end ts None h = h
up_at_end ts (Some l) h = up_append ts (thing.List l ∷ []) h tt

pub up_kept : (n : ℕ) (m : ModuleId) (ts : List Thing) → AllGoUp ts → AllGoUp (after_keep n m ts)
up_kept n m ts h = up_at_end (without n ts) (as_kept m (list_of n (lists ts))) (up_filter (λ t. not (is_list n t)) ts h)

pub up_passed : (n : ℕ) (way : PassWay) (to : Target) (ts : List Thing) → AllGoUp ts → AllGoUp (after_pass n way to ts)
up_passed n way to ts h = up_at_end (without n ts) (as_passed way to (list_of n (lists ts))) (up_filter (λ t. not (is_list n t)) ts h)

up_answer : (parent : Option OidNo) (request : OidNo) (status : OidStatus) (value : List ℕ) (ts : List Thing) → AllGoUp ts → AllGoUp (after_answer parent request status value ts)
up_answer None request status value ts h = h
up_answer (Some parent) request status value ts h = up_append ts (thing.Answer (record { request = request; parent = parent; status = status; value = value }) ∷ []) h tt

pub up_done : (o : Option Request) (request : OidNo) (status : OidStatus) (value : List ℕ) (ts : List Thing) → AllGoUp ts → AllGoUp (things_after_done o request status value ts)
up_done None request status value ts h = h
up_done (Some r) request status value ts h = up_answer r.parent request status value (filter (λ t. not (is_answer_to request.0 t)) ts) (up_filter (λ t. not (is_answer_to request.0 t)) ts h)
