-- Each status, answer and request that a pump works leaves less to do.
use Rattle.std.proofs.Common.{◌≡◌, ℕ, ◌+◌, ◌-◌, ◌≤◌, ◌==◌, not, Bool, true, false, cond, List, [], ◌∷◌, Option, Some, None, length, refl, arith, ap, ◌∙◌, filter, find, sum_by}
use Rattle.std.proofs.lemmas.Bool.Decides.{nat_tests}
use Rattle.std.proofs.lemmas.List.Sums.{sum_by-cons, sum_by-le-sum_by}
use Rattle.ndis_base.specs.declared.OidNo.{OidNo}
use Rattle.ndis_base.specs.declared.OidStatus.{OidStatus}
use Rattle.ndis_base.specs.declared.StatusNo.{StatusNo}
use Rattle.ndis_base.specs.declared.ModuleState.{ModuleState}
use Rattle.ndis_base.specs.declared.ModuleId.{ModuleId}
use Rattle.ndis_base.specs.declared.ModuleId.TheVariants.{Miniport, Filter, Binding}
use Rattle.journal_types.specs.declared.Target.{Target}
use Rattle.journal_types.specs.declared.Target.TheVariants.{Module, Bindings}
use Rattle.journal_types.specs.declared.Row.{Row}
use Rattle.journal_types.specs.declared.Row.TheVariants as row
use Rattle.stack_rules.specs.declared.Answered.{Answered}
use Rattle.stack_rules.specs.declared.StatusAway.{StatusAway}
use Rattle.stack_rules.specs.declared.Request.{Request}
use Rattle.stack_rules.specs.declared.RequestAt.TheVariants as at
use Rattle.stack_rules.specs.declared.Thing.{Thing}
use Rattle.stack_rules.specs.declared.Thing.TheVariants as thing
use Rattle.stack_rules.specs.Tests.{is_binding}
use Rattle.stack_rules.specs.Net.{Net, after, after_rows, request_of, is_status, is_answer_to, after_answer, things_after_done}
use Rattle.stack_rules.specs.Places.{position, position_of_target, has_clone, is_away}
use Rattle.stack_rules.specs.Targets.{next_status}
use Rattle.stack_rules.specs.Statuses.{seen_by_all, status_rows}
use Rattle.stack_rules.specs.Requests.{answer_rows}
use Rattle.stack_rules.specs.Work.{given_position, holder_position, request_work}
use Rattle.rule_basics.specs.Numbers.{IsNumbered, IssueNext}
use Rattle.work_laws.proofs.Sums.{sum_filter, sum_last}
use Rattle.work_laws.proofs.Weights.{Stay, weight, asked_work, load, work_least, work_after}
use Rattle.work_laws.proofs.Clones.{AreStaying, clones_rows}
use Rattle.work_laws.proofs.Ways.{status_near}
use Rattle.work_laws.proofs.Adds.{load_status}
use Rattle.place_laws.specs.Kept.{GoesUp, place_position, IsGiven, IsAsked}
use Rattle.work_laws.proofs.Filters.{Lowers}

-- what a test leaves out is gone from the sum
found_out : {X : Type 0} (w : X → ℕ) (test p : X → Bool) (xs : List X) (x : X) → find p xs ≡ Some x → test x ≡ false → sum_by w (filter test xs) + w x ≤ sum_by w xs
found_out w test p [] x f e = cc
found_out {X} w test p (y ∷ xs) x f e =
    let whole = sum_by-cons w y xs in
    let cases : (b : Bool) → cond b (Some y) (find p xs) ≡ Some x → sum_by w (cond (test y) (y ∷ filter test xs) (filter test xs)) + w x ≤ sum_by w (y ∷ xs) = elim [
      | true ↦ λ g. here (some_same y x g)
      | false ↦ λ g. there (test y) (found_out w test p xs x g e)
    ] in
    cases (p y) f
  where
    some_same : (a b : X) → Some a ≡ Some b → a ≡ b
    some_same a b g = cc

    here : y ≡ x → sum_by w (cond (test y) (y ∷ filter test xs) (filter test xs)) + w x ≤ sum_by w (y ∷ xs)
    here g =
        let whole = sum_by-cons w y xs in
        let less = sum_filter w test xs in
        let off : test y ≡ false = ap test g ∙ e in
        let same : w y ≡ w x = ap w g in
        rw off (omega (arith, whole, less, same))

    there : (b : Bool) → sum_by w (filter test xs) + w x ≤ sum_by w xs → sum_by w (cond b (y ∷ filter test xs) (filter test xs)) + w x ≤ sum_by w (y ∷ xs)
    there true g = let whole = sum_by-cons w y xs in let part = sum_by-cons w y (filter test xs) in omega (arith, whole, part, g)
    there false g = let whole = sum_by-cons w y xs in omega (arith, whole, g)

itself : (n : ℕ) → (n == n) ≡ true
itself n = grind (arith, nat_tests)

-- a status that is seen is gone
seen_most : (net : Net) (cloned : ℕ → Bool) (s : StatusAway) (m : ModuleId) → find is_away net.things ≡ Some (thing.Status s) →
    load (after net (row.Seen s.number m)) cloned + (position_of_target net.modules.order s.to + 1) ≤ load net cloned
seen_most net cloned s m f =
    let out = found_out (weight net cloned) (λ t. not (is_status s.number.0 t)) is_away net.things (thing.Status s) f (ap not (itself s.number.0)) in
    omega (arith, out)

seen_less : (net : Net) (cloned : ℕ → Bool) (number : StatusNo) (m : ModuleId) → load (after net (row.Seen number m)) cloned ≤ load net cloned
seen_less net cloned number m = let less = sum_filter (weight net cloned) (λ t. not (is_status number.0 t)) net.things in omega (arith, less)

all_seen : (net : Net) (cloned : ℕ → Bool) (number : StatusNo) (b : ℕ) (ss : List ModuleState) → load (after_rows net (seen_by_all number b ss)) cloned ≤ load net cloned
all_seen net cloned number b [] = omega arith
all_seen net cloned number b (s ∷ ss) =
    let first = seen_less net cloned number (Binding b) in
    let rest = all_seen (after net (row.Seen number (Binding b))) cloned number (b + 1) ss in
    omega (arith, first, rest)

all_staying : (number : StatusNo) (b : ℕ) (ss : List ModuleState) → AreStaying (seen_by_all number b ss)
all_staying number b [] = tt
all_staying number b (s ∷ ss) = (refl, all_staying number (b + 1) ss)

all_issue : (net : Net) (number : StatusNo) (b : ℕ) (ss : List ModuleState) → IssueNext net (seen_by_all number b ss)
all_issue net number b [] = tt
all_issue net number b (s ∷ ss) = (tt, all_issue (after net (row.Seen number (Binding b))) number (b + 1) ss)

low : (order : List ℕ) (m : ModuleId) → is_binding m ≡ false → 1 ≤ position order m
low order Miniport e = omega arith
low order (Filter f) e = omega arith
low order (Binding b) e = cc

status_at : (net : Net) (s : StatusAway) (to : Target) → s.to ≡ to → IsNumbered net → find is_away net.things ≡ Some (thing.Status s) → GoesUp to → 1 ≤ length net.modules.bindings → Lowers net (status_rows net s.number s.name to)
status_at net s (Module m) e h f g some =
    let rows : List Row = row.Seen s.number m ∷ row.Status s.number s.name (next_status net.modules (position net.modules.order m)) ∷ [] in
    let next : Net = after net (row.Seen s.number m) in
    let stay : Stay (has_clone net) (has_clone (after_rows net rows)) = clones_rows net rows h (tt, (tt, tt)) (refl, (refl, tt)) in
    let out = seen_most net (has_clone net) s m f in
    let at : position_of_target net.modules.order s.to ≡ position net.modules.order m = ap (position_of_target net.modules.order) e in
    let near = status_near net.modules (position net.modules.order m) in
    let least = low net.modules.order m g in
    let more : load (after_rows net rows) (has_clone net) ≤ load next (has_clone net) + (position_of_target net.modules.order (next_status net.modules (position net.modules.order m)) + 1) = load_status next (has_clone net) s.number s.name (next_status net.modules (position net.modules.order m)) in
    let most = work_after (after_rows net rows) (has_clone net) stay in
    let start = work_least net in
    omega (arith, out, at, near, least, more, most, start)
status_at net s Bindings e h f g some = all net.modules.bindings some
  where
    all : (ss : List ModuleState) → 1 ≤ length ss → Lowers net (seen_by_all s.number 0 ss)
    all [] n = absurd (omega (arith, n))
    all (x ∷ ss) n =
        let rows : List Row = seen_by_all s.number 0 (x ∷ ss) in
        let next : Net = after net (row.Seen s.number (Binding 0)) in
        let stay : Stay (has_clone net) (has_clone (after_rows net rows)) = clones_rows net rows h (all_issue net s.number 0 (x ∷ ss)) (all_staying s.number 0 (x ∷ ss)) in
        let out = seen_most net (has_clone net) s (Binding 0) f in
        let rest : load (after_rows net rows) (has_clone net) ≤ load next (has_clone net) = all_seen next (has_clone net) s.number (0 + 1) ss in
        let most = work_after (after_rows net rows) (has_clone net) stay in
        let start = work_least net in
        omega (arith, out, rest, most, start)

pub status_lowers : (net : Net) (s : StatusAway) → IsNumbered net → find is_away net.things ≡ Some (thing.Status s) → GoesUp s.to → 1 ≤ length net.modules.bindings → Lowers net (status_rows net s.number s.name s.to)
status_lowers net s h f g some = status_at net s s.to refl h f g some

-- requests that are done hold no place
done_less : (net : Net) (n m : ℕ) (rs : List Request) → holder_position net (request_of n (filter (λ r. not (r.request.0 == m)) rs)) ≤ holder_position net (request_of n rs)
done_less net n m [] = omega arith
done_less net n m (r ∷ rs) =
    let rest = done_less net n m rs in
    let cases : (b c : Bool) → (r.request.0 == n) ≡ b → (r.request.0 == m) ≡ c → holder_position net (request_of n (cond (not c) (r ∷ filter (λ q. not (q.request.0 == m)) rs) (filter (λ q. not (q.request.0 == m)) rs))) ≤ holder_position net (cond b (Some r) (request_of n rs)) = elim [
      | true ↦ elim [
        | true ↦ λ s t. gone (r.request.0) s t rs
        | false ↦ λ s t. rw s (omega arith)
      ]
      | false ↦ elim [
        | true ↦ λ s t. rest
        | false ↦ λ s t. rw s rest
      ]
    ] in
    cases (r.request.0 == n) (r.request.0 == m) refl refl
  where
    none : (n m : ℕ) → n ≡ m → (qs : List Request) → request_of n (filter (λ q. not (q.request.0 == m)) qs) ≡ None
    none n m e [] = refl
    none n m e (q ∷ qs) =
        let cases : (b : Bool) → (q.request.0 == m) ≡ b → request_of n (cond (not b) (q ∷ filter (λ q. not (q.request.0 == m)) qs) (filter (λ q. not (q.request.0 == m)) qs)) ≡ None = elim [
          | true ↦ λ t. none n m e qs
          | false ↦ λ t. let other : (q.request.0 == n) ≡ false = grind (arith, nat_tests) in rw other (none n m e qs)
        ] in
        cases (q.request.0 == m) refl

    gone : (i : ℕ) → (i == n) ≡ true → (i == m) ≡ true → (qs : List Request) → holder_position net (request_of n (filter (λ q. not (q.request.0 == m)) qs)) ≤ holder_position net (Some r)
    gone i s t qs = let same : n ≡ m = grind (arith, nat_tests) in rw (none n m same qs) (omega arith)

done_lighter : (net : Net) (cloned : ℕ → Bool) (m : ℕ) (t : Thing) → weight (record net { requests = filter (λ r. not (r.request.0 == m)) net.requests }) cloned t ≤ weight net cloned t
done_lighter net cloned m (thing.List l) = omega arith
done_lighter net cloned m (thing.Status s) = omega arith
done_lighter net cloned m (thing.Answer a) = done_less net a.parent.0 m net.requests

held : (net : Net) (n f : ℕ) (r : Request) (o : Option Request) → o ≡ Some r → r.at ≡ at.Given (Filter f) → holder_position net o ≡ position net.modules.order (Filter f)
held net n f r None e a = cc
held net n f r (Some q) e a = ap (given_position net) (ap (λ (k : Request). k.at) (same q r e) ∙ a)
  where
    same : (x y : Request) → Some x ≡ Some y → x ≡ y
    same x y g = cc

pub held_at : (net : Net) (n : ℕ) (h : IsGiven net n) → holder_position net (request_of n net.requests) ≡ position net.modules.order (Filter h.filter)
held_at net n h = held net n h.filter h.request (request_of n net.requests) h.found h.at

-- what is left to do after a request is done
answer_sum : (net : Net) (cloned : ℕ → Bool) (request : OidNo) (status : OidStatus) (value : List ℕ) (ts : List Thing) (k : ℕ) (o : Option OidNo) → ((g : OidNo) → o ≡ Some g → holder_position net (request_of g.0 net.requests) ≤ k) →
    sum_by (weight net cloned) (after_answer o request status value ts) ≤ sum_by (weight net cloned) ts + k
answer_sum net cloned request status value ts k None h = omega arith
answer_sum net cloned request status value ts k (Some g) h =
    let last = sum_last (weight net cloned) ts (thing.Answer (record { request = request; parent = g; status = status; value = value })) in
    let most = h g refl in
    omega (arith, last, most)

abbrev others_asked : ℕ → List Request → List Request
others_asked m rs = filter (λ r. not (r.request.0 == m)) rs

pub done_load : (net : Net) (cloned : ℕ → Bool) (request : OidNo) (status : OidStatus) (value : List ℕ) (r : Request) (k : ℕ) → request_of request.0 net.requests ≡ Some r → ((g : OidNo) → r.parent ≡ Some g → holder_position net (request_of g.0 net.requests) ≤ k) →
    load (after net (row.OidDone request status value)) cloned ≤ sum_by (weight net cloned) (filter (λ t. not (is_answer_to request.0 t)) net.things) + k + asked_work net
done_load net cloned request status value r k f h =
    let next : Net = record net { requests = others_asked request.0 net.requests } in
    let rest : List Thing = filter (λ t. not (is_answer_to request.0 t)) net.things in
    let new : sum_by (weight next cloned) (after_answer r.parent request status value rest) ≤ sum_by (weight next cloned) rest + k =
    answer_sum next cloned request status value rest k r.parent (λ g e. let less = done_less net g.0 request.0 net.requests in let most = h g e in omega (arith, less, most)) in
    let less = sum_by-le-sum_by (weight next cloned) (weight net cloned) rest (done_lighter net cloned request.0) in
    let asked : asked_work next ≤ asked_work net = sum_filter (λ (q : Request). request_work net q.at) (λ q. not (q.request.0 == request.0)) net.requests in
    let same : sum_by (weight next cloned) (things_after_done (request_of request.0 net.requests) request status value net.things) ≡ sum_by (weight next cloned) (after_answer r.parent request status value rest) =
    ap (λ o. sum_by (weight next cloned) (things_after_done o request status value net.things)) f in
    omega (arith, new, less, asked, same)

-- an answer
pub answer_lowers : (net : Net) (a : Answered) → IsNumbered net → find is_away net.things ≡ Some (thing.Answer a) → (h : IsGiven net a.parent.0) → IsAsked net h.request → Lowers net (answer_rows a.parent a.status a.value)
answer_lowers net a n f h asked =
    let rows : List Row = row.OidDone a.parent a.status a.value ∷ [] in
    let i : ℕ = position net.modules.order (Filter h.filter) in
    let stay : Stay (has_clone net) (has_clone (after_rows net rows)) = clones_rows net rows n (tt, tt) (refl, tt) in
    let out = found_out (weight net (has_clone net)) (λ t. not (is_answer_to a.parent.0 t)) is_away net.things (thing.Answer a) f (ap not (itself a.parent.0)) in
    let held = held_at net a.parent.0 h in
    let done = done_load net (has_clone net) a.parent a.status a.value h.request (i - 1) h.found
    (λ g e. let b = asked g e in let up = held_at net g.0 b.parent in let less = b.below in let here : place_position net h.request.at ≡ i = ap (place_position net) h.at in omega (arith, up, less, here)) in
    let most = work_after (after_rows net rows) (has_clone net) stay in
    let start = work_least net in
    omega (arith, out, held, done, most, start)
