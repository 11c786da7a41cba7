-- A request that a pump gives to a module leaves less to do.
use Rattle.std.proofs.Common.{◌≡◌, ℕ, ◌+◌, ◌-◌, ◌*◌, ◌≤◌, ◌==◌, not, Bool, true, false, cond, List, [], ◌∷◌, ◌++◌, Some, refl, arith, ap, sym, subst, ◌∙◌, ◌⊎◌, inl, inr, filter, find, map, sum_by}
use Rattle.std.proofs.lemmas.Bool.Decides.{nat_tests}
use Rattle.std.proofs.lemmas.List.Sums.{sum_by-cons, sum_by_push, sum_by-le-sum_by}
use Rattle.ndis_base.specs.declared.OidNo.{OidNo}
use Rattle.ndis_base.specs.declared.OidKind.{OidKind}
use Rattle.ndis_base.specs.declared.OidStatus.{OidStatus}
use Rattle.ndis_base.specs.declared.ModuleId.{ModuleId}
use Rattle.ndis_base.specs.declared.ModuleId.TheVariants.{Miniport, Filter, Binding}
use Rattle.journal_types.specs.declared.Row.{Row}
use Rattle.journal_types.specs.declared.Row.TheVariants as row
use Rattle.stack_rules.specs.declared.Answered.{Answered}
use Rattle.stack_rules.specs.declared.StatusAway.{StatusAway}
use Rattle.stack_rules.specs.declared.LiveList.{LiveList}
use Rattle.stack_rules.specs.declared.Request.{Request}
use Rattle.stack_rules.specs.declared.RequestAt.{RequestAt}
use Rattle.stack_rules.specs.declared.RequestAt.TheVariants as at
use Rattle.stack_rules.specs.declared.Thing.{Thing}
use Rattle.stack_rules.specs.declared.Thing.TheVariants as thing
use Rattle.stack_rules.specs.Net.{Net, after, after_rows, request_of, is_answer_to, given_to, first_oid, below, place_of_clone, place_of_request}
use Rattle.stack_rules.specs.Places.{position, has_clone}
use Rattle.stack_rules.specs.Requests.{Giving, given_rows_by, giving_rows}
use Rattle.stack_rules.specs.OidTable.{report_of}
use Rattle.stack_rules.specs.Outcome.{oid_no}
use Rattle.stack_rules.specs.Rewires.{is_in}
use Rattle.stack_rules.specs.Work.{bottom, given_position, holder_position, request_work}
use Rattle.state_laws.specs.Shape.{IsDistinct}
use Rattle.rule_basics.specs.Numbers.{IsNumbered}
use Rattle.work_laws.proofs.Sums.{sum_filter}
use Rattle.work_laws.proofs.Weights.{Stay, weight, asked_work, load, work_least, work_after}
use Rattle.work_laws.proofs.Clones.{clones_rows}
use Rattle.work_laws.proofs.Ways.{position_most}
use Rattle.work_laws.proofs.Adds.{new_holder}
use Rattle.work_laws.proofs.Filters.{Lowers}
use Rattle.request_laws.proofs.Orders.{TakesRequests, clone_below}
use Rattle.place_laws.specs.Kept.{place_position, IsBelow, IsAsked, EachAnswer}
use Rattle.work_laws.proofs.Items.{held_at, done_load}

-- two sums that differ only at answers
answers_less : (v w : Thing → ℕ) (P : Answered → Type 0) → ((l : LiveList) → v (thing.List l) ≤ w (thing.List l)) → ((s : StatusAway) → v (thing.Status s) ≤ w (thing.Status s)) → ((a : Answered) → P a → v (thing.Answer a) ≤ w (thing.Answer a)) →
    (ts : List Thing) → EachAnswer P ts → sum_by v ts ≤ sum_by w ts
answers_less v w P f g k [] h = omega arith
answers_less v w P f g k (thing.List l ∷ ts) h =
    let rest = answers_less v w P f g k ts h in let one = f l in let left = sum_by-cons v (thing.List l) ts in let right = sum_by-cons w (thing.List l) ts in omega (arith, rest, one, left, right)
answers_less v w P f g k (thing.Status s ∷ ts) h =
    let rest = answers_less v w P f g k ts h in let one = g s in let left = sum_by-cons v (thing.Status s) ts in let right = sum_by-cons w (thing.Status s) ts in omega (arith, rest, one, left, right)
answers_less v w P f g k (thing.Answer a ∷ ts) h =
    let rest = answers_less v w P f g k ts h.1 in let one = k a h.0 in let left = sum_by-cons v (thing.Answer a) ts in let right = sum_by-cons w (thing.Answer a) ts in omega (arith, rest, one, left, right)

-- a request that is given, and the others
given_found : (n : ℕ) (m : ModuleId) (rs : List Request) (r : Request) → request_of n rs ≡ Some r → request_of n (map (given_to n m) rs) ≡ Some (record r { at = at.Given m })
given_found n m [] r f = cc
given_found n m (q ∷ rs) r f =
    let cases : (b : Bool) → (q.request.0 == n) ≡ b → cond b (Some q) (request_of n rs) ≡ Some r → cond ((cond b (record q { at = at.Given m }) q).request.0 == n) (Some (cond b (record q { at = at.Given m }) q)) (request_of n (map (given_to n m) rs)) ≡ Some (record r { at = at.Given m }) = elim [
      | true ↦ λ t g. rw t (ap (λ (k : Request). Some (record k { at = at.Given m })) (same q r g))
      | false ↦ λ t g. rw t (given_found n m rs r g)
    ] in
    cases (q.request.0 == n) refl f
  where
    same : (x y : Request) → Some x ≡ Some y → x ≡ y
    same x y g = cc

given_other : (net : Net) (n i : ℕ) (m : ModuleId) → (i == n) ≡ false → (rs : List Request) → holder_position net (request_of i (map (given_to n m) rs)) ≤ holder_position net (request_of i rs)
given_other net n i m a [] = omega arith
given_other net n i m a (q ∷ rs) =
    let rest = given_other net n i m a rs in
    let cases : (b c : Bool) → (q.request.0 == n) ≡ b → (q.request.0 == i) ≡ c → holder_position net (cond ((cond b (record q { at = at.Given m }) q).request.0 == i) (Some (cond b (record q { at = at.Given m }) q)) (request_of i (map (given_to n m) rs))) ≤ holder_position net (cond c (Some q) (request_of i rs)) = elim [
      | true ↦ elim [ true ↦ λ s t. absurd (clash q.request.0 i n s t a) | false ↦ λ s t. rw t rest ]
      | false ↦ elim [ true ↦ λ s t. rw t (omega arith) | false ↦ λ s t. rw t rest ]
    ] in
    cases (q.request.0 == n) (q.request.0 == i) refl refl
  where
    clash : (k i n : ℕ) → (k == n) ≡ true → (k == i) ≡ true → (i == n) ≡ false → ⊥
    clash k i n s t a = grind (arith, nat_tests)

-- what is given waits no more
one_given : (net : Net) (n : ℕ) (m : ModuleId) (q : Request) → request_work net (given_to n m q).at ≤ request_work net q.at
one_given net n m q = elim (q.request.0 == n) as (λ b. request_work net (cond b (record q { at = at.Given m }) q).at ≤ request_work net q.at) [ true ↦ omega arith | false ↦ omega arith ]

all_given : (net : Net) (n : ℕ) (m : ModuleId) (rs : List Request) → sum_by (λ (q : Request). request_work net q.at) (map (given_to n m) rs) ≤ sum_by (λ (q : Request). request_work net q.at) rs
all_given net n m [] = omega arith
all_given net n m (q ∷ rs) =
    let left = sum_by-cons (λ (q : Request). request_work net q.at) (given_to n m q) (map (given_to n m) rs) in
    let right = sum_by-cons (λ (q : Request). request_work net q.at) q rs in
    let one = one_given net n m q in
    let rest = all_given net n m rs in
    omega (arith, left, right, one, rest)

its_own : (net : Net) (m : ModuleId) (r : Request) → request_work net (given_to r.request.0 m r).at ≤ 0
its_own net m r = let t = itself r.request.0 in rw t (omega arith)
  where
    itself : (n : ℕ) → (n == n) ≡ true
    itself n = grind (arith, nat_tests)

given_asked : (net : Net) (p : Request → Bool) (m : ModuleId) (rs : List Request) (r : Request) → find p rs ≡ Some r →
    sum_by (λ (q : Request). request_work net q.at) (map (given_to r.request.0 m) rs) + request_work net r.at ≤ sum_by (λ (q : Request). request_work net q.at) rs
given_asked net p m [] r f = cc
given_asked net p m (q ∷ rs) r f =
    let left = sum_by-cons (λ (q : Request). request_work net q.at) (given_to r.request.0 m q) (map (given_to r.request.0 m) rs) in
    let right = sum_by-cons (λ (q : Request). request_work net q.at) q rs in
    let one = one_given net r.request.0 m q in
    let all = all_given net r.request.0 m rs in
    let cases : (b : Bool) → cond b (Some q) (find p rs) ≡ Some r → sum_by (λ (q : Request). request_work net q.at) (map (given_to r.request.0 m) (q ∷ rs)) + request_work net r.at ≤ sum_by (λ (q : Request). request_work net q.at) (q ∷ rs) = elim [
      | true ↦ λ g.
          let same : q ≡ r = same q r g in
          let own : request_work net (given_to r.request.0 m q).at ≤ 0 = subst (λ (k : Request). request_work net (given_to r.request.0 m k).at ≤ 0) (sym same) (its_own net m r) in
          let equal : request_work net q.at ≡ request_work net r.at = ap (λ (k : Request). request_work net k.at) same in
          omega (arith, left, right, all, own, equal)
      | false ↦ λ g. let rest = given_asked net p m rs r g in omega (arith, left, right, one, rest)
    ] in
    cases (p q) f
  where
    same : (x y : Request) → Some x ≡ Some y → x ≡ y
    same x y g = cc

give_load : (net : Net) (cloned : ℕ → Bool) (p : Request → Bool) (m : ModuleId) (r : Request) → find p net.requests ≡ Some r → EachAnswer (λ a. (a.parent.0 == r.request.0) ≡ false) net.things →
    load (after net (row.OidGive r.request m)) cloned + request_work net r.at ≤ load net cloned
give_load net cloned p m r f h =
    let next : Net = after net (row.OidGive r.request m) in
    let things = answers_less (weight next cloned) (weight net cloned) (λ a. (a.parent.0 == r.request.0) ≡ false) (λ l. omega arith) (λ s. omega arith) (λ a e. given_other net r.request.0 a.parent.0 m e net.requests) net.things h in
    let asked = given_asked net p m net.requests r f in
    omega (arith, things, asked)

-- a request that may be given: it waits at the module, or it is at the entry
pub record MayGive (net : Net) (r : Request) (m : ModuleId) : Type 0 where
  pub test : Request → Bool
  pub found : find test net.requests ≡ Some r
  pub numbered : request_of r.request.0 net.requests ≡ Some r
  pub at : (r.at ≡ at.Entry) ⊎ (r.at ≡ at.Waiting m)
  pub answers : EachAnswer (λ a. (a.parent.0 == r.request.0) ≡ false) net.things
  pub asked : IsAsked net r

-- so much is left at least where it waits
waits_least : (net : Net) (m : ModuleId) (a : RequestAt) → 1 ≤ position net.modules.order m → (a ≡ at.Entry) ⊎ (a ≡ at.Waiting m) → 2 * bottom net - position net.modules.order m ≤ request_work net a
waits_least net m a h (inl e) = rw e (omega (arith, h))
waits_least net m a h (inr e) = rw e (omega arith)

waits_some : (net : Net) (m : ModuleId) (a : RequestAt) → (a ≡ at.Entry) ⊎ (a ≡ at.Waiting m) → 1 ≤ request_work net a
waits_some net m a (inl e) = rw e (omega arith)
waits_some net m a (inr e) = rw e (let most = position_most net.modules.order m in omega (arith, most))

-- to the miniport, which answers it
to_miniport : (net : Net) (r : Request) (status : OidStatus) (value : List ℕ) → IsNumbered net → MayGive net r Miniport → Lowers net (row.OidGive r.request Miniport ∷ row.OidDone r.request status value ∷ [])
to_miniport net r status value n h =
    let rows : List Row = row.OidGive r.request Miniport ∷ row.OidDone r.request status value ∷ [] in
    let next : Net = after net (row.OidGive r.request Miniport) in
    let cloned : ℕ → Bool = has_clone net in
    let stay : Stay cloned (has_clone (after_rows net rows)) = clones_rows net rows n (tt, (tt, tt)) (refl, (refl, tt)) in
    let give = give_load net cloned h.test Miniport r h.found h.answers in
    let given : Request = record r { at = at.Given Miniport } in
    let done : load (after_rows net rows) cloned ≤ sum_by (weight next cloned) (filter (λ t. not (is_answer_to r.request.0 t)) next.things) + (place_position net r.at - 1) + asked_work next =
    done_load next cloned r.request status value given (place_position net r.at - 1) (given_found r.request.0 Miniport net.requests r h.numbered)
    (λ g e.
    let b = h.asked g e in
    let up = held_at net g.0 b.parent in
    let less = given_other net r.request.0 g.0 Miniport (parent_apart g b) net.requests in
    let low = b.below in
    omega (arith, up, less, low)) in
    let out = sum_filter (weight next cloned) (λ t. not (is_answer_to r.request.0 t)) next.things in
    let most = work_after (after_rows net rows) cloned stay in
    let start = work_least net in
    let some = enough r.at h.at in
    omega (arith, give, done, out, most, start, some)
  where
    clash : (m : ModuleId) (q : Request) (f : ℕ) → Some r ≡ Some q → q.at ≡ at.Given (Filter f) → (r.at ≡ at.Entry) ⊎ (r.at ≡ at.Waiting m) → ⊥
    clash m q f e a (inl b) = let same : r.at ≡ at.Given (Filter f) = subst (λ (k : Request). k.at ≡ at.Given (Filter f)) (sym (some_same r q e)) a in cc
      where
        some_same : (x y : Request) → Some x ≡ Some y → x ≡ y
        some_same x y g = cc
    clash m q f e a (inr b) = let same : r.at ≡ at.Given (Filter f) = subst (λ (k : Request). k.at ≡ at.Given (Filter f)) (sym (some_same r q e)) a in cc
      where
        some_same : (x y : Request) → Some x ≡ Some y → x ≡ y
        some_same x y g = cc

    parent_apart : (g : OidNo) → IsBelow net r g.0 → (g.0 == r.request.0) ≡ false
    parent_apart g b = cases (g.0 == r.request.0) refl
      where
        cases : (c : Bool) → (g.0 == r.request.0) ≡ c → c ≡ false
        cases true t =
            let same : r.request.0 ≡ g.0 = grind (arith, nat_tests) in
            absurd (clash Miniport b.parent.request b.parent.filter (sym h.numbered ∙ ap (λ i. request_of i net.requests) same ∙ b.parent.found) b.parent.at h.at)
        cases false t = refl

    enough : (a : RequestAt) → (a ≡ at.Entry) ⊎ (a ≡ at.Waiting Miniport) → place_position net a - 1 + 1 ≤ request_work net a
    enough a (inl e) = rw e (omega arith)
    enough a (inr e) = rw e (omega arith)

-- to a filter, which forwards it by a clone
to_filter : (net : Net) (r : Request) (f : ℕ) (kind : OidKind) (code : ℕ) (value : List ℕ) (binding : ℕ) → IsNumbered net → IsDistinct net.modules.order → is_in f net.modules.order ≡ true → MayGive net r (Filter f) →
    Lowers net (row.OidGive r.request (Filter f) ∷ row.OidIssue (oid_no net.next.request) (Some r.request) binding kind code value ∷ [])
to_filter net r f kind code value binding n d there h =
    let rows : List Row = row.OidGive r.request (Filter f) ∷ row.OidIssue (oid_no net.next.request) (Some r.request) binding kind code value ∷ [] in
    let next : Net = after net (row.OidGive r.request (Filter f)) in
    let last : Net = after_rows net rows in
    let cloned : ℕ → Bool = has_clone net in
    let new : Request = record { request = oid_no net.next.request; parent = Some r.request; binding = binding; kind = kind; code = code; value = value; at = place_of_request next.modules next.requests (Some r.request) } in
    let down : ModuleId = first_oid net.modules (below f net.modules.order) in
    let place : new.at ≡ at.Waiting down = ap (place_of_clone net.modules) (given_found r.request.0 (Filter f) net.requests r h.numbered) in
    let none : given_position next new.at ≡ 0 = ap (given_position next) place in
    let stay : Stay cloned (has_clone last) = clones_rows net rows n (tt, (tt, tt)) (refl, (refl, tt)) in
    let give = give_load net cloned h.test (Filter f) r h.found h.answers in
    let things : sum_by (weight last cloned) next.things ≤ sum_by (weight next cloned) next.things = sum_by-le-sum_by (weight last cloned) (weight next cloned) next.things (forwarded next cloned new none) in
    let asked : asked_work last ≡ asked_work next + request_work net new.at = sum_by_push (λ (q : Request). request_work net q.at) next.requests new in
    let left : request_work net new.at ≡ 2 * bottom net - position net.modules.order down = ap (request_work net) place in
    let far = clone_below net.modules f d there in
    let low = position_most net.modules.order down in
    let least = waits_least net (Filter f) r.at (omega arith) h.at in
    let most = work_after last cloned stay in
    let start = work_least net in
    omega (arith, give, things, asked, left, far, low, least, most, start)
  where
    forwarded : (next : Net) (cloned : ℕ → Bool) (new : Request) → given_position next new.at ≡ 0 → (t : Thing) → weight (record next { requests = next.requests ++ new ∷ [] }) cloned t ≤ weight next cloned t
    forwarded next cloned new e (thing.List l) = omega arith
    forwarded next cloned new e (thing.Status s) = omega arith
    forwarded next cloned new e (thing.Answer a) = new_holder next a.parent.0 next.requests new e

pub giving_lowers : (net : Net) (g : Giving) → IsNumbered net → IsDistinct net.modules.order → TakesRequests net.modules g.module_id → MayGive net g.request g.module_id → Lowers net (giving_rows net g)
giving_lowers net g n d takes h = by g.module_id takes h
  where
    by : (m : ModuleId) → TakesRequests net.modules m → MayGive net g.request m → Lowers net (row.OidGive g.request.request m ∷ given_rows_by net g.request m)
    by Miniport takes h = to_miniport net g.request (report_of net g.request).status (report_of net g.request).value n h
    by (Filter f) takes h = to_filter net g.request f g.request.kind g.request.code g.request.value g.request.binding n d takes h
    by (Binding b) takes h = absurd takes
