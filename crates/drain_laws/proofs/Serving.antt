-- How each event leaves the requests waiting at modules that take requests, or served.
use Rattle.std.proofs.Common.{◌≡◌, ℕ, ◌==◌, ◌||◌, not, Bool, true, false, cond, List, [], ◌∷◌, ◌++◌, Option, Some, None, refl, arith, ap, sym, subst, ◌∙◌, ◌⊎◌, inl, inr, option_map, filter, map}
use Rattle.std.specs.List.{list_any}
use Rattle.std.proofs.lemmas.Bool.Decides.{nat_tests}
use Rattle.std.proofs.lemmas.List.Folds.{list_any-append}
use Rattle.ndis_base.specs.declared.ModuleId.{ModuleId}
use Rattle.ndis_base.specs.declared.ModuleId.TheVariants.{Miniport, Filter, Binding}
use Rattle.ndis_base.specs.declared.OidNo.{OidNo}
use Rattle.ndis_base.specs.declared.OidKind.{OidKind}
use Rattle.ndis_base.specs.declared.OidStatus.{OidStatus}
use Rattle.journal_types.specs.declared.Row.TheVariants as row
use Rattle.stack_rules.specs.declared.Request.{Request}
use Rattle.stack_rules.specs.declared.RequestAt.{RequestAt}
use Rattle.stack_rules.specs.declared.RequestAt.TheVariants as at
use Rattle.stack_rules.specs.declared.Thing.{Thing}
use Rattle.stack_rules.specs.declared.Thing.TheVariants as thing
use Rattle.stack_rules.specs.Net.{Net, Modules, after, after_rows, is_answer_to, after_answer, below, first_oid, given_to, has_oid, place_below, place_of_clone, place_of_request, request_of, things_after_done}
use Rattle.stack_rules.specs.Outcome.{oid_no}
use Rattle.stack_rules.specs.OidTable.{report_of}
use Rattle.stack_rules.specs.Requests.{Giving, given_rows_by, giving_rows}
use Rattle.stack_rules.specs.Rewires.{is_in}
use Rattle.rule_basics.specs.Live.{EachRequest, EachApart}
use Rattle.request_laws.proofs.Answers.{answered}
use Rattle.request_laws.proofs.Finds.{EachRequest-implies, found_by_number, found_given, apart_given}
use Rattle.request_laws.proofs.Givings.{GivesNext}
use Rattle.request_laws.proofs.Orders.{TakesRequests}
use Rattle.request_laws.proofs.Rows.{AsksSame}
use Rattle.drain_laws.specs.Serving.{Takes, is_clone, has_clone_of, has_answer, is_served, IsServed, AreServed}
use Rattle.drain_laws.proofs.Tests.{itself, not_both, or_both, or_left, or_right}

-- where modules take requests still, and what is served stays served
served_more : (ms other : Modules) (served more : ℕ → Bool) (n : ℕ) (a : RequestAt) → ((m : ModuleId) → Takes ms m → Takes other m) → (served n ≡ true → more n ≡ true) → IsServed ms served n a → IsServed other more n a
served_more ms other served more n at.Entry t s h = tt
served_more ms other served more n (at.Waiting m) t s h = t m h
served_more ms other served more n (at.Given Miniport) t s h = h
served_more ms other served more n (at.Given (Filter f)) t s h = s h
served_more ms other served more n (at.Given (Binding b)) t s h = h

-- the answers among the things
any_answered : (n : ℕ) (ts : List Thing) → has_answer n ts ≡ list_any (λ a. a.parent.0 == n) (answered ts)
any_answered n [] = refl
any_answered n (thing.Answer a ∷ ts) = ap (λ b. (a.parent.0 == n) || b) (any_answered n ts)
any_answered n (thing.List l ∷ ts) = any_answered n ts
any_answered n (thing.Status s ∷ ts) = any_answered n ts

-- rows that tell nothing of requests
same_served : (net next : Net) → AsksSame net next → (n : ℕ) → is_served net n ≡ true → is_served next n ≡ true
same_served net next s n =
    or_both (has_clone_of n net.requests) (has_answer n net.things) (has_clone_of n next.requests) (has_answer n next.things)
    (λ h. ap (has_clone_of n) s.requests ∙ h)
    (λ h. any_answered n next.things ∙ ap (λ xs. list_any (λ a. a.parent.0 == n) xs) s.answers ∙ sym (any_answered n net.things) ∙ h)

pub served_same : (net next : Net) → AsksSame net next → ((m : ModuleId) → Takes net.modules m → Takes next.modules m) → AreServed net → AreServed next
served_same net next s t h =
    subst (EachRequest (λ r. IsServed next.modules (is_served next) r.request.0 r.at)) (sym s.requests)
    (EachRequest-implies _ _ (λ r i. served_more net.modules next.modules (is_served net) (is_served next) r.request.0 r.at t (same_served net next s r.request.0) i) net.requests h)

-- all requests are at the entry
pub entry_served : (next : Net) (rs : List Request) → next.requests ≡ rs → EachRequest (λ r. r.at ≡ at.Entry) rs → AreServed next
entry_served next rs e h =
    subst (EachRequest (λ r. IsServed next.modules (is_served next) r.request.0 r.at)) (sym e)
    (EachRequest-implies _ _ (λ r i. subst (IsServed next.modules (is_served next) r.request.0) (sym i) tt) rs h)

-- one more request
push_each : (P : Request → Type 0) (rs : List Request) (r : Request) → EachRequest P rs → P r → EachRequest P (rs ++ r ∷ [])
push_each P [] r h p = (p, tt)
push_each P (q ∷ rs) r h p = (h.0, push_each P rs r h.1 p)

push_clone : (n : ℕ) (rs more : List Request) → has_clone_of n rs ≡ true → has_clone_of n (rs ++ more) ≡ true
push_clone n rs more h = list_any-append (λ (r : Request). is_clone n r.parent) rs more ∙ or_left (has_clone_of n rs) (has_clone_of n more) h

pub ask_served : (net : Net) (request : OidNo) (binding : ℕ) (kind : OidKind) (code : ℕ) (value : List ℕ) → AreServed net → AreServed (after net (row.OidIssue request None binding kind code value))
ask_served net request binding kind code value h =
    let next : Net = after net (row.OidIssue request None binding kind code value) in
    push_each _ net.requests _
    (EachRequest-implies _ _ (λ r i. served_more net.modules net.modules (is_served net) (is_served next) r.request.0 r.at (λ m t. t)
    (or_both (has_clone_of r.request.0 net.requests) (has_answer r.request.0 net.things) (has_clone_of r.request.0 next.requests) (has_answer r.request.0 net.things) (push_clone r.request.0 net.requests _) (λ a. a)) i) net.requests h) tt

-- a request is given to a module
given_each : (P Q : Request → Type 0) (n : ℕ) (m : ModuleId) → ((q : Request) → P q → Q (given_to n m q)) → (rs : List Request) → EachRequest P rs → EachRequest Q (map (given_to n m) rs)
given_each P Q n m f [] h = tt
given_each P Q n m f (q ∷ rs) h = (f q h.0, given_each P Q n m f rs h.1)

given_parent : (n : ℕ) (m : ModuleId) (q : Request) → (given_to n m q).parent ≡ q.parent
given_parent n m q = elim (q.request.0 == n) as (λ b. (cond b (record q { at = at.Given m }) q).parent ≡ q.parent) [ true ↦ refl | false ↦ refl ]

given_clone : (i n : ℕ) (m : ModuleId) (rs : List Request) → has_clone_of i (map (given_to n m) rs) ≡ has_clone_of i rs
given_clone i n m [] = refl
given_clone i n m (q ∷ rs) =
    ap (λ p. is_clone i p || has_clone_of i (map (given_to n m) rs)) (given_parent n m q) ∙ ap (λ b. is_clone i q.parent || b) (given_clone i n m rs)

-- the filters below a filter are of the order
below_in : (f g : ℕ) (fs : List ℕ) → is_in g (below f fs) ≡ true → is_in g fs ≡ true
below_in f g [] h = h
below_in f g (k ∷ fs) h =
    let cases : (b : Bool) → is_in g (cond b fs (below f fs)) ≡ true → ((k == g) || is_in g fs) ≡ true = elim [
      | true ↦ λ i. or_right (k == g) (is_in g fs) i
      | false ↦ λ i. or_right (k == g) (is_in g fs) (below_in f g fs i)
    ] in
    cases (k == f) h

first_takes : (ms : Modules) (fs : List ℕ) → ((g : ℕ) → is_in g fs ≡ true → is_in g ms.order ≡ true) → Takes ms (first_oid ms fs)
first_takes ms [] f = tt
first_takes ms (g ∷ fs) f =
    let rest : Takes ms (first_oid ms fs) = first_takes ms fs (λ k i. f k (or_right (g == k) (is_in k fs) i)) in
    let cases : (b : Bool) → has_oid ms g ≡ b → Takes ms (cond b (Filter g) (first_oid ms fs)) = elim [
      | true ↦ λ t. (f g (or_left (g == g) (is_in g fs) (itself g)), t)
      | false ↦ λ t. rest
    ] in
    cases (has_oid ms g) refl

-- a filter forwards it by a clone
module _ (net : Net) (r : Request) (found : request_of r.request.0 net.requests ≡ Some r) (h : AreServed net) where
  given_at : (m : ModuleId) → (given_to r.request.0 m r).at ≡ at.Given m
  given_at m = let same = itself r.request.0 in rw same refl

  to_filter : (f : ℕ) (new : OidNo) → AreServed (after_rows net (row.OidGive r.request (Filter f) ∷ row.OidIssue new (Some r.request) r.binding r.kind r.code r.value ∷ []))
  to_filter f new =
      let n : ℕ = r.request.0 in
      let rs : List Request = map (given_to n (Filter f)) net.requests in
      let next : Net = after_rows net (row.OidGive r.request (Filter f) ∷ row.OidIssue new (Some r.request) r.binding r.kind r.code r.value ∷ []) in
      let more : (k : ℕ) → is_served net k ≡ true → is_served next k ≡ true =
      λ k. or_both (has_clone_of k net.requests) (has_answer k net.things) (has_clone_of k next.requests) (has_answer k net.things) (λ c. push_clone k rs _ (given_clone k n (Filter f) net.requests ∙ c)) (λ a. a) in
      let own : is_served next n ≡ true =
      or_left (has_clone_of n next.requests) (has_answer n net.things) (list_any-append (λ (q : Request). is_clone n q.parent) rs _ ∙ or_right (has_clone_of n rs) _ (or_left (n == n) false (itself n))) in
      let found_now : request_of n rs ≡ Some (given_to n (Filter f) r) = found_given n (Filter f) net.requests n ∙ ap (option_map (given_to n (Filter f))) found in
      let place : place_of_request net.modules rs (Some r.request) ≡ at.Waiting (first_oid net.modules (below f net.modules.order)) =
      ap (place_of_clone net.modules) found_now ∙ ap (place_below net.modules) (given_at (Filter f)) in
      let takes : IsServed net.modules (is_served next) new.0 (place_of_request net.modules rs (Some r.request)) =
      subst (IsServed net.modules (is_served next) new.0) (sym place) (first_takes net.modules (below f net.modules.order) (λ g i. below_in f g net.modules.order i)) in
      push_each (λ q. IsServed net.modules (is_served next) q.request.0 q.at) rs _ (given_each _ (λ q. IsServed net.modules (is_served next) q.request.0 q.at) n (Filter f) (λ q i. old next n q (more q.request.0) own i) net.requests h) takes
    where
      old : (next : Net) (n : ℕ) (q : Request) → (is_served net q.request.0 ≡ true → is_served next q.request.0 ≡ true) → is_served next n ≡ true → IsServed net.modules (is_served net) q.request.0 q.at → IsServed net.modules (is_served next) (given_to n (Filter f) q).request.0 (given_to n (Filter f) q).at
      old next n q more own i =
          let cases : (b : Bool) → (q.request.0 == n) ≡ b → IsServed net.modules (is_served next) (cond b (record q { at = at.Given (Filter f) }) q).request.0 (cond b (record q { at = at.Given (Filter f) }) q).at = elim [
            | true ↦ λ t. let same : q.request.0 ≡ n = grind (arith, nat_tests) in ap (is_served next) same ∙ own
            | false ↦ λ t. served_more net.modules net.modules (is_served net) (is_served next) q.request.0 q.at (λ m t. t) more i
          ] in
          cases (q.request.0 == n) refl

-- a request is done
still_all : (n m : ℕ) (rs : List Request) → m ≡ n → EachRequest (λ q. (q.request.0 == m) ≡ false) rs → filter (λ q. not (q.request.0 == n)) rs ≡ rs
still_all n m [] e h = refl
still_all n m (q ∷ rs) e h =
    let other : (q.request.0 == n) ≡ false = ap (λ k. q.request.0 == k) (sym e) ∙ h.0 in
    ap (λ b. cond (not b) (q ∷ filter (λ q. not (q.request.0 == n)) rs) (filter (λ q. not (q.request.0 == n)) rs)) other ∙ ap (λ others. q ∷ others) (still_all n m rs e h.1)

-- a clone is left, or it is the one that is done
abbrev LeftOrDone : ℕ → ℕ → List Request → Type 0
LeftOrDone k n rs = (has_clone_of k (filter (λ (q : Request). not (q.request.0 == n)) rs) ≡ true) ⊎ ((c : Request) × (request_of n rs ≡ Some c) × (is_clone k c.parent ≡ true))

left_or_done : (k n : ℕ) (rs : List Request) → EachApart rs → has_clone_of k rs ≡ true → LeftOrDone k n rs
left_or_done k n [] a h = cc
left_or_done k n (q ∷ rs) a h = by (q.request.0 == n) (is_clone k q.parent) refl refl h (left_or_done k n rs a.1)
  where
    by : (b c : Bool) → (q.request.0 == n) ≡ b → is_clone k q.parent ≡ c → (c || has_clone_of k rs) ≡ true → (has_clone_of k rs ≡ true → LeftOrDone k n rs) →
        (has_clone_of k (cond (not b) (q ∷ filter (λ (q : Request). not (q.request.0 == n)) rs) (filter (λ (q : Request). not (q.request.0 == n)) rs)) ≡ true) ⊎ ((x : Request) × (cond b (Some q) (request_of n rs) ≡ Some x) × (is_clone k x.parent ≡ true))
    by true true t u h rest = inr (q, refl, u)
    by true false t u h rest =
        let same : q.request.0 ≡ n = grind (arith, nat_tests) in
        inl (ap (has_clone_of k) (still_all n q.request.0 rs same a.0) ∙ h)
    by false true t u h rest = inl (or_left (is_clone k q.parent) _ u)
    by false false t u h rest = on (rest h)
      where
        on : LeftOrDone k n rs → (has_clone_of k (q ∷ filter (λ (q : Request). not (q.request.0 == n)) rs) ≡ true) ⊎ ((x : Request) × (request_of n rs ≡ Some x) × (is_clone k x.parent ≡ true))
        on (inl l) = inl (or_right (is_clone k q.parent) _ l)
        on (inr d) = inr d

-- answers to others are left
others_answered : (k n : ℕ) (ts : List Thing) → (k == n) ≡ false → has_answer k ts ≡ true → has_answer k (filter (λ t. not (is_answer_to n t)) ts) ≡ true
others_answered k n [] e h = h
others_answered k n (thing.List l ∷ ts) e h = others_answered k n ts e h
others_answered k n (thing.Status s ∷ ts) e h = others_answered k n ts e h
others_answered k n (thing.Answer a ∷ ts) e h = by (a.parent.0 == n) (a.parent.0 == k) refl refl h (others_answered k n ts e)
  where
    clash : (p : ℕ) → (p == n) ≡ true → (p == k) ≡ true → (k == n) ≡ false → ⊥
    clash p t u e = grind (arith, nat_tests)

    by : (b c : Bool) → (a.parent.0 == n) ≡ b → (a.parent.0 == k) ≡ c → (c || has_answer k ts) ≡ true → (has_answer k ts ≡ true → has_answer k (filter (λ t. not (is_answer_to n t)) ts) ≡ true) → has_answer k (cond (not b) (thing.Answer a ∷ filter (λ t. not (is_answer_to n t)) ts) (filter (λ t. not (is_answer_to n t)) ts)) ≡ true
    by true true t u h rest = absurd (clash a.parent.0 t u e)
    by true false t u h rest = rest h
    by false true t u h rest = or_left (a.parent.0 == k) _ u
    by false false t u h rest = or_right (a.parent.0 == k) _ (rest h)

push_answer : (k : ℕ) (ts more : List Thing) → has_answer k ts ≡ true → has_answer k (ts ++ more) ≡ true
push_answer k ts more h = list_any-append (is_answer_to k) ts more ∙ or_left (has_answer k ts) (has_answer k more) h

-- the answers after a request is done
answer_left : (k n : ℕ) (o : Option Request) (request : OidNo) (status : OidStatus) (value : List ℕ) (ts : List Thing) → request.0 ≡ n → (k == n) ≡ false → has_answer k ts ≡ true → has_answer k (things_after_done o request status value ts) ≡ true
answer_left k n None request status value ts i e h = h
answer_left k n (Some c) request status value ts i e h = by c.parent
  where
    others : has_answer k (filter (λ t. not (is_answer_to request.0 t)) ts) ≡ true
    others = others_answered k request.0 ts (ap (λ m. k == m) i ∙ e) h

    by : (p : Option OidNo) → has_answer k (after_answer p request status value (filter (λ t. not (is_answer_to request.0 t)) ts)) ≡ true
    by None = others
    by (Some p) = push_answer k (filter (λ t. not (is_answer_to request.0 t)) ts) _ others

answer_new : (k : ℕ) (p : Option OidNo) (request : OidNo) (status : OidStatus) (value : List ℕ) (ts : List Thing) → is_clone k p ≡ true → has_answer k (after_answer p request status value ts) ≡ true
answer_new k None request status value ts h = cc
answer_new k (Some p) request status value ts h = list_any-append (is_answer_to k) ts _ ∙ or_right (has_answer k ts) _ (or_left (p.0 == k) false h)

done_served : (net : Net) (request : OidNo) (status : OidStatus) (value : List ℕ) (k : ℕ) → EachApart net.requests → (k == request.0) ≡ false → is_served net k ≡ true → is_served (after net (row.OidDone request status value)) k ≡ true
done_served net request status value k a e h = by (has_clone_of k net.requests) refl h
  where
    next_things : has_answer k net.things ≡ true → is_served (after net (row.OidDone request status value)) k ≡ true
    next_things t = or_right (has_clone_of k (after net (row.OidDone request status value)).requests) _ (answer_left k request.0 (request_of request.0 net.requests) request status value net.things refl e t)

    cloned : LeftOrDone k request.0 net.requests → is_served (after net (row.OidDone request status value)) k ≡ true
    cloned (inl l) = or_left (has_clone_of k (after net (row.OidDone request status value)).requests) _ l
    cloned (inr d) =
        or_right (has_clone_of k (after net (row.OidDone request status value)).requests) _
        (subst (λ o. has_answer k (things_after_done o request status value net.things) ≡ true) (sym d.1) (answer_new k d.0.parent request status value (filter (λ t. not (is_answer_to request.0 t)) net.things) d.2))

    by : (b : Bool) → has_clone_of k net.requests ≡ b → (b || has_answer k net.things) ≡ true → is_served (after net (row.OidDone request status value)) k ≡ true
    by true t h = cloned (left_or_done k request.0 net.requests a t)
    by false t h = next_things h

-- what is left of some requests
but_each : (P Q : Request → Type 0) (n : ℕ) → ((q : Request) → (q.request.0 == n) ≡ false → P q → Q q) → (rs : List Request) → EachRequest P rs → EachRequest Q (filter (λ q. not (q.request.0 == n)) rs)
but_each P Q n f [] h = tt
but_each P Q n f (q ∷ rs) h =
    let rest = but_each P Q n f rs h.1 in
    let cases : (b : Bool) → (q.request.0 == n) ≡ b → EachRequest Q (cond (not b) (q ∷ filter (λ q. not (q.request.0 == n)) rs) (filter (λ q. not (q.request.0 == n)) rs)) = elim [
      | true ↦ λ t. rest
      | false ↦ λ t. (f q t h.0, rest)
    ] in
    cases (q.request.0 == n) refl

-- all but one are served
abbrev ServedBut : Net → ℕ → Type 0
ServedBut net n = EachRequest (λ q. (q.request.0 == n) ≡ false → IsServed net.modules (is_served net) q.request.0 q.at) net.requests

done_but : (net : Net) (request : OidNo) (status : OidStatus) (value : List ℕ) → EachApart net.requests → ServedBut net request.0 → AreServed (after net (row.OidDone request status value))
done_but net request status value a h =
    but_each _ (λ q. IsServed net.modules (is_served (after net (row.OidDone request status value))) q.request.0 q.at) request.0
    (λ q e i. served_more net.modules net.modules (is_served net) (is_served (after net (row.OidDone request status value))) q.request.0 q.at (λ m t. t) (done_served net request status value q.request.0 a e) (i e)) net.requests h

pub answer_served : (net : Net) (request : OidNo) (status : OidStatus) (value : List ℕ) → EachApart net.requests → AreServed net → AreServed (after net (row.OidDone request status value))
answer_served net request status value a h = done_but net request status value a (EachRequest-implies _ _ (λ q i e. i) net.requests h)

-- the miniport answers it
to_miniport : (net : Net) (r : Request) (status : OidStatus) (value : List ℕ) → EachApart net.requests → AreServed net → AreServed (after_rows net (row.OidGive r.request Miniport ∷ row.OidDone r.request status value ∷ []))
to_miniport net r status value a h =
    let n : ℕ = r.request.0 in
    let given : Net = after net (row.OidGive r.request Miniport) in
    let more : (k : ℕ) → is_served net k ≡ true → is_served given k ≡ true =
    λ k. or_both (has_clone_of k net.requests) (has_answer k net.things) (has_clone_of k given.requests) (has_answer k net.things) (λ c. given_clone k n Miniport net.requests ∙ c) (λ t. t) in
    let but : ServedBut given n = given_each _ (λ q. (q.request.0 == n) ≡ false → IsServed net.modules (is_served given) q.request.0 q.at) n Miniport (λ q i. old given n q (more q.request.0) i) net.requests h in
    done_but given r.request status value (apart_given n Miniport net.requests a) but
  where
    old : (given : Net) (n : ℕ) (q : Request) → (is_served net q.request.0 ≡ true → is_served given q.request.0 ≡ true) → IsServed net.modules (is_served net) q.request.0 q.at →
        ((given_to n Miniport q).request.0 == n) ≡ false → IsServed net.modules (is_served given) (given_to n Miniport q).request.0 (given_to n Miniport q).at
    old given n q more i =
        let cases : (b : Bool) → (q.request.0 == n) ≡ b → ((cond b (record q { at = at.Given Miniport }) q).request.0 == n) ≡ false → IsServed net.modules (is_served given) (cond b (record q { at = at.Given Miniport }) q).request.0 (cond b (record q { at = at.Given Miniport }) q).at = elim [
          | true ↦ λ t e. absurd (not_both (q.request.0 == n) t e)
          | false ↦ λ t e. served_more net.modules net.modules (is_served net) (is_served given) q.request.0 q.at (λ m t. t) more i
        ] in
        cases (q.request.0 == n) refl

-- a pump that works a request
pub giving_served : (net : Net) (g : Giving) → EachApart net.requests → GivesNext net g → AreServed net → AreServed (after_rows net (giving_rows net g))
giving_served net g a n h = by g.module_id n.takes
  where
    by : (m : ModuleId) → TakesRequests net.modules m → AreServed (after_rows net (row.OidGive g.request.request m ∷ given_rows_by net g.request m))
    by Miniport t = to_miniport net g.request (report_of net g.request).status (report_of net g.request).value a h
    by (Filter f) t = to_filter net g.request (found_by_number n.test net.requests g.request a n.found) h f (oid_no net.next.request)
    by (Binding b) t = absurd t
