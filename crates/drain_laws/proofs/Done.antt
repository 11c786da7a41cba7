-- Where a pump would move nothing, and no list is live, no request is left either, and the work is done.
use Rattle.std.proofs.Common.{◌≡◌, ℕ, ◌≤◌, ◌<◌, ◌==◌, ◌&&◌, ◌||◌, not, Bool, true, false, cond, List, [], ◌∷◌, Option, Some, None, refl, arith, ap, sym, subst, ◌∙◌, ◌⊎◌, inl, inr, find, filter, is_some, nat_le, reverse, sum_by}
use Rattle.std.specs.List.{list_any}
use Rattle.std.proofs.lemmas.Bool.Decides.{nat_tests}
use Rattle.std.proofs.lemmas.List.Sorted.{list_any-IsPermutation, IsPermutation-reverse}
use Rattle.ndis_base.specs.declared.ModuleId.{ModuleId}
use Rattle.ndis_base.specs.declared.ModuleId.TheVariants.{Miniport, Filter, Binding}
use Rattle.ndis_base.specs.declared.OidNo.{OidNo}
use Rattle.stack_rules.specs.declared.Request.{Request}
use Rattle.stack_rules.specs.declared.RequestAt.{RequestAt}
use Rattle.stack_rules.specs.declared.RequestAt.TheVariants as at
use Rattle.stack_rules.specs.declared.Thing.{Thing}
use Rattle.stack_rules.specs.declared.Thing.TheVariants as thing
use Rattle.stack_rules.specs.Tests.{phase_is_halted, phase_is_paused}
use Rattle.stack_rules.specs.Net.{Net, Modules, first_oid, has_oid, lists, request_of}
use Rattle.stack_rules.specs.Places.{is_away, position}
use Rattle.stack_rules.specs.Requests.{Giving, entry_giving, filter_ids, first_waiting, giving_to, has_waiting, is_at_entry, is_busy, is_given_to, lowest_giving, next_giving, oid_modules, or_else, is_waiting_at}
use Rattle.stack_rules.specs.Rewires.{is_in}
use Rattle.stack_rules.specs.Work.{thing_work, request_work, work}
use Rattle.place_laws.specs.Kept.{place_position, IsAsked}
use Rattle.rule_basics.specs.Live.{EachRequest, EachApart}
use Rattle.request_laws.proofs.Finds.{EachRequest-both, EachRequest-implies, each_found}
use Rattle.request_laws.proofs.Orders.{same_is}
use Rattle.drain_laws.specs.Serving.{Takes, is_clone, has_clone_of, has_answer, is_served, IsServed, AreServed}
use Rattle.drain_laws.proofs.Tests.{not_both, or_first, or_left, or_right, same_self}

-- nothing is away and no list is live
pub no_things : (ts : List Thing) → is_some (find is_away ts) ≡ false → lists ts ≡ [] → ts ≡ []
no_things [] e l = refl
no_things (thing.List x ∷ ts) e l = cc
no_things (thing.Status s ∷ ts) e l = cc
no_things (thing.Answer a ∷ ts) e l = cc

-- some request of a kind
any_request : (P : Request → Type 0) (test : Request → Bool) (rs : List Request) → EachRequest P rs → list_any test rs ≡ true → (r : Request) × P r × (test r ≡ true)
any_request P test [] h t = cc
any_request P test (r ∷ rs) h t = by (test r) refl t (any_request P test rs h.1)
  where
    by : (b : Bool) → test r ≡ b → (b || list_any test rs) ≡ true → (list_any test rs ≡ true → (r : Request) × P r × (test r ≡ true)) → (r : Request) × P r × (test r ≡ true)
    by true e t rest = (r, h.0, e)
    by false e t rest = rest t

find_any : (p test : Request → Bool) (rs : List Request) (r : Request) → find p rs ≡ Some r → test r ≡ true → list_any test rs ≡ true
find_any p test [] r f t = cc
find_any p test (q ∷ rs) r f t = by (p q) f (λ g. find_any p test rs r g t)
  where
    same : (x y : Request) → Some x ≡ Some y → x ≡ y
    same x y e = cc

    by : (b : Bool) → cond b (Some q) (find p rs) ≡ Some r → (find p rs ≡ Some r → list_any test rs ≡ true) → (test q || list_any test rs) ≡ true
    by true g rest = or_left (test q) (list_any test rs) (ap test (same q r g) ∙ t)
    by false g rest = or_right (test q) (list_any test rs) (rest g)

any_found : (test : Request → Bool) (rs : List Request) → list_any test rs ≡ true → is_some (find test rs) ≡ true
any_found test [] t = cc
any_found test (r ∷ rs) t = by (test r) t (any_found test rs)
  where
    by : (b : Bool) → (b || list_any test rs) ≡ true → (list_any test rs ≡ true → is_some (find test rs) ≡ true) → is_some (cond b (Some r) (find test rs)) ≡ true
    by true t rest = refl
    by false t rest = rest t

-- a module that takes requests has none waiting, or one given
abbrev IsIdle : List Request → ModuleId → Type 0
IsIdle rs m = has_waiting rs m ≡ true → is_busy rs m ≡ true

abbrev AreIdle : List Request → List ModuleId → Type 0
AreIdle rs [] = Unit {0}
AreIdle rs (m ∷ ms) = IsIdle rs m × AreIdle rs ms

is_some_giving : (m : ModuleId) (o : Option Request) → is_some o ≡ true → is_some (giving_to m o) ≡ true
is_some_giving m None e = cc
is_some_giving m (Some r) e = refl

none_given : (rs : List Request) (ms : List ModuleId) → is_some (lowest_giving rs ms) ≡ false → AreIdle rs ms
none_given rs [] e = tt
none_given rs (m ∷ ms) e = by (has_waiting rs m) (is_busy rs m) refl refl e (none_given rs ms)
  where
    by : (b c : Bool) → has_waiting rs m ≡ b → is_busy rs m ≡ c → is_some (cond (b && not c) (giving_to m (first_waiting rs m)) (lowest_giving rs ms)) ≡ false → (is_some (lowest_giving rs ms) ≡ false → AreIdle rs ms) → IsIdle rs m × AreIdle rs ms
    by true true t u e rest = (λ w. u, rest e)
    by true false t u e rest = absurd (not_both (is_some (giving_to m (first_waiting rs m))) (is_some_giving m (first_waiting rs m) (any_found (λ r. is_waiting_at m r.at) rs t)) e)
    by false c t u e rest = (λ w. absurd (not_both (has_waiting rs m) w t), rest e)

idle_in : (rs : List Request) (f : ℕ) (fs : List ℕ) → AreIdle rs (filter_ids fs) → is_in f fs ≡ true → IsIdle rs (Filter f)
idle_in rs f [] h i = cc
idle_in rs f (g ∷ fs) h i = by (g == f) refl i (idle_in rs f fs h.1)
  where
    by : (b : Bool) → (g == f) ≡ b → (b || is_in f fs) ≡ true → (is_in f fs ≡ true → IsIdle rs (Filter f)) → IsIdle rs (Filter f)
    by true t i rest = let same : g ≡ f = grind (arith, nat_tests) in subst (λ k. IsIdle rs (Filter k)) same h.0
    by false t i rest = rest i

still_in : (f : ℕ) (test : ℕ → Bool) (fs : List ℕ) → test f ≡ true → is_in f fs ≡ true → is_in f (filter test fs) ≡ true
still_in f test [] t i = cc
still_in f test (g ∷ fs) t i = by (g == f) (test g) refl refl i (still_in f test fs t)
  where
    by : (b c : Bool) → (g == f) ≡ b → test g ≡ c → (b || is_in f fs) ≡ true → (is_in f fs ≡ true → is_in f (filter test fs) ≡ true) → is_in f (cond c (g ∷ filter test fs) (filter test fs)) ≡ true
    by true true e u i rest = or_left (g == f) (is_in f (filter test fs)) e
    by true false e u i rest = let same : g ≡ f = grind (arith, nat_tests) in absurd (not_both (test f) t (ap test (sym same) ∙ u))
    by false true e u i rest = or_right (g == f) (is_in f (filter test fs)) (rest i)
    by false false e u i rest = rest i

in_reverse : (f : ℕ) (fs : List ℕ) → is_in f (reverse fs) ≡ is_in f fs
in_reverse f fs = sym (list_any-IsPermutation (λ g. g == f) fs (reverse fs) (IsPermutation-reverse fs))

takes_idle : (ms : Modules) (rs : List Request) (m : ModuleId) → AreIdle rs (oid_modules ms) → Takes ms m → IsIdle rs m
takes_idle ms rs Miniport h t = h.0
takes_idle ms rs (Filter f) h t = idle_in rs f (filter (has_oid ms) (reverse ms.order)) h.1 (still_in f (has_oid ms) (reverse ms.order) t.1 (in_reverse f ms.order ∙ t.0))
takes_idle ms rs (Binding b) h t = absurd t

-- the deepest request
deepest : (P : Request → Type 0) (depth : Request → ℕ) (rs : List Request) → EachRequest P rs → (rs ≡ []) ⊎ ((r : Request) × P r × EachRequest (λ q. depth q ≤ depth r) rs)
deepest P depth [] h = inl refl
deepest P depth (x ∷ rs) h = inr (by (deepest P depth rs h.1))
  where
    up : (a b : ℕ) → a ≤ b → (qs : List Request) → EachRequest (λ q. depth q ≤ a) qs → EachRequest (λ q. depth q ≤ b) qs
    up a b l [] h = tt
    up a b l (q ∷ qs) h = let first = h.0 in (omega (arith, l, first), up a b l qs h.1)

    least : (qs : List Request) → qs ≡ [] → EachRequest (λ q. depth q ≤ depth x) qs
    least [] e = tt
    least (q ∷ qs) e = cc

    by : (rs ≡ []) ⊎ ((r : Request) × P r × EachRequest (λ q. depth q ≤ depth r) rs) → (r : Request) × P r × EachRequest (λ q. depth q ≤ depth r) (x ∷ rs)
    by (inl e) = (x, h.0, (omega arith, least rs e))
    by (inr t) =
        let cases : (b : Bool) → nat_le (depth x) (depth t.0) ≡ b → (r : Request) × P r × EachRequest (λ q. depth q ≤ depth r) (x ∷ rs) = elim [
          | true ↦ λ e. (t.0, t.1, (grind (arith, nat_tests), t.2))
          | false ↦ λ e. (x, h.0, (omega arith, up (depth t.0) (depth x) (grind (arith, nat_tests)) rs t.2))
        ] in
        cases (nat_le (depth x) (depth t.0)) refl

-- what is known of each request, none of which stands deeper
record IsKnown (net : Net) (deep : ℕ) (r : Request) : Type 0 where
  found : request_of r.request.0 net.requests ≡ Some r
  served : IsServed net.modules (is_served net) r.request.0 r.at
  asked : IsAsked net r
  most : place_position net r.at ≤ deep

clone_is : (n : ℕ) (p : Option OidNo) → is_clone n p ≡ true → (g : OidNo) × (p ≡ Some g) × (g.0 ≡ n)
clone_is n None e = cc
clone_is n (Some g) e = (g, refl, grind (arith, nat_tests))

given_is : (m : ModuleId) (a : RequestAt) → is_given_to m a ≡ true → a ≡ at.Given m
given_is m at.Entry e = cc
given_is m (at.Waiting k) e = cc
given_is m (at.Given k) e = ap (λ i. at.Given i) (same_is k m e)

-- a given request has a clone below it
module _ (net : Net) (deep : ℕ) (all : EachRequest (IsKnown net deep) net.requests) (none : net.things ≡ []) where
  below_given : (q : Request) → IsKnown net deep q → (m : ModuleId) → q.at ≡ at.Given m → position net.modules.order m < deep
  below_given q k m e = by m e (subst (IsServed net.modules (is_served net) q.request.0) e k.served)
    where
      one : (x y : Request) → Some x ≡ Some y → x ≡ y
      one x y e = cc

      filters : (f g : ℕ) → at.Given (Filter f) ≡ at.Given (Filter g) → f ≡ g
      filters f g e = cc

      clone : (f : ℕ) → q.at ≡ at.Given (Filter f) → (c : Request) × IsKnown net deep c × (is_clone q.request.0 c.parent ≡ true) → position net.modules.order (Filter f) < deep
      clone f e c =
          let g = clone_is q.request.0 c.0.parent c.2 in
          let low = c.1.asked g.0 g.1 in
          let same : low.parent.request ≡ q = one low.parent.request q (sym low.parent.found ∙ ap (λ n. request_of n net.requests) g.2 ∙ k.found) in
          let filter : low.parent.filter ≡ f = filters low.parent.filter f (sym low.parent.at ∙ ap (λ (r : Request). r.at) same ∙ e) in
          let below : position net.modules.order (Filter low.parent.filter) < place_position net c.0.at = low.below in
          let here : position net.modules.order (Filter low.parent.filter) ≡ position net.modules.order (Filter f) = ap (λ n. position net.modules.order (Filter n)) filter in
          let most : place_position net c.0.at ≤ deep = c.1.most in
          omega (arith, below, here, most)

      by : (m : ModuleId) → q.at ≡ at.Given m → IsServed net.modules (is_served net) q.request.0 (at.Given m) → position net.modules.order m < deep
      by Miniport e s = absurd s
      by (Binding b) e s = absurd s
      by (Filter f) e s =
          clone f e (any_request (IsKnown net deep) (λ r. is_clone q.request.0 r.parent) net.requests all
          (or_first (has_clone_of q.request.0 net.requests) (has_answer q.request.0 net.things) (ap (has_answer q.request.0) none) s))

  -- so the deepest is at the entry
  deepest_waits : AreIdle net.requests (oid_modules net.modules) → (r : Request) → IsKnown net deep r → place_position net r.at ≡ deep → r.at ≡ at.Entry
  deepest_waits idle r k d = by r.at refl k.served
    where
      by : (a : RequestAt) → r.at ≡ a → IsServed net.modules (is_served net) r.request.0 a → a ≡ at.Entry
      by at.Entry e s = refl
      by (at.Given m) e s =
          let low = below_given r k m e in
          let here : position net.modules.order m ≡ deep = sym (ap (place_position net) e) ∙ d in
          absurd (omega (arith, low, here))
      by (at.Waiting m) e s =
          let waiting : has_waiting net.requests m ≡ true = find_any (λ q. q.request.0 == r.request.0) (λ q. is_waiting_at m q.at) net.requests r k.found (ap (is_waiting_at m) e ∙ same_self m) in
          let busy = any_request (IsKnown net deep) (λ q. is_given_to m q.at) net.requests all (takes_idle net.modules net.requests m idle s waiting) in
          let low = below_given busy.0 busy.1 m (given_is m busy.0.at busy.2) in
          let here : position net.modules.order m ≡ deep = sym (ap (place_position net) e) ∙ d in
          absurd (omega (arith, low, here))

  -- and all are
  all_entry : deep ≡ 0 → (r : Request) → IsKnown net deep r → r.at ≡ at.Entry
  all_entry z r k = by r.at refl k.served
    where
      by : (a : RequestAt) → r.at ≡ a → IsServed net.modules (is_served net) r.request.0 a → a ≡ at.Entry
      by at.Entry e s = refl
      by (at.Waiting m) e s =
          let most = k.most in
          let here : place_position net r.at ≡ position net.modules.order m = ap (place_position net) e in
          let some = taken m s in
          absurd (omega (arith, most, here, some, z))
        where
          taken : (m : ModuleId) → Takes net.modules m → 1 ≤ position net.modules.order m
          taken Miniport t = omega arith
          taken (Filter f) t = omega arith
          taken (Binding b) t = absurd t
      by (at.Given m) e s =
          let low = below_given r k m e in
          absurd (omega (arith, low, z))

-- with all requests at the entry a pump would give the first
entry_none : (net : Net) → phase_is_paused net.phase ≡ false → phase_is_halted net.phase ≡ false → EachRequest (λ r. r.at ≡ at.Entry) net.requests → is_some (entry_giving net) ≡ false → net.requests ≡ []
entry_none net p q h e = by net.requests h (busy_none net.requests h) (waiting_none net.requests h) e
  where
    busy_none : (rs : List Request) → EachRequest (λ r. r.at ≡ at.Entry) rs → is_busy rs (first_oid net.modules net.modules.order) ≡ false
    busy_none [] h = refl
    busy_none (r ∷ rs) h = ap (λ a. is_given_to (first_oid net.modules net.modules.order) a || is_busy rs (first_oid net.modules net.modules.order)) h.0 ∙ busy_none rs h.1

    waiting_none : (rs : List Request) → EachRequest (λ r. r.at ≡ at.Entry) rs → has_waiting rs (first_oid net.modules net.modules.order) ≡ false
    waiting_none [] h = refl
    waiting_none (r ∷ rs) h = ap (λ a. is_waiting_at (first_oid net.modules net.modules.order) a || has_waiting rs (first_oid net.modules net.modules.order)) h.0 ∙ waiting_none rs h.1

    chosen : (a b c d : Bool) (g : Option Giving) → a ≡ false → b ≡ false → c ≡ false → d ≡ false → is_some (cond ((a || b) || (c || d)) None g) ≡ false → is_some g ≡ false
    chosen true b c d g x y z w e = cc
    chosen false true c d g x y z w e = cc
    chosen false false true d g x y z w e = cc
    chosen false false false true g x y z w e = cc
    chosen false false false false g x y z w e = e

    first : (r : Request) (rs : List Request) → r.at ≡ at.Entry → find (λ q. is_at_entry q.at) (r ∷ rs) ≡ Some r
    first r rs e = ap (λ a. cond (is_at_entry a) (Some r) (find (λ q. is_at_entry q.at) rs)) e

    by : (rs : List Request) → EachRequest (λ r. r.at ≡ at.Entry) rs → is_busy rs (first_oid net.modules net.modules.order) ≡ false → has_waiting rs (first_oid net.modules net.modules.order) ≡ false →
        is_some (cond ((phase_is_paused net.phase || phase_is_halted net.phase) || (is_busy rs (first_oid net.modules net.modules.order) || has_waiting rs (first_oid net.modules net.modules.order))) None (giving_to (first_oid net.modules net.modules.order) (find (λ r. is_at_entry r.at) rs))) ≡ false → rs ≡ []
    by [] h b w e = refl
    by (r ∷ rs) h b w e =
        let none : is_some (giving_to (first_oid net.modules net.modules.order) (find (λ q. is_at_entry q.at) (r ∷ rs))) ≡ false =
        chosen (phase_is_paused net.phase) (phase_is_halted net.phase) (is_busy (r ∷ rs) (first_oid net.modules net.modules.order)) (has_waiting (r ∷ rs) (first_oid net.modules net.modules.order)) _ p q b w e in
        let some : is_some (giving_to (first_oid net.modules net.modules.order) (find (λ q. is_at_entry q.at) (r ∷ rs))) ≡ true = ap (λ o. is_some (giving_to (first_oid net.modules net.modules.order) o)) (first r rs h.0) in
        absurd (not_both (is_some (giving_to (first_oid net.modules net.modules.order) (find (λ q. is_at_entry q.at) (r ∷ rs)))) some none)

-- what a pump would give
neither_giving : (a b : Option Giving) → is_some (or_else a b) ≡ false → (is_some a ≡ false) × (is_some b ≡ false)
neither_giving None b e = (refl, e)
neither_giving (Some g) b e = cc

pub no_requests : (net : Net) → phase_is_paused net.phase ≡ false → phase_is_halted net.phase ≡ false → net.things ≡ [] → is_some (next_giving net) ≡ false → AreServed net → EachApart net.requests → EachRequest (IsAsked net) net.requests → net.requests ≡ []
no_requests net p q none idle served apart asked =
    let given = neither_giving (lowest_giving net.requests (oid_modules net.modules)) (entry_giving net) idle in
    by given.0 given.1 (deepest (λ r. (request_of r.request.0 net.requests ≡ Some r) × IsServed net.modules (is_served net) r.request.0 r.at × IsAsked net r) (λ r. place_position net r.at) net.requests facts)
  where
    facts : EachRequest (λ r. (request_of r.request.0 net.requests ≡ Some r) × IsServed net.modules (is_served net) r.request.0 r.at × IsAsked net r) net.requests
    facts =
        EachRequest-both (λ r. request_of r.request.0 net.requests ≡ Some r) (λ r. IsServed net.modules (is_served net) r.request.0 r.at × IsAsked net r) _ (λ r f s. (f, s.0, s.1)) net.requests (each_found net.requests apart)
        (EachRequest-both (λ r. IsServed net.modules (is_served net) r.request.0 r.at) (IsAsked net) _ (λ r s a. (s, a)) net.requests served asked)

    by : is_some (lowest_giving net.requests (oid_modules net.modules)) ≡ false → is_some (entry_giving net) ≡ false →
        (net.requests ≡ []) ⊎ ((r : Request) × ((request_of r.request.0 net.requests ≡ Some r) × IsServed net.modules (is_served net) r.request.0 r.at × IsAsked net r) × EachRequest (λ q. place_position net q.at ≤ place_position net r.at) net.requests) → net.requests ≡ []
    by low entry (inl e) = e
    by low entry (inr t) =
        let deep : ℕ = place_position net t.0.at in
        let known : EachRequest (IsKnown net deep) net.requests =
        EachRequest-both _ (λ q. place_position net q.at ≤ place_position net t.0.at) (IsKnown net deep) (λ r f m. record { found = f.0; served = f.1; asked = f.2; most = m }) net.requests facts t.2 in
        let first : t.0.at ≡ at.Entry = deepest_waits net deep known none (none_given net.requests (oid_modules net.modules) low) t.0 (record { found = t.1.0; served = t.1.1; asked = t.1.2; most = omega arith }) refl in
        let zero : deep ≡ 0 = ap (place_position net) first in
        entry_none net p q (EachRequest-implies (IsKnown net deep) _ (λ r k. all_entry net deep known none zero r k) net.requests known) entry

-- nothing is left
pub nothing_left : (net : Net) → net.things ≡ [] → net.requests ≡ [] → work net ≡ 0
nothing_left net t r =
    let things : sum_by (thing_work net) net.things ≡ 0 = ap (sum_by (thing_work net)) t in
    let requests : sum_by (λ (q : Request). request_work net q.at) net.requests ≡ 0 = ap (sum_by (λ (q : Request). request_work net q.at)) r in
    omega (arith, things, requests)
