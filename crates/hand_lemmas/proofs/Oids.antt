-- What rows of requests change in hand: one is issued, given to a module that has none, or done.
use Rattle.std.proofs.Common.{◌≡◌, ℕ, ◌==◌, not, Bool, true, false, cond, List, [], ◌∷◌, ◌++◌, Some, map, filter, refl, sym, ap, ◌∙◌, subst, arith}
use Rattle.std.proofs.lemmas.Bool.Decides.{nat_tests}
use Rattle.std.proofs.lemmas.Bool.{cond-true, cond-false}
use Rattle.std.proofs.lemmas.List.{map-append}
use Rattle.ndis_base.specs.declared.ModuleId.{ModuleId}
use Rattle.stack_rules.specs.declared.Request.{Request}
use Rattle.stack_rules.specs.declared.RequestAt.{RequestAt}
use Rattle.stack_rules.specs.declared.RequestAt.TheVariants as at
use Rattle.stack_rules.specs.Tests.{same_module}
use Rattle.stack_rules.specs.Net.{given_to, request_of}
use Rattle.stack_rules.specs.Requests.{is_at_entry, is_waiting_at, is_given_to}
use Rattle.hand_lemmas.specs.Asks.{Asked, asked_as, Asks, AsksAgree, but, taken_out, at_entry, put_waiting, put_given}
use Rattle.rule_basics.specs.Live.{EachRequest, EachApart}
use Rattle.hand_lemmas.proofs.Filters.{filters_swap, filter_shown, push_yes, push_no}
use Rattle.hand_lemmas.proofs.Modules.{same_self, at_each}
use Rattle.hand_lemmas.proofs.Shows.{kept_elsewhere}

-- the requests of one kind of place
abbrev placed : (RequestAt → Bool) → List Request → List Request
placed q rs = filter (λ r. q r.at) rs

-- one is done
placed_but : (q : RequestAt → Bool) (n : ℕ) (rs : List Request) (qs : List Asked) → qs ≡ map asked_as (placed q rs) → but n qs ≡ map asked_as (placed q (filter (λ r. not (r.request.0 == n)) rs))
placed_but q n rs qs e =
    ap (but n) e
    ∙ sym (filter_shown asked_as (λ x. not (x.number.0 == n)) (λ r. not (r.request.0 == n)) (λ r. refl) (placed q rs))
    ∙ ap (map asked_as) (filters_swap (λ r. not (r.request.0 == n)) (λ r. q r.at) rs)

pub oid_out : (n : ℕ) (rs : List Request) (h : Asks) → AsksAgree rs h → AsksAgree (filter (λ r. not (r.request.0 == n)) rs) (taken_out n h)
oid_out n rs h a = record {
  entry_is = placed_but is_at_entry n rs h.entry a.entry_is;
  waiting_is = λ m. placed_but (is_waiting_at m) n rs (h.waiting m) (a.waiting_is m);
  given_is = λ m. placed_but (is_given_to m) n rs (h.given m) (a.given_is m);
}

-- one is issued
placed_push : (q : RequestAt → Bool) (rs : List Request) (r : Request) (qs : List Asked) → q r.at ≡ true → qs ≡ map asked_as (placed q rs) → qs ++ asked_as r ∷ [] ≡ map asked_as (placed q (rs ++ r ∷ []))
placed_push q rs r qs passes e =
    ap (λ zs. zs ++ asked_as r ∷ []) e ∙ sym (map-append asked_as (placed q rs) (r ∷ [])) ∙ ap (map asked_as) (sym (push_yes (λ x. q x.at) rs r passes))

placed_still : (q : RequestAt → Bool) (rs : List Request) (r : Request) (qs : List Asked) → q r.at ≡ false → qs ≡ map asked_as (placed q rs) → qs ≡ map asked_as (placed q (rs ++ r ∷ []))
placed_still q rs r qs fails e = e ∙ ap (map asked_as) (sym (push_no (λ x. q x.at) rs r fails))

pub oid_at_entry : (rs : List Request) (r : Request) (h : Asks) → r.at ≡ at.Entry → AsksAgree rs h → AsksAgree (rs ++ r ∷ []) (at_entry (asked_as r) h)
oid_at_entry rs r h e a = record {
  entry_is = placed_push is_at_entry rs r h.entry (ap is_at_entry e) a.entry_is;
  waiting_is = λ m. placed_still (is_waiting_at m) rs r (h.waiting m) (ap (is_waiting_at m) e) (a.waiting_is m);
  given_is = λ m. placed_still (is_given_to m) rs r (h.given m) (ap (is_given_to m) e) (a.given_is m);
}

pub oid_waits : (rs : List Request) (r : Request) (k : ModuleId) (h : Asks) → r.at ≡ at.Waiting k → AsksAgree rs h → AsksAgree (rs ++ r ∷ []) (put_waiting k (asked_as r) h)
oid_waits rs r k h e a = record {
  entry_is = placed_still is_at_entry rs r h.entry (ap is_at_entry e) a.entry_is;
  waiting_is = at_each (λ m qs. qs ≡ map asked_as (placed (is_waiting_at m) (rs ++ r ∷ []))) k (h.waiting k ++ asked_as r ∷ []) h.waiting
      (placed_push (is_waiting_at k) rs r (h.waiting k) (ap (is_waiting_at k) e ∙ same_self k) (a.waiting_is k))
      (λ m other. placed_still (is_waiting_at m) rs r (h.waiting m) (ap (is_waiting_at m) e ∙ kept_elsewhere k m other) (a.waiting_is m));
  given_is = λ m. placed_still (is_given_to m) rs r (h.given m) (ap (is_given_to m) e) (a.given_is m);
}

-- one is given to a module: it leaves every other place
given_away : (q : RequestAt → Bool) (n : ℕ) (m : ModuleId) (rs : List Request) → q (at.Given m) ≡ false → map asked_as (placed q (map (given_to n m) rs)) ≡ map asked_as (placed q (filter (λ r. not (r.request.0 == n)) rs))
given_away q n m [] e = refl
given_away q n m (r ∷ rs) e =
    by_case q n m r (placed q (map (given_to n m) rs)) (filter (λ x. not (x.request.0 == n)) rs) (r.request.0 == n) e (given_away q n m rs e)
  where
    alike : (b : Bool) (r : Request) (xs ys : List Request) → map asked_as xs ≡ map asked_as ys → map asked_as (cond b (r ∷ xs) xs) ≡ map asked_as (cond b (r ∷ ys) ys)
    alike true r xs ys more = ap (λ zs. asked_as r ∷ zs) more
    alike false r xs ys more = more

    by_case : (q : RequestAt → Bool) (n : ℕ) (m : ModuleId) (r : Request) (xs ys : List Request) (b : Bool) → q (at.Given m) ≡ false → map asked_as xs ≡ map asked_as (placed q ys)
        → map asked_as (cond (q (cond b (record r { at = at.Given m }) r).at) (cond b (record r { at = at.Given m }) r ∷ xs) xs) ≡ map asked_as (placed q (cond (not b) (r ∷ ys) ys))
    by_case q n m r xs ys true e more = ap (map asked_as) (cond-false (q (at.Given m)) (record r { at = at.Given m } ∷ xs) xs e) ∙ more
    by_case q n m r xs ys false e more = alike (q r.at) r xs (placed q ys) more

-- and is the only one that the module has
none_given : (n : ℕ) (m : ModuleId) (rs : List Request) → EachRequest (λ q. (q.request.0 == n) ≡ false) rs → placed (is_given_to m) (map (given_to n m) rs) ≡ placed (is_given_to m) rs
none_given n m [] h = refl
none_given n m (r ∷ rs) h =
    ap (λ (b : Bool). cond (is_given_to m (cond b (record r { at = at.Given m }) r).at) (cond b (record r { at = at.Given m }) r ∷ placed (is_given_to m) (map (given_to n m) rs)) (placed (is_given_to m) (map (given_to n m) rs))) h.0
    ∙ ap (λ zs. cond (is_given_to m r.at) (r ∷ zs) zs) (none_given n m rs h.1)

number_for : (n k : ℕ) (rs : List Request) → n ≡ k → EachRequest (λ q. (q.request.0 == n) ≡ false) rs → EachRequest (λ q. (q.request.0 == k) ≡ false) rs
number_for n k rs e h = subst (λ i. EachRequest (λ q. (q.request.0 == i) ≡ false) rs) e h

given_here : (n : ℕ) (m : ModuleId) (rs : List Request) (r : Request) → EachApart rs → request_of n rs ≡ Some r → placed (is_given_to m) rs ≡ [] → map asked_as (placed (is_given_to m) (map (given_to n m) rs)) ≡ asked_as r ∷ []
given_here n m [] r apart found none = cc
given_here n m (x ∷ rs) r apart found none = by_case (λ e none. given_here n m rs r apart.1 e none) (x.request.0 == n) refl found
  where
    not_given : (b : Bool) (x : Request) (xs : List Request) → cond b (x ∷ xs) xs ≡ [] → (b ≡ false) × (xs ≡ [])
    not_given true x xs e = cc
    not_given false x xs e = (refl, e)

    by_case : (request_of n rs ≡ Some r → placed (is_given_to m) rs ≡ [] → map asked_as (placed (is_given_to m) (map (given_to n m) rs)) ≡ asked_as r ∷ []) → (b : Bool) → (x.request.0 == n) ≡ b → cond b (Some x) (request_of n rs) ≡ Some r
        → map asked_as (cond (is_given_to m (cond b (record x { at = at.Given m }) x).at) (cond b (record x { at = at.Given m }) x ∷ placed (is_given_to m) (map (given_to n m) rs)) (placed (is_given_to m) (map (given_to n m) rs))) ≡ asked_as r ∷ []
    by_case more true t e =
        let same : x ≡ r = cc in
        let rest = not_given (is_given_to m x.at) x (placed (is_given_to m) rs) none in
        let number : x.request.0 ≡ n = grind (arith, nat_tests) in
        let gone : placed (is_given_to m) (map (given_to n m) rs) ≡ [] = none_given n m rs (number_for x.request.0 n rs number apart.0) ∙ rest.1 in
        ap (map asked_as) (cond-true (same_module m m) (record x { at = at.Given m } ∷ placed (is_given_to m) (map (given_to n m) rs)) (placed (is_given_to m) (map (given_to n m) rs)) (same_self m))
        ∙ ap (λ zs. asked_as x ∷ map asked_as zs) gone ∙ ap (λ y. asked_as y ∷ []) same
    by_case more false t e =
        let rest = not_given (is_given_to m x.at) x (placed (is_given_to m) rs) none in
        ap (map asked_as) (cond-false (is_given_to m x.at) (x ∷ placed (is_given_to m) (map (given_to n m) rs)) (placed (is_given_to m) (map (given_to n m) rs)) rest.0)
        ∙ more e rest.1

pub oid_given : (n : ℕ) (m : ModuleId) (rs : List Request) (r : Request) (h : Asks) → EachApart rs → request_of n rs ≡ Some r → placed (is_given_to m) rs ≡ [] → AsksAgree rs h
    → AsksAgree (map (given_to n m) rs) (put_given m (asked_as r) (taken_out n h))
oid_given n m rs r h apart found none a =
    let o : AsksAgree (filter (λ x. not (x.request.0 == n)) rs) (taken_out n h) = oid_out n rs h a in
    record {
      entry_is = o.entry_is ∙ sym (given_away is_at_entry n m rs refl);
      waiting_is = λ k. o.waiting_is k ∙ sym (given_away (is_waiting_at k) n m rs refl);
      given_is = at_each (λ k qs. qs ≡ map asked_as (placed (is_given_to k) (map (given_to n m) rs))) m (asked_as r ∷ []) (taken_out n h).given
          (sym (given_here n m rs r apart found none))
          (λ k other. o.given_is k ∙ sym (given_away (is_given_to k) n m rs (kept_elsewhere m k other)));
    }
