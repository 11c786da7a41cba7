-- What is kept of requests and answers stays so where a request is issued, given to a module or done, and where the
-- order changes while all requests are at the entry.
use Rattle.std.proofs.Common.{◌≡◌, ℕ, ◌+◌, ◌<◌, ◌==◌, Bool, true, false, cond, List, [], ◌++◌, Option, Some, None, option_map, ◌⊎◌, inl, inr, refl, arith, ap, sym, subst, ◌∙◌}
use Rattle.ndis_base.specs.declared.ModuleId.{ModuleId}
use Rattle.ndis_base.specs.declared.ModuleId.TheVariants.{Filter}
use Rattle.ndis_base.specs.declared.OidNo.{OidNo}
use Rattle.stack_rules.specs.declared.Answered.{Answered}
use Rattle.stack_rules.specs.declared.Request.{Request}
use Rattle.stack_rules.specs.declared.RequestAt.{RequestAt}
use Rattle.stack_rules.specs.declared.RequestAt.TheVariants as at
use Rattle.stack_rules.specs.Net.{given_to}
use Rattle.stack_rules.specs.Places.{position}
use Rattle.request_laws.proofs.Asked.{place_in, IsHeld, IsAbove, HasHolder, Each, HasNoClone, AreKept, Each-implies, Each-both, Each-append, answers_but, Each-but, some_same, none_some, is_equal, is_apart, apart}

-- a request that waits or is at the entry is held by nobody, so nothing was made of it
pub waits_alone : (order : List ℕ) (found : ℕ → Option Request) (n : ℕ) (r : Request) (m : ModuleId) → found n ≡ Some r → (r.at ≡ at.Entry) ⊎ (r.at ≡ at.Waiting m) → (filter : ℕ) → IsHeld order found n filter → ⊥
waits_alone order found n r m f w filter h = cases w (ap (λ (q : Request). q.at) (some_same r h.request (sym f ∙ h.here)) ∙ h.at)
  where
    cases : (r.at ≡ at.Entry) ⊎ (r.at ≡ at.Waiting m) → r.at ≡ at.Given (Filter filter) → ⊥
    cases (inl e) g = cc
    cases (inr e) g = cc

pub waits_childless : (order : List ℕ) (found : ℕ → Option Request) (answers : List Answered) (next : ℕ) → AreKept order found answers next → (n : ℕ) (r : Request) (m : ModuleId) → found n ≡ Some r → (r.at ≡ at.Entry) ⊎ (r.at ≡ at.Waiting m) → HasNoClone found n
waits_childless order found answers next k n r m f w i q g e p same =
    let a : IsAbove order found q.at g.0 = k.asked i q g e p in
    waits_alone order found n r m f w a.filter (subst (λ j. IsHeld order found j a.filter) same a.parent)

pub waits_unanswered : (order : List ℕ) (found : ℕ → Option Request) (answers : List Answered) (next : ℕ) → AreKept order found answers next → (n : ℕ) (r : Request) (m : ModuleId) → found n ≡ Some r → (r.at ≡ at.Entry) ⊎ (r.at ≡ at.Waiting m) → Each (λ a. a.parent.0 ≡ n → ⊥) answers
waits_unanswered order found answers next k n r m f w =
    Each-implies (λ a. HasHolder order found a.parent.0) (λ a. a.parent.0 ≡ n → ⊥) (λ a h same. waits_alone order found n r m f w h.0 (subst (λ j. IsHeld order found j h.0) same h.1)) answers k.held

-- A request goes to a module.
module _ (order : List ℕ) (found : ℕ → Option Request) (answers : List Answered) (next : ℕ) (k : AreKept order found answers next) (n : ℕ) (r : Request) (m : ModuleId) (f : found n ≡ Some r) (w : (r.at ≡ at.Entry) ⊎ (r.at ≡ at.Waiting m)) (then : ℕ → Option Request) (is : (i : ℕ) → then i ≡ option_map (given_to n m) (found i)) where
  record Was (i : ℕ) (q : Request) : Type 0 where
    pub old : Request
    pub here : found i ≡ Some old
    pub number : q.request ≡ old.request
    pub parent : q.parent ≡ old.parent
    pub at : ((i ≡ n) × (q.at ≡ at.Given m)) ⊎ ((i ≡ n → ⊥) × (q.at ≡ old.at))

  was : (i : ℕ) (q : Request) → then i ≡ Some q → Was i q
  was i q e = by (found i) refl (sym (is i) ∙ e)
    where
      by_number : (o : Request) → found i ≡ Some o → (b : Bool) → (o.request.0 == n) ≡ b → cond b (record o { at = at.Given m }) o ≡ q → Was i q
      by_number o h true t s = record {
        old = o;
        here = h;
        number = sym (ap (λ (x : Request). x.request) s);
        parent = sym (ap (λ (x : Request). x.parent) s);
        at = inl (sym (k.named i o h) ∙ is_equal o.request.0 n t, sym (ap (λ (x : Request). x.at) s));
      }
      by_number o h false t s = record {
        old = o;
        here = h;
        number = sym (ap (λ (x : Request). x.request) s);
        parent = sym (ap (λ (x : Request). x.parent) s);
        at = inr (λ same. is_apart o.request.0 n t (k.named i o h ∙ same), sym (ap (λ (x : Request). x.at) s));
      }

      by : (o : Option Request) → found i ≡ o → option_map (given_to n m) o ≡ Some q → Was i q
      by None h s = absurd (none_some q s)
      by (Some o) h s = by_number o h (o.request.0 == n) refl (some_same (given_to n m o) q s)

  still_held : (i filter : ℕ) → IsHeld order found i filter → IsHeld order then i filter
  still_held i filter h = by (h.request.request.0 == n) refl
    where
      by : (b : Bool) → (h.request.request.0 == n) ≡ b → IsHeld order then i filter
      by true t =
          let same : i ≡ n = sym (k.named i h.request h.here) ∙ is_equal h.request.request.0 n t in
          absurd (waits_alone order found n r m f w filter (subst (λ j. IsHeld order found j filter) same h))
      by false t = record {
        request = h.request;
        here = is i ∙ ap (option_map (given_to n m)) h.here ∙ ap (λ b. Some (cond b (record h.request { at = at.Given m }) h.request)) t;
        at = h.at;
        there = h.there;
      }

  still_asked : (i : ℕ) (q : Request) (g : OidNo) → then i ≡ Some q → q.parent ≡ Some g → IsAbove order then q.at g.0
  still_asked i q g e p =
      let x : Was i q = was i q e in
      let a : IsAbove order found x.old.at g.0 = k.asked i x.old g x.here (sym x.parent ∙ p) in
      by x a x.at
    where
      own : (o : Request) → found i ≡ Some o → i ≡ n → (a : IsAbove order found o.at g.0) → position order (Filter a.filter) < position order m
      own o h same a = go (some_same o r (sym h ∙ ap found same ∙ f)) w
        where
          go : o ≡ r → (r.at ≡ at.Entry) ⊎ (r.at ≡ at.Waiting m) → position order (Filter a.filter) < position order m
          go e (inl z) = let at_entry : o.at ≡ at.Entry = ap (λ (x : Request). x.at) e ∙ z in let low : position order (Filter a.filter) < 0 = subst (λ p. position order (Filter a.filter) < place_in order p) at_entry a.below in absurd (omega (arith, low))
          go e (inr z) = subst (λ p. position order (Filter a.filter) < place_in order p) (ap (λ (x : Request). x.at) e ∙ z) a.below

      by : (x : Was i q) (a : IsAbove order found x.old.at g.0) → ((i ≡ n) × (q.at ≡ at.Given m)) ⊎ ((i ≡ n → ⊥) × (q.at ≡ x.old.at)) → IsAbove order then q.at g.0
      by x a (inl s) = record { filter = a.filter; parent = still_held g.0 a.filter a.parent; below = subst (λ p. position order (Filter a.filter) < place_in order p) (sym s.1) (own x.old x.here s.0 a) }
      by x a (inr s) = record { filter = a.filter; parent = still_held g.0 a.filter a.parent; below = subst (λ p. position order (Filter a.filter) < place_in order p) (sym s.1) a.below }

  pub keeps_given : AreKept order then answers next
  keeps_given = record {
    named = λ i q e. let x : Was i q = was i q e in ap (λ (o : OidNo). o.0) x.number ∙ k.named i x.old x.here;
    below = λ i q e. let x : Was i q = was i q e in k.below i x.old x.here;
    asked = still_asked;
    single = λ i j q p g h e d u v s.
        let x : Was i q = was i q e in
        let y : Was j p = was j p d in
        k.single i j x.old y.old g h x.here y.here (sym x.parent ∙ u) (sym y.parent ∙ v) s;
    held = Each-implies (λ a. HasHolder order found a.parent.0) (λ a. HasHolder order then a.parent.0) (λ a h. (h.0, still_held a.parent.0 h.0 h.1)) answers k.held;
    alone = Each-implies (λ a. HasNoClone found a.parent.0) (λ a. HasNoClone then a.parent.0) (λ a h i q g e p s. let x : Was i q = was i q e in h i x.old g x.here (sym x.parent ∙ p) s) answers k.alone;
  }

-- A request is issued: a clone only of a request that a filter holds above it and of which nothing was made yet.
pub record MayStart (order : List ℕ) (found : ℕ → Option Request) (answers : List Answered) (place : RequestAt) (g : OidNo) : Type 0 where
  pub above : IsAbove order found place g.0
  pub childless : HasNoClone found g.0
  pub unanswered : Each (λ a. a.parent.0 ≡ g.0 → ⊥) answers

module _ (order : List ℕ) (found : ℕ → Option Request) (answers : List Answered) (next : ℕ) (k : AreKept order found answers next) (r : Request) (number : r.request.0 ≡ next) (may : (g : OidNo) → r.parent ≡ Some g → MayStart order found answers r.at g) (then : ℕ → Option Request) (is : (i : ℕ) → then i ≡ cond (i == next) (Some r) (found i)) where
  -- the request that is found now is the new one, or it was found before
  record IsNew (i : ℕ) (q : Request) : Type 0 where
    pub same : i ≡ next
    pub request : r ≡ q

  newer : (i : ℕ) (q : Request) → then i ≡ Some q → IsNew i q ⊎ (found i ≡ Some q)
  newer i q e = by (i == next) refl (sym (is i) ∙ e)
    where
      by : (b : Bool) → (i == next) ≡ b → cond b (Some r) (found i) ≡ Some q → IsNew i q ⊎ (found i ≡ Some q)
      by true t s = inl record { same = is_equal i next t; request = some_same r q s }
      by false t s = inr s

  older : (i : ℕ) (q : Request) → found i ≡ Some q → then i ≡ Some q
  older i q e = let other : (i == next) ≡ false = apart i next (λ same. let low = k.below i q e in absurd (omega (arith, low, same))) in is i ∙ ap (λ b. cond b (Some r) (found i)) other ∙ e

  held_on : (i filter : ℕ) → IsHeld order found i filter → IsHeld order then i filter
  held_on i filter h = record { request = h.request; here = older i h.request h.here; at = h.at; there = h.there }

  above_on : (place : RequestAt) (i : ℕ) → IsAbove order found place i → IsAbove order then place i
  above_on place i a = record { filter = a.filter; parent = held_on i a.filter a.parent; below = a.below }

  of_new : (i : ℕ) (q : Request) (g : OidNo) → IsNew i q → q.parent ≡ Some g → MayStart order found answers q.at g
  of_new i q g x p = subst (λ at. MayStart order found answers at g) (ap (λ (y : Request). y.at) x.request) (may g (ap (λ (y : Request). y.parent) x.request ∙ p))

  pub keeps_issued : AreKept order then answers (next + 1)
  keeps_issued = record {
    named = λ i q e. names i q (newer i q e);
    below = λ i q e. lows i q (newer i q e);
    asked = λ i q g e p. asks i q g p (newer i q e);
    single = λ i j q p g h e d u v s. singles i j q p g h u v s (newer i q e) (newer j p d);
    held = Each-implies (λ a. HasHolder order found a.parent.0) (λ a. HasHolder order then a.parent.0) (λ a h. (h.0, held_on a.parent.0 h.0 h.1)) answers k.held;
    alone = Each-both (λ a. HasNoClone found a.parent.0) (λ a. (g : OidNo) → r.parent ≡ Some g → a.parent.0 ≡ g.0 → ⊥) (λ a. HasNoClone then a.parent.0) (λ a h n i q g e p s. lone a h n i q g p s (newer i q e)) answers k.alone (apart_from r.parent refl);
  }
    where
      names : (i : ℕ) (q : Request) → IsNew i q ⊎ (found i ≡ Some q) → q.request.0 ≡ i
      names i q (inl x) = ap (λ (y : Request). y.request.0) (sym x.request) ∙ number ∙ sym x.same
      names i q (inr e) = k.named i q e

      lows : (i : ℕ) (q : Request) → IsNew i q ⊎ (found i ≡ Some q) → i < next + 1
      lows i q (inl x) = let same = x.same in omega (arith, same)
      lows i q (inr e) = let low = k.below i q e in omega (arith, low)

      asks : (i : ℕ) (q : Request) (g : OidNo) → q.parent ≡ Some g → IsNew i q ⊎ (found i ≡ Some q) → IsAbove order then q.at g.0
      asks i q g p (inl x) = above_on q.at g.0 (of_new i q g x p).above
      asks i q g p (inr e) = above_on q.at g.0 (k.asked i q g e p)

      singles : (i j : ℕ) (q p : Request) (g h : OidNo) → q.parent ≡ Some g → p.parent ≡ Some h → g.0 ≡ h.0 → IsNew i q ⊎ (found i ≡ Some q) → IsNew j p ⊎ (found j ≡ Some p) → i ≡ j
      singles i j q p g h u v s (inl x) (inl y) = x.same ∙ sym y.same
      singles i j q p g h u v s (inl x) (inr d) = absurd ((of_new i q g x u).childless j p h d v (sym s))
      singles i j q p g h u v s (inr e) (inl y) = absurd ((of_new j p h y v).childless i q g e u s)
      singles i j q p g h u v s (inr e) (inr d) = k.single i j q p g h e d u v s

      apart_from : (o : Option OidNo) → r.parent ≡ o → Each (λ a. (g : OidNo) → r.parent ≡ Some g → a.parent.0 ≡ g.0 → ⊥) answers
      apart_from None e = Each-implies (λ a. HasNoClone found a.parent.0) (λ a. (g : OidNo) → r.parent ≡ Some g → a.parent.0 ≡ g.0 → ⊥) (λ a h g p s. none_some g (sym e ∙ p)) answers k.alone
      apart_from (Some o) e =
          Each-implies (λ a. a.parent.0 ≡ o.0 → ⊥) (λ a. (g : OidNo) → r.parent ≡ Some g → a.parent.0 ≡ g.0 → ⊥)
          (λ a h g p s. h (s ∙ ap (λ (x : OidNo). x.0) (some_same g o (sym p ∙ e)))) answers (may o e).unanswered

      lone : (a : Answered) → HasNoClone found a.parent.0 → ((g : OidNo) → r.parent ≡ Some g → a.parent.0 ≡ g.0 → ⊥) → (i : ℕ) (q : Request) (g : OidNo) → q.parent ≡ Some g → g.0 ≡ a.parent.0 → IsNew i q ⊎ (found i ≡ Some q) → ⊥
      lone a h n i q g p s (inl x) = n g (ap (λ (y : Request). y.parent) x.request ∙ p) (sym s)
      lone a h n i q g p s (inr e) = h i q g e p s

-- the answer that a request leaves to its parent, where it has one
abbrev pub AreFrom : Option OidNo → List Answered → Type 0
AreFrom None answers = answers ≡ []
AreFrom (Some g) answers = Each (λ a. a.parent.0 ≡ g.0) answers

-- A request of which no clone is left is done.
module _ (order : List ℕ) (found : ℕ → Option Request) (answers : List Answered) (next : ℕ) (k : AreKept order found answers next) (n : ℕ) (r : Request) (f : found n ≡ Some r) (childless : HasNoClone found n) (then : ℕ → Option Request) (is : (i : ℕ) → then i ≡ cond (i == n) None (found i)) (more : List Answered) (from : AreFrom r.parent more) where
  left : (i : ℕ) (q : Request) → then i ≡ Some q → (i ≡ n → ⊥) × (found i ≡ Some q)
  left i q e = by (i == n) refl (sym (is i) ∙ e)
    where
      by : (b : Bool) → (i == n) ≡ b → cond b None (found i) ≡ Some q → (i ≡ n → ⊥) × (found i ≡ Some q)
      by true t s = absurd (none_some q s)
      by false t s = (is_apart i n t, s)

  held_still : (i filter : ℕ) → (i ≡ n → ⊥) → IsHeld order found i filter → IsHeld order then i filter
  held_still i filter other h = record { request = h.request; here = is i ∙ ap (λ b. cond b None (found i)) (apart i n other) ∙ h.here; at = h.at; there = h.there }

  -- its parent is another request, since it has no clone
  parent_other : (g : OidNo) → r.parent ≡ Some g → g.0 ≡ n → ⊥
  parent_other g p same = childless n r g f p same

  asked_still : (i : ℕ) (q : Request) (g : OidNo) → then i ≡ Some q → q.parent ≡ Some g → IsAbove order then q.at g.0
  asked_still i q g e p =
      let old : found i ≡ Some q = (left i q e).1 in
      let a : IsAbove order found q.at g.0 = k.asked i q g old p in
      record { filter = a.filter; parent = held_still g.0 a.filter (childless i q g old p) a.parent; below = a.below }

  holders : (o : Option OidNo) → r.parent ≡ o → AreFrom o more → Each (λ a. HasHolder order then a.parent.0) more
  holders None e from = subst (Each (λ a. HasHolder order then a.parent.0)) (sym from) tt
  holders (Some g) e from =
      let a : IsAbove order found r.at g.0 = k.asked n r g f e in
      let h : HasHolder order then g.0 = (a.filter, held_still g.0 a.filter (parent_other g e) a.parent) in
      Each-implies (λ a. a.parent.0 ≡ g.0) (λ a. HasHolder order then a.parent.0) (λ a s. subst (HasHolder order then) (sym s) h) more from

  loners : (o : Option OidNo) → r.parent ≡ o → AreFrom o more → Each (λ a. HasNoClone then a.parent.0) more
  loners None e from = subst (Each (λ a. HasNoClone then a.parent.0)) (sym from) tt
  loners (Some g) e from =
      Each-implies (λ a. a.parent.0 ≡ g.0) (λ a. HasNoClone then a.parent.0)
      (λ a s i q h d p t. let x = left i q d in x.0 (k.single i n q r h g x.1 f p e (t ∙ s))) more from

  pub keeps_done : AreKept order then (answers_but n answers ++ more) next
  keeps_done = record {
    named = λ i q e. k.named i q (left i q e).1;
    below = λ i q e. k.below i q (left i q e).1;
    asked = asked_still;
    single = λ i j q p g h e d u v s. k.single i j q p g h (left i q e).1 (left j p d).1 u v s;
    held = Each-append (λ a. HasHolder order then a.parent.0) (answers_but n answers) more
        (Each-but (λ a. HasHolder order found a.parent.0) (λ a. HasHolder order then a.parent.0) n (λ a t h. (h.0, held_still a.parent.0 h.0 (is_apart a.parent.0 n t) h.1)) answers k.held)
        (holders r.parent refl from);
    alone = Each-append (λ a. HasNoClone then a.parent.0) (answers_but n answers) more
        (Each-but (λ a. HasNoClone found a.parent.0) (λ a. HasNoClone then a.parent.0) n (λ a t h i q g e p s. h i q g (left i q e).1 p s) answers k.alone)
        (loners r.parent refl from);
  }

-- Where all requests are at the entry nothing was made of them, and the order may change.
abbrev pub AllAtEntry : (ℕ → Option Request) → Type 0
AllAtEntry found = (n : ℕ) (r : Request) → found n ≡ Some r → r.at ≡ at.Entry

pub keeps_reordered : (order others : List ℕ) (found : ℕ → Option Request) (answers : List Answered) (next : ℕ) → AreKept order found answers next → AllAtEntry found → AreKept others found answers next
keeps_reordered order others found answers next k entry = record {
  named = k.named;
  below = k.below;
  asked = λ n r g e p. let a : IsAbove order found r.at g.0 = k.asked n r g e p in absurd (nobody g.0 a.filter a.parent);
  single = k.single;
  held = Each-implies (λ a. HasHolder order found a.parent.0) (λ a. HasHolder others found a.parent.0) (λ a h. absurd (nobody a.parent.0 h.0 h.1)) answers k.held;
  alone = k.alone;
}
  where
    nobody : (n filter : ℕ) → IsHeld order found n filter → ⊥
    nobody n filter h = let e : h.request.at ≡ at.Entry = entry n h.request h.here in let g : h.request.at ≡ at.Given (Filter filter) = h.at in cc
