-- Where the live lists may stand, by the list that each number finds; and that they still do after a list has
-- changed, has come or has gone.
use Rattle.std.proofs.Common.{◌≡◌, ℕ, ◌+◌, ◌<◌, ◌≤◌, ◌==◌, ◌⊎◌, inl, inr, Bool, true, false, List, Option, Some, None, option_map, length, refl, arith, ap, sym, subst, ◌∙◌}
use Rattle.std.proofs.lemmas.Bool.Decides.{nat_tests}
use Rattle.ndis_base.specs.declared.ModuleId.{ModuleId}
use Rattle.ndis_base.specs.declared.ModuleId.TheVariants.{Miniport, Filter, Binding}
use Rattle.ndis_base.specs.declared.Origin.{Origin}
use Rattle.ndis_base.specs.declared.Origin.TheVariants as origin
use Rattle.journal_types.specs.declared.PassWay.TheVariants as way
use Rattle.journal_types.specs.declared.Target.TheVariants.{Module, Bindings}
use Rattle.stack_rules.specs.declared.LiveList.{LiveList}
use Rattle.stack_rules.specs.declared.Stand.{Stand}
use Rattle.stack_rules.specs.declared.Stand.TheVariants as stand
use Rattle.stack_rules.specs.Tests.{is_down}
use Rattle.stack_rules.specs.Places.{position, is_crossed}
use Rattle.stack_rules.specs.Rewires.{is_in}

-- a filter of the order that is below the owner of a send, or above the owner of a receive
pub record IsPast (order : List ℕ) (sends : Bool) (owner : ModuleId) (f : ℕ) : Type 0 where
  pub there : is_in f order ≡ true
  pub sent : sends ≡ true → position order owner < position order (Filter f)
  pub risen : sends ≡ false → position order (Filter f) < position order owner

-- where a send or a receive of an owner may stand
abbrev pub StandsAt : List ℕ → Bool → ModuleId → Stand → Type 0
StandsAt order sends owner stand.Unplaced = Unit {0}
StandsAt order sends owner (stand.Kept Miniport) = sends ≡ true
StandsAt order sends owner (stand.Kept (Filter f)) = IsPast order sends owner f
StandsAt order sends owner (stand.Kept (Binding b)) = sends ≡ false
StandsAt order sends owner (stand.Passed way.Down (Module Miniport)) = sends ≡ true
StandsAt order sends owner (stand.Passed way.Down (Module (Filter f))) = (sends ≡ true) × IsPast order sends owner f
StandsAt order sends owner (stand.Passed way.Down _) = ⊥
StandsAt order sends owner (stand.Passed way.Up Bindings) = sends ≡ false
StandsAt order sends owner (stand.Passed way.Up (Module (Filter f))) = (sends ≡ false) × IsPast order sends owner f
StandsAt order sends owner (stand.Passed way.Up _) = ⊥
StandsAt order sends owner (stand.Passed (way.Done status) (Module m)) = (sends ≡ true) × ((m ≡ owner) ⊎ (position order owner < position order m))
StandsAt order sends owner (stand.Passed (way.Done status) Bindings) = ⊥
StandsAt order sends owner (stand.Passed (way.Back status) (Module m)) = (sends ≡ false) × ((m ≡ owner) ⊎ (position order m < position order owner))
StandsAt order sends owner (stand.Passed (way.Back status) Bindings) = ⊥

-- the owner may have such a list, it stands where it may, and it has crossed only in a virtual miniport's ring
pub record MayStand (order : List ℕ) (virtual : Bool) (owner : ModuleId) (sends : Bool) (at : Stand) (with_other : Bool) : Type 0 where
  pub down : sends ≡ true → position order owner < length order + 1
  pub up : sends ≡ false → 1 ≤ position order owner
  pub stands : StandsAt order sends owner at
  pub crossed : with_other ≡ true → (at ≡ stand.Kept Miniport) × (virtual ≡ true)

-- a list that a clone may be made of: the clone's owner keeps it
pub record MayFrom (order : List ℕ) (keeper : ModuleId) (sends : Bool) (owner : ModuleId) (original_sends : Bool) (at : Stand) : Type 0 where
  pub kept : at ≡ stand.Kept keeper
  pub filter : (f : ℕ) × (keeper ≡ Filter f)
  pub same : original_sends ≡ sends
  pub down : sends ≡ true → position order owner < position order keeper
  pub up : sends ≡ false → position order keeper < position order owner

-- the number of the list that a list is a clone of
abbrev pub cloned_from : Origin → Option ℕ
cloned_from origin.Root = None
cloned_from (origin.Clone o) = Some o.0
cloned_from (origin.Copy o) = None

-- no list is a clone of this one
abbrev pub IsUncloned : (ℕ → Option LiveList) → ℕ → Type 0
IsUncloned find n = (k : ℕ) (c : LiveList) → find k ≡ Some c → cloned_from c.origin ≡ Some n → ⊥

pub by_number : (n m : ℕ) (P : Type 0) → ((n == m) ≡ false → P) → (n ≡ m → P) → P
by_number n m P f g =
    let cases : (b : Bool) → (n == m) ≡ b → P = elim [ true ↦ λ t. g (grind (arith, nat_tests)) | false ↦ λ t. f t ] in
    cases (n == m) refl

pub some_same : {A : Type 0} (x y : A) → Some x ≡ Some y → x ≡ y
some_same x y h = cc

pub one_found : (o : Option LiveList) (x y : LiveList) → o ≡ Some x → o ≡ Some y → x ≡ y
one_found o x y h k = cc

pub none_found : (o : Option LiveList) (x : LiveList) → o ≡ None → o ≡ Some x → ⊥
none_found o x h k = cc

-- what is found where a list has changed
pub changed_is : (g : LiveList → LiveList) (o : Option LiveList) (y : LiveList) → option_map g o ≡ Some y → (x : LiveList) × (o ≡ Some x) × (y ≡ g x)
changed_is g None y h = cc
changed_is g (Some x) y h = (x, refl, sym (some_same (g x) y h))

-- a change keeps whose list it is, and what it was made of
pub record IsMild (g : LiveList → LiveList) : Type 0 where
  pub owner : (x : LiveList) → (g x).owner ≡ x.owner
  pub direction : (x : LiveList) → (g x).direction ≡ x.direction
  pub origin : (x : LiveList) → (g x).origin ≡ x.origin

module _ (order : List ℕ) (virtual : Bool) where
  abbrev pub IsWell : LiveList → Type 0
  IsWell l = MayStand order virtual l.owner (is_down l.direction) l.stand (is_crossed l.crossed)

  abbrev pub IsFrom : LiveList → LiveList → Type 0
  IsFrom c l = MayFrom order c.owner (is_down c.direction) l.owner (is_down l.direction) l.stand

  -- each live list stands where it may; a clone's original, where it is live, is kept by the clone's owner; a list
  -- has at most one live clone
  pub record AreGood (next : ℕ) (find : ℕ → Option LiveList) : Type 0 where
    pub well : (n : ℕ) (l : LiveList) → find n ≡ Some l → IsWell l
    pub from : (n m : ℕ) (c l : LiveList) → find n ≡ Some c → cloned_from c.origin ≡ Some m → find m ≡ Some l → IsFrom c l
    pub single : (n k m : ℕ) (c d : LiveList) → find n ≡ Some c → cloned_from c.origin ≡ Some m → find k ≡ Some d → cloned_from d.origin ≡ Some m → n ≡ k
    pub below : (n : ℕ) (l : LiveList) → find n ≡ Some l → n < next
    pub older : (n m : ℕ) (c : LiveList) → find n ≡ Some c → cloned_from c.origin ≡ Some m → m < n

  from_alike : (c d l k : LiveList) → d.owner ≡ c.owner → d.direction ≡ c.direction → k.owner ≡ l.owner → k.direction ≡ l.direction → k.stand ≡ l.stand → IsFrom c l → IsFrom d k
  from_alike c d l k a b e f g h =
      subst (λ m. MayFrom order m (is_down d.direction) k.owner (is_down k.direction) k.stand) (sym a)
      (subst (λ m. MayFrom order c.owner (is_down m) k.owner (is_down k.direction) k.stand) (sym b)
      (subst (λ m. MayFrom order c.owner (is_down c.direction) m (is_down k.direction) k.stand) (sym e)
      (subst (λ m. MayFrom order c.owner (is_down c.direction) l.owner (is_down m) k.stand) (sym f)
      (subst (λ m. MayFrom order c.owner (is_down c.direction) l.owner (is_down l.direction) m) (sym g) h))))

  -- a list that isn't kept by a filter has no clone
  pub unkept : (next : ℕ) (find : ℕ → Option LiveList) → AreGood next find → (n : ℕ) (l : LiveList) → find n ≡ Some l → ((f : ℕ) → l.stand ≡ stand.Kept (Filter f) → ⊥) → IsUncloned find n
  unkept next find h n l e not_kept k c f o =
      let is : IsFrom c l = h.from k n c l f o e in
      not_kept is.filter.0 (is.kept ∙ ap (λ m. stand.Kept m) is.filter.1)

  -- what a list was before a change
  record WasAs (find : ℕ → Option LiveList) (k : ℕ) (y : LiveList) : Type 0 where
    was : LiveList
    found : find k ≡ Some was
    owner : y.owner ≡ was.owner
    direction : y.direction ≡ was.direction
    origin : y.origin ≡ was.origin

  module _ (next : ℕ) (find later : ℕ → Option LiveList) (n : ℕ) (others : (m : ℕ) → (n == m) ≡ false → later m ≡ find m) (h : AreGood next find) where
    -- a list has changed
    pub good_changed : (g : LiveList → LiveList) → IsMild g → later n ≡ option_map g (find n) → ((x : LiveList) → find n ≡ Some x → IsWell (g x)) → ((x : LiveList) → find n ≡ Some x → ((g x).stand ≡ x.stand) ⊎ IsUncloned find n) → AreGood next later
    good_changed g mild here well stays = record {
      well = λ k y f. by_number n k (IsWell y) (λ t. h.well k y (sym (others k t) ∙ f)) (λ e. let c = at k y e f in subst IsWell (sym c.2) (well c.0 c.1));
      from = λ k m c l f o e. by_number n m (IsFrom c l)
          (λ t. let w = was k c f in from_alike w.was c l l w.owner w.direction refl refl refl (h.from k m w.was l w.found (ap cloned_from (sym w.origin) ∙ o) (sym (others m t) ∙ e)))
          (λ same. let w = was k c f in let x = at m l same e in
          let at_n : find m ≡ Some x.0 = ap find (sym same) ∙ x.1 in
          let from : IsFrom w.was x.0 = h.from k m w.was x.0 w.found (ap cloned_from (sym w.origin) ∙ o) at_n in
          let original : IsFrom w.was (g x.0) = moved k m w.was x.0 same w.found (ap cloned_from (sym w.origin) ∙ o) (stays x.0 x.1) from in
          subst (IsFrom c) (sym x.2) (from_alike w.was c (g x.0) (g x.0) w.owner w.direction refl refl refl original));
      single = λ k i m c d f o e q. let w = was k c f in let v = was i d e in h.single k i m w.was v.was w.found (ap cloned_from (sym w.origin) ∙ o) v.found (ap cloned_from (sym v.origin) ∙ q);
      below = λ k y f. let w = was k y f in h.below k w.was w.found;
      older = λ k m c f o. let w = was k c f in h.older k m w.was w.found (ap cloned_from (sym w.origin) ∙ o);
    }
      where
        at : (k : ℕ) (y : LiveList) → n ≡ k → later k ≡ Some y → (x : LiveList) × (find n ≡ Some x) × (y ≡ g x)
        at k y e f = changed_is g (find n) y (sym here ∙ ap later e ∙ f)

        was : (k : ℕ) (y : LiveList) → later k ≡ Some y → WasAs find k y
        was k y f =
            by_number n k (WasAs find k y)
            (λ t. record { was = y; found = sym (others k t) ∙ f; owner = refl; direction = refl; origin = refl })
            (λ e. let c = at k y e f in record {
              was = c.0;
              found = ap find (sym e) ∙ c.1;
              owner = ap (λ (z : LiveList). z.owner) c.2 ∙ mild.owner c.0;
              direction = ap (λ (z : LiveList). z.direction) c.2 ∙ mild.direction c.0;
              origin = ap (λ (z : LiveList). z.origin) c.2 ∙ mild.origin c.0;
            })

        moved : (k m : ℕ) (c x : LiveList) → n ≡ m → find k ≡ Some c → cloned_from c.origin ≡ Some m → (((g x).stand ≡ x.stand) ⊎ IsUncloned find n) → IsFrom c x → IsFrom c (g x)
        moved k m c x e f o (inl same) from = from_alike c c x (g x) refl refl (mild.owner x) (mild.direction x) same from
        moved k m c x e f o (inr free) from = absurd (free k c f (o ∙ ap (λ i. Some i) (sym e)))

    -- a list has gone
    pub good_gone : later n ≡ None → AreGood next later
    good_gone here = record {
      well = λ k y f. h.well k y (was k y f);
      from = λ k m c l f o e. h.from k m c l (was k c f) o (was m l e);
      single = λ k i m c d f o e q. h.single k i m c d (was k c f) o (was i d e) q;
      below = λ k y f. h.below k y (was k y f);
      older = λ k m c f o. h.older k m c (was k c f) o;
    }
      where
        was : (k : ℕ) (y : LiveList) → later k ≡ Some y → find k ≡ Some y
        was k y f = by_number n k (find k ≡ Some y) (λ t. sym (others k t) ∙ f) (λ e. absurd (none_found (later k) y (ap later (sym e) ∙ here) f))

    -- a list has come, under the next number; where it is a clone, its original is kept, and has no other clone
    pub good_new : (new : LiveList) → n ≡ next → later n ≡ Some new → IsWell new → ((m : ℕ) → cloned_from new.origin ≡ Some m → (m < n) × IsUncloned find m × ((l : LiveList) → find m ≡ Some l → IsFrom new l)) → AreGood (next + 1) later
    good_new new number here well made = record {
      well = λ k y f. by_number n k (IsWell y) (λ t. h.well k y (sym (others k t) ∙ f)) (λ e. subst IsWell (is k y e f) well);
      from = λ k m c l f o e. by_number n k (IsFrom c l)
          (λ t. h.from k m c l (sym (others k t) ∙ f) o (old m l (older_than k m c (sym (others k t) ∙ f) o) e))
          (λ same. let new_is : new ≡ c = is k c same f in
          let made_of = made m (ap (λ (x : LiveList). cloned_from x.origin) new_is ∙ o) in
          subst (λ x. IsFrom x l) new_is (made_of.2 l (old m l made_of.0 e)));
      single = λ k i m c d f o e q. by_number n k (k ≡ i)
          (λ t. by_number n i (k ≡ i)
          (λ u. h.single k i m c d (sym (others k t) ∙ f) o (sym (others i u) ∙ e) q)
          (λ same. absurd ((made m (ap (λ (x : LiveList). cloned_from x.origin) (is i d same e) ∙ q)).1 k c (sym (others k t) ∙ f) o)))
          (λ one. by_number n i (k ≡ i)
          (λ u. absurd ((made m (ap (λ (x : LiveList). cloned_from x.origin) (is k c one f) ∙ o)).1 i d (sym (others i u) ∙ e) q))
          (λ other. sym one ∙ other));
      below = λ k y f. by_number n k (k < next + 1) (λ t. omega (arith, h.below k y (sym (others k t) ∙ f))) (λ e. omega (arith, e, number));
      older = λ k m c f o. by_number n k (m < k) (λ t. h.older k m c (sym (others k t) ∙ f) o) (λ e. omega (arith, e, (made m (ap (λ (x : LiveList). cloned_from x.origin) (is k c e f) ∙ o)).0));
    }
      where
        is : (k : ℕ) (y : LiveList) → n ≡ k → later k ≡ Some y → new ≡ y
        is k y e f = one_found (later k) new y (ap later (sym e) ∙ here) f

        older_than : (k m : ℕ) (c : LiveList) → find k ≡ Some c → cloned_from c.origin ≡ Some m → m < n
        older_than k m c f o = omega (arith, number, h.below k c f, h.older k m c f o)

        old : (m : ℕ) (l : LiveList) → m < n → later m ≡ Some l → find m ≡ Some l
        old m l a e = let other : (n == m) ≡ false = grind (arith, nat_tests) in sym (others m other) ∙ e

  -- the same lists under the same numbers
  pub good_same : (next : ℕ) (find later : ℕ → Option LiveList) → ((m : ℕ) → later m ≡ find m) → AreGood next find → AreGood next later
  good_same next find later e h = record {
    well = λ k y f. h.well k y (sym (e k) ∙ f);
    from = λ k m c l f o g. h.from k m c l (sym (e k) ∙ f) o (sym (e m) ∙ g);
    single = λ k i m c d f o g q. h.single k i m c d (sym (e k) ∙ f) o (sym (e i) ∙ g) q;
    below = λ k y f. h.below k y (sym (e k) ∙ f);
    older = λ k m c f o. h.older k m c (sym (e k) ∙ f) o;
  }

  -- nothing is live
  pub good_none : (next : ℕ) (find : ℕ → Option LiveList) → ((m : ℕ) → find m ≡ None) → AreGood next find
  good_none next find e = record {
    well = λ k y f. absurd (none_found (find k) y (e k) f);
    from = λ k m c l f o g. absurd (none_found (find k) c (e k) f);
    single = λ k i m c d f o g q. absurd (none_found (find k) c (e k) f);
    below = λ k y f. absurd (none_found (find k) y (e k) f);
    older = λ k m c f o. absurd (none_found (find k) c (e k) f);
  }
