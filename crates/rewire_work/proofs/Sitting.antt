-- A filter sits down at a place of the shelf.
use Rattle.std.proofs.Common.{◌≡◌, ℕ, ◌<◌, ◌==◌, not, Bool, true, false, cond, List, [], ◌∷◌, ◌++◌, Option, Some, None, slice_set, length-set, refl, sym, ap, ◌∙◌, subst, All, get_or-set_same, get_or-set_other, eq-eqb, ne_eqb, ◌⊎◌, inl, inr}
use Rattle.std.proofs.lemmas.Bool.{cond-true, cond-false, cases_eq}
use Rattle.std.proofs.lemmas.List.Elements.{All-nil, All-cons, All-head, All-tail}
use Rattle.ndis_base.specs.declared.ModuleId.TheVariants.{Filter}
use Rattle.journal_types.specs.declared.Setup.{Setup}
use Rattle.buffer_pools.specs.Views.{PoolView, live_count}
use Rattle.stack_rules.specs.declared.Attached.{Attached}
use Rattle.stack_rules.specs.Net.{Net, lists, attached}
use Rattle.stack_rules.specs.Places.{pool_in}
use Rattle.stack_rules.specs.Rewires.{is_in}
use Rattle.promise_rules.specs.Drivers.{without_place}
use Rattle.agenda_items.specs.declared.Carried.{Carried}
use Rattle.driver_views.specs.States.{FilterState}
use Rattle.book_lemmas.specs.Views.{HeldView, no_filter, no_pool, filter_at, pool_at, seat_of, IsVacant, IsPlace, IsOnShelf, held_pool, kept_of, hands_of}
use Rattle.book_lemmas.specs.Stands.{Stands, IsPoolOf, IsSeated, SeatsApart, IsResting}
use Rattle.rewire_work.specs.Reseated.{AreSeated}
use Rattle.rewire_work.specs.Seated.{seated}
use Rattle.rewire_work.proofs.Empty.{kept_none, live_none}

-- what is read at a place after another value was put at one
pub filter_other : (filters : List FilterState) (place : ℕ) (s : FilterState) (o : Option ℕ) → (o ≡ Some place → ⊥) → filter_at (slice_set filters place s) o ≡ filter_at filters o
filter_other filters place s None other = refl
filter_other filters place s (Some q) other = get_or-set_other filters place q s no_filter (λ e. other (ap Some e))

pub pool_other : (pools : List PoolView) (place : ℕ) (p : PoolView) (o : Option ℕ) → (o ≡ Some place → ⊥) → pool_at (slice_set pools place p) o ≡ pool_at pools o
pool_other pools place p None other = refl
pool_other pools place p (Some q) other = get_or-set_other pools place q p no_pool (λ e. other (ap Some e))

-- a place is free for a filter, whose driver keeps nothing
pub record MaySit (held : HeldView) (f place : ℕ) (s : FilterState) (pool : PoolView) : Type 0 where
  pub is : IsOnShelf held place
  pub free : seat_of held.seats f ≡ None
  pub kept : s.kept ≡ []
  pub empty : live_count pool ≡ 0

pub no_place : (place : ℕ) (o : Option ℕ) → o ≡ None → o ≡ Some place → ⊥
no_place place o e k = cc

pub some_same : (p q : ℕ) (o : Option ℕ) → o ≡ Some p → o ≡ Some q → p ≡ q
some_same p q o e k = cc

at_place : (g q place : ℕ) (seats : List (ℕ × ℕ)) → seat_of seats g ≡ Some place → seat_of seats g ≡ Some q → q ≡ place
at_place g q place seats e k = some_same q place (seat_of seats g) k e

-- the seats with one more
seat_new : (seats : List (ℕ × ℕ)) (f place : ℕ) → seat_of seats f ≡ None → seat_of (seats ++ (f, place) ∷ []) f ≡ Some place
seat_new [] f place none = cond-true (f == f) (Some place) None (eq-eqb f f refl)
seat_new (x ∷ xs) f place none = cases (x.0 == f) none (seat_new xs f place)
  where
    cases : (b : Bool) → cond b (Some x.1) (seat_of xs f) ≡ None → (seat_of xs f ≡ None → seat_of (xs ++ (f, place) ∷ []) f ≡ Some place) → cond b (Some x.1) (seat_of (xs ++ (f, place) ∷ []) f) ≡ Some place
    cases true e rest = cc
    cases false e rest = rest e

seat_old : (seats : List (ℕ × ℕ)) (f place g : ℕ) → (f == g) ≡ false → seat_of (seats ++ (f, place) ∷ []) g ≡ seat_of seats g
seat_old [] f place g other = cond-false (f == g) (Some place) None other
seat_old (x ∷ xs) f place g other = ap (cond (x.0 == g) (Some x.1)) (seat_old xs f place g other)

module _ (held : HeldView) (f place : ℕ) (s : FilterState) (pool : PoolView) (may : MaySit held f place s pool) where
  abbrev new : HeldView
  new = seated held f place s pool

  pub here : seat_of new.seats f ≡ Some place
  here = seat_new held.seats f place may.free

  pub there : (g : ℕ) → (g ≡ f → ⊥) → seat_of new.seats g ≡ seat_of held.seats g
  there g ne = seat_old held.seats f place g (ne_eqb f g (λ e. ne (sym e)))

  pub filter_here : filter_at new.filters (Some place) ≡ s
  filter_here = get_or-set_same held.filters place s no_filter may.is.is.driver

  pub filter_there : (g : ℕ) → (g ≡ f → ⊥) → filter_at new.filters (seat_of new.seats g) ≡ filter_at held.filters (seat_of held.seats g)
  filter_there g ne = ap (filter_at new.filters) (there g ne) ∙ filter_other held.filters place s (seat_of held.seats g) (may.is.vacant g)

  pub pool_here : pool_at new.filter_pools (Some place) ≡ pool
  pool_here = get_or-set_same held.filter_pools place pool no_pool may.is.is.pool

  pub pool_there : (g : ℕ) → (g ≡ f → ⊥) → pool_at new.filter_pools (seat_of new.seats g) ≡ pool_at held.filter_pools (seat_of held.seats g)
  pool_there g ne = ap (pool_at new.filter_pools) (there g ne) ∙ pool_other held.filter_pools place pool (seat_of held.seats g) (may.is.vacant g)

  -- the filter's own driver and pool
  pub own_filter : (g : ℕ) → g ≡ f → filter_at new.filters (seat_of new.seats g) ≡ s
  own_filter g e = ap (λ k. filter_at new.filters (seat_of new.seats k)) e ∙ ap (filter_at new.filters) here ∙ filter_here

  pub own_pool : (g : ℕ) → g ≡ f → pool_at new.filter_pools (seat_of new.seats g) ≡ pool
  own_pool g e = ap (λ k. pool_at new.filter_pools (seat_of new.seats k)) e ∙ ap (pool_at new.filter_pools) here ∙ pool_here

  pub kept_by : ((g : ℕ) → kept_of held (Filter g) ≡ []) → (g : ℕ) → (g ≡ f) ⊎ (g ≡ f → ⊥) → kept_of new (Filter g) ≡ []
  kept_by old g (inl e) = ap (λ (x : FilterState). x.kept) (own_filter g e) ∙ may.kept
  kept_by old g (inr ne) = ap (λ (x : FilterState). x.kept) (filter_there g ne) ∙ old g

  pub empty_by : ((g : ℕ) → live_count (held_pool held (Filter g)) ≡ 0) → (g : ℕ) → (g ≡ f) ⊎ (g ≡ f → ⊥) → live_count (held_pool new (Filter g)) ≡ 0
  empty_by old g (inl e) = ap live_count (own_pool g e) ∙ may.empty
  empty_by old g (inr ne) = ap live_count (pool_there g ne) ∙ old g

  place_still : (q : ℕ) → IsPlace held q → IsPlace new q
  place_still q p = record { driver = subst (λ n. q < n) (sym (length-set held.filters place s)) p.driver; pool = subst (λ n. q < n) (sym (length-set held.filter_pools place pool)) p.pool }

  places_by : ((g q : ℕ) → seat_of held.seats g ≡ Some q → IsPlace held q) → (g q : ℕ) → seat_of new.seats g ≡ Some q → (g ≡ f) ⊎ (g ≡ f → ⊥) → IsPlace new q
  places_by old g q e (inl same) =
      let at : q ≡ place = at_place f q place new.seats here (ap (seat_of new.seats) (sym same) ∙ e) in
      place_still q (subst (IsPlace held) (sym at) may.is.is)
  places_by old g q e (inr ne) = place_still q (old g q (sym (there g ne) ∙ e))

  vacant_by : (q : ℕ) → (q == place) ≡ false → IsVacant held.seats q → (g : ℕ) → seat_of new.seats g ≡ Some q → (g ≡ f) ⊎ (g ≡ f → ⊥) → ⊥
  vacant_by q other old g e (inl same) =
      let at : q ≡ place = at_place f q place new.seats here (ap (seat_of new.seats) (sym same) ∙ e) in
      let yes_it : (q == place) ≡ true = eq-eqb q place at in
      absurd (cc (other, yes_it))
  vacant_by q other old g e (inr ne) = old g (sym (there g ne) ∙ e)

  shelved_by : (ps : List ℕ) → All (IsOnShelf held) ps → All (IsOnShelf new) (without_place place ps)
  shelved_by [] h = All-nil (IsOnShelf new)
  shelved_by (p ∷ ps) h = cases (p == place) refl (shelved_by ps (All-tail (IsOnShelf held) p ps h))
    where
      cases : (b : Bool) → (p == place) ≡ b → All (IsOnShelf new) (without_place place ps) → All (IsOnShelf new) (cond (not b) (p ∷ without_place place ps) (without_place place ps))
      cases true t rest = rest
      cases false t rest =
          let was : IsOnShelf held p = All-head (IsOnShelf held) p ps h in
          All-cons (IsOnShelf new) p (without_place place ps) (record { is = place_still p was.is; vacant = λ g e. vacant_by p t was.vacant g e (cases_eq g f) }) rest

  apart_by : SeatsApart held.seats → (g k q : ℕ) → seat_of new.seats g ≡ Some q → seat_of new.seats k ≡ Some q → (g ≡ f) ⊎ (g ≡ f → ⊥) → (k ≡ f) ⊎ (k ≡ f → ⊥) → g ≡ k
  apart_by old g k q e d (inl same) (inl also) = same ∙ sym also
  apart_by old g k q e d (inl same) (inr ne) =
      let at : q ≡ place = at_place f q place new.seats here (ap (seat_of new.seats) (sym same) ∙ e) in
      absurd (may.is.vacant k (sym (there k ne) ∙ d ∙ ap Some at))
  apart_by old g k q e d (inr ne) (inl also) =
      let at : q ≡ place = at_place f q place new.seats here (ap (seat_of new.seats) (sym also) ∙ d) in
      absurd (may.is.vacant g (sym (there g ne) ∙ e ∙ ap Some at))
  apart_by old g k q e d (inr ne) (inr also) = old g k q (sym (there g ne) ∙ e) (sym (there k also) ∙ d)

  was_vacant : (q : ℕ) → IsVacant new.seats q → (g : ℕ) → seat_of held.seats g ≡ Some q → (g ≡ f) ⊎ (g ≡ f → ⊥) → ⊥
  was_vacant q vacant g e (inl same) = no_place q (seat_of held.seats f) may.free (ap (seat_of held.seats) (sym same) ∙ e)
  was_vacant q vacant g e (inr ne) = vacant g (there g ne ∙ e)

  resting_by : ((q : ℕ) → IsVacant held.seats q → IsResting (filter_at held.filters (Some q))) → (q : ℕ) → IsVacant new.seats q → (q ≡ place) ⊎ (q ≡ place → ⊥) → IsResting (filter_at new.filters (Some q))
  resting_by old q vacant (inl same) = absurd (vacant f (here ∙ ap Some (sym same)))
  resting_by old q vacant (inr ne) =
      subst IsResting (sym (get_or-set_other held.filters place q s no_filter ne)) (old q (λ g e. was_vacant q vacant g e (cases_eq g f)))

  -- so the filters are seated, where those that are attached now are those from before and this one
  pub are_seated : {net now : Net} {queue : List Carried} → Stands net queue held [] → lists net.things ≡ []
      → ((g : ℕ) → is_in g now.modules.order ≡ true → IsPoolOf now (Filter g) (held_pool new (Filter g)))
      → ((g : ℕ) (a : Attached) → attached g now.modules.filters ≡ Some a → IsSeated new a) → AreSeated now new
  are_seated {net} {now} {queue} b none pools seats = record {
    kept = λ g. kept_by (λ k. kept_none net (hands_of queue held []) b.agrees none (Filter k)) g (cases_eq g f);
    empty = λ g. empty_by (λ k. live_none net (hands_of queue held []) b.agrees none (Filter k)) g (cases_eq g f);
    pools = pools;
    seated = seats;
    places = λ g q e. places_by b.places g q e (cases_eq g f);
    shelved = shelved_by held.shelf b.shelved;
    apart = λ g k q e d. apart_by b.apart g k q e d (cases_eq g f) (cases_eq k f);
    resting = λ q vacant. resting_by b.resting q vacant (cases_eq q place);
  }

  -- the pools of the filters in the order, and their drivers
  pub pool_by : {net now : Net} (setup : Setup) → ((g : ℕ) → is_in g net.modules.order ≡ true → IsPoolOf net (Filter g) (held_pool held (Filter g)))
      → pool.size ≡ setup.pool → pool.bytes ≡ 1518 → pool_in (attached f now.modules.filters) ≡ setup.pool
      → ((g : ℕ) → (g ≡ f → ⊥) → pool_in (attached g now.modules.filters) ≡ pool_in (attached g net.modules.filters))
      → (g : ℕ) → (g ≡ f) ⊎ (is_in g net.modules.order ≡ true) → (g ≡ f) ⊎ (g ≡ f → ⊥) → IsPoolOf now (Filter g) (held_pool new (Filter g))
  pool_by {net} {now} setup old size bytes own others g inside (inl e) = record {
    size = ap (λ (p : PoolView). p.size) (own_pool g e) ∙ size ∙ sym own ∙ ap (λ k. pool_in (attached k now.modules.filters)) (sym e);
    bytes = ap (λ (p : PoolView). p.bytes) (own_pool g e) ∙ bytes;
  }
  pool_by {net} {now} setup old size bytes own others g (inl e) (inr ne) = absurd (ne e)
  pool_by {net} {now} setup old size bytes own others g (inr i) (inr ne) =
      let p = old g i in
      record {
        size = ap (λ (p : PoolView). p.size) (pool_there g ne) ∙ p.size ∙ sym (others g ne);
        bytes = ap (λ (p : PoolView). p.bytes) (pool_there g ne) ∙ p.bytes;
      }

  pub own_seat : (a : Attached) → a.filter ≡ f → s.kind ≡ a.kind → s.setup ≡ Some a.setup → IsSeated new a
  own_seat a number kind setup = record {
    place = place;
    seat = ap (seat_of new.seats) number ∙ here;
    kind = ap (λ (x : FilterState). x.kind) filter_here ∙ kind;
    setup = ap (λ (x : FilterState). x.setup) filter_here ∙ setup;
  }

  pub other_seat : (a : Attached) → (a.filter ≡ f → ⊥) → IsSeated held a → IsSeated new a
  other_seat a ne was =
      let other : was.place ≡ place → ⊥ = λ e. may.is.vacant a.filter (was.seat ∙ ap Some e) in
      record {
        place = was.place;
        seat = there a.filter ne ∙ was.seat;
        kind = ap (λ (x : FilterState). x.kind) (get_or-set_other held.filters place was.place s no_filter other) ∙ was.kind;
        setup = ap (λ (x : FilterState). x.setup) (get_or-set_other held.filters place was.place s no_filter other) ∙ was.setup;
      }
