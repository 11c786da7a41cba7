-- A filter gets up from its place, whose driver goes to the shelf's end.
use Rattle.std.proofs.Common.{◌≡◌, ℕ, ◌<◌, ◌==◌, not, Bool, true, false, cond, List, [], ◌∷◌, Option, Some, None, length-set, refl, sym, ap, ◌∙◌, subst, get_or-set_same, get_or-set_other, ne_eqb, ◌⊎◌, inl, inr}
use Rattle.std.proofs.lemmas.Bool.{cond-false, cases_eq}
use Rattle.std.proofs.lemmas.Bool.Decides.{nat_tests}
use Rattle.std.proofs.Common.{arith}
use Rattle.std.proofs.lemmas.List.Elements.{All-push, All-weaker}
use Rattle.ndis_base.specs.declared.ModuleId.TheVariants.{Filter}
use Rattle.buffer_pools.specs.Views.{live_count}
use Rattle.stack_rules.specs.declared.Attached.{Attached}
use Rattle.stack_rules.specs.Net.{Net, lists, attached}
use Rattle.stack_rules.specs.Places.{pool_in}
use Rattle.stack_rules.specs.Rewires.{is_in}
use Rattle.state_laws.proofs.Takes.{attached-is}
use Rattle.agenda_items.specs.declared.Carried.{Carried}
use Rattle.driver_views.specs.States.{FilterState}
use Rattle.book_lemmas.specs.Views.{HeldView, no_filter, filter_at, pool_at, seat_of, IsVacant, IsPlace, IsOnShelf, held_pool, kept_of, hands_of}
use Rattle.book_lemmas.specs.Stands.{Stands, IsPoolOf, IsSeated, SeatsApart, IsResting}
use Rattle.rewire_work.specs.Reseated.{AreTheirs, AreSeated}
use Rattle.rewire_work.specs.Seated.{without_seat, unseated}
use Rattle.rewire_work.proofs.Empty.{kept_none, live_none}
use Rattle.rewire_work.proofs.Sitting.{filter_other, no_place, some_same}

-- the seats but one
seat_gone : (f : ℕ) (seats : List (ℕ × ℕ)) → seat_of (without_seat f seats) f ≡ None
seat_gone f [] = refl
seat_gone f (x ∷ xs) = cases (x.0 == f) refl (seat_gone f xs)
  where
    cases : (b : Bool) → (x.0 == f) ≡ b → seat_of (without_seat f xs) f ≡ None → seat_of (cond (not b) (x ∷ without_seat f xs) (without_seat f xs)) f ≡ None
    cases true t rest = rest
    cases false t rest = cond-false (x.0 == f) (Some x.1) (seat_of (without_seat f xs) f) t ∙ rest

pub seat_left : (f g : ℕ) (seats : List (ℕ × ℕ)) → (g ≡ f → ⊥) → seat_of (without_seat f seats) g ≡ seat_of seats g
seat_left f g [] ne = refl
seat_left f g (x ∷ xs) ne = cases (x.0 == f) refl (seat_left f g xs ne)
  where
    cases : (b : Bool) → (x.0 == f) ≡ b → seat_of (without_seat f xs) g ≡ seat_of xs g → seat_of (cond (not b) (x ∷ without_seat f xs) (without_seat f xs)) g ≡ cond (x.0 == g) (Some x.1) (seat_of xs g)
    cases true t rest =
        let at : x.0 ≡ f = grind (arith, nat_tests) in
        rest ∙ sym (cond-false (x.0 == g) (Some x.1) (seat_of xs g) (ne_eqb x.0 g (λ e. ne (sym e ∙ at))))
    cases false t rest = ap (cond (x.0 == g) (Some x.1)) rest

-- a filter that sits at a place may get up, where its driver rests then
pub record MayRise (held : HeldView) (f place : ℕ) (s : FilterState) : Type 0 where
  pub seat : seat_of held.seats f ≡ Some place
  pub apart : SeatsApart held.seats
  pub is : IsPlace held place
  pub rests : IsResting s

module _ (held : HeldView) (f place : ℕ) (s : FilterState) (may : MayRise held f place s) where
  abbrev new : HeldView
  new = unseated held f place s

  pub gone : seat_of new.seats f ≡ None
  gone = seat_gone f held.seats

  pub left : (g : ℕ) → (g ≡ f → ⊥) → seat_of new.seats g ≡ seat_of held.seats g
  left g ne = seat_left f g held.seats ne

  -- what sits somewhere now sat there before, and isn't this filter
  was_other : (g q : ℕ) → seat_of new.seats g ≡ Some q → g ≡ f → ⊥
  was_other g q e same = no_place q (seat_of new.seats f) gone (ap (seat_of new.seats) (sym same) ∙ e)

  was_seat : (g q : ℕ) → seat_of new.seats g ≡ Some q → seat_of held.seats g ≡ Some q
  was_seat g q e = sym (left g (was_other g q e)) ∙ e

  off_place : (g : ℕ) → (g ≡ f → ⊥) → seat_of held.seats g ≡ Some place → ⊥
  off_place g ne e = ne (may.apart g f place e may.seat)

  pub filter_left : (g : ℕ) → (g ≡ f → ⊥) → filter_at new.filters (seat_of new.seats g) ≡ filter_at held.filters (seat_of held.seats g)
  filter_left g ne = ap (filter_at new.filters) (left g ne) ∙ filter_other held.filters place s (seat_of held.seats g) (off_place g ne)

  kept_by : ((g : ℕ) → kept_of held (Filter g) ≡ []) → (g : ℕ) → (g ≡ f) ⊎ (g ≡ f → ⊥) → kept_of new (Filter g) ≡ []
  kept_by old g (inl e) = ap (λ k. (filter_at new.filters (seat_of new.seats k)).kept) e ∙ ap (λ o. (filter_at new.filters o).kept) gone
  kept_by old g (inr ne) = ap (λ (x : FilterState). x.kept) (filter_left g ne) ∙ old g

  empty_by : ((g : ℕ) → live_count (held_pool held (Filter g)) ≡ 0) → (g : ℕ) → (g ≡ f) ⊎ (g ≡ f → ⊥) → live_count (held_pool new (Filter g)) ≡ 0
  empty_by old g (inl e) = ap (λ k. live_count (pool_at held.filter_pools (seat_of new.seats k))) e ∙ ap (λ o. live_count (pool_at held.filter_pools o)) gone
  empty_by old g (inr ne) = ap (λ o. live_count (pool_at held.filter_pools o)) (left g ne) ∙ old g

  place_still : (q : ℕ) → IsPlace held q → IsPlace new q
  place_still q p = record { driver = subst (λ n. q < n) (sym (length-set held.filters place s)) p.driver; pool = p.pool }

  shelf_still : (q : ℕ) → IsOnShelf held q → IsOnShelf new q
  shelf_still q o = record { is = place_still q o.is; vacant = λ g e. o.vacant g (was_seat g q e) }

  was_vacant : (q : ℕ) → IsVacant new.seats q → (q ≡ place → ⊥) → (g : ℕ) → seat_of held.seats g ≡ Some q → (g ≡ f) ⊎ (g ≡ f → ⊥) → ⊥
  was_vacant q vacant other g e (inl same) = other (some_same q place (seat_of held.seats f) (ap (seat_of held.seats) (sym same) ∙ e) may.seat)
  was_vacant q vacant other g e (inr ne) = vacant g (left g ne ∙ e)

  resting_by : ((q : ℕ) → IsVacant held.seats q → IsResting (filter_at held.filters (Some q))) → (q : ℕ) → IsVacant new.seats q → (q ≡ place) ⊎ (q ≡ place → ⊥) → IsResting (filter_at new.filters (Some q))
  resting_by old q vacant (inl e) = subst IsResting (sym (ap (λ k. filter_at new.filters (Some k)) e ∙ get_or-set_same held.filters place s no_filter may.is.driver)) may.rests
  resting_by old q vacant (inr ne) =
      subst IsResting (sym (get_or-set_other held.filters place q s no_filter ne)) (old q (λ g e. was_vacant q vacant ne g e (cases_eq g f)))

  pool_by : (net now : Net) → ((g : ℕ) → is_in g net.modules.order ≡ true → IsPoolOf net (Filter g) (held_pool held (Filter g))) → attached f now.modules.filters ≡ None
      → ((g : ℕ) → (g ≡ f → ⊥) → attached g now.modules.filters ≡ attached g net.modules.filters)
      → (g : ℕ) → (g ≡ f) ⊎ (is_in g net.modules.order ≡ true) → (g ≡ f) ⊎ (g ≡ f → ⊥) → IsPoolOf now (Filter g) (held_pool new (Filter g))
  pool_by net now old away others g inside (inl e) = record {
    size = ap (λ k. (pool_at held.filter_pools (seat_of new.seats k)).size) e ∙ ap (λ o. (pool_at held.filter_pools o).size) gone ∙ sym (ap pool_in away) ∙ ap (λ k. pool_in (attached k now.modules.filters)) (sym e);
    bytes = ap (λ k. (pool_at held.filter_pools (seat_of new.seats k)).bytes) e ∙ ap (λ o. (pool_at held.filter_pools o).bytes) gone;
  }
  pool_by net now old away others g (inl e) (inr ne) = absurd (ne e)
  pool_by net now old away others g (inr i) (inr ne) =
      let p = old g i in
      record {
        size = ap (λ o. (pool_at held.filter_pools o).size) (left g ne) ∙ p.size ∙ ap pool_in (sym (others g ne));
        bytes = ap (λ o. (pool_at held.filter_pools o).bytes) (left g ne) ∙ p.bytes;
      }

  none_there : (a : Attached) (o : Option Attached) → o ≡ None → o ≡ Some a → ⊥
  none_there a o e k = cc

  seat_by : (net now : Net) → ((g : ℕ) (a : Attached) → attached g net.modules.filters ≡ Some a → IsSeated held a) → attached f now.modules.filters ≡ None
      → ((g : ℕ) → (g ≡ f → ⊥) → attached g now.modules.filters ≡ attached g net.modules.filters)
      → (g : ℕ) (a : Attached) → attached g now.modules.filters ≡ Some a → (g ≡ f) ⊎ (g ≡ f → ⊥) → IsSeated new a
  seat_by net now old away others g a e (inl same) = absurd (none_there a (attached f now.modules.filters) away (ap (λ k. attached k now.modules.filters) (sym same) ∙ e))
  seat_by net now old away others g a e (inr ne) =
      let there : attached g net.modules.filters ≡ Some a = sym (others g ne) ∙ e in
      let was : IsSeated held a = old g a there in
      let number : a.filter ≡ g = attached-is g net.modules.filters a there in
      let other : a.filter ≡ f → ⊥ = λ k. ne (sym number ∙ k) in
      let same : filter_at new.filters (Some was.place) ≡ filter_at held.filters (Some was.place) = filter_other held.filters place s (Some was.place) (λ k. off_place a.filter other (was.seat ∙ k)) in
      record {
        place = was.place;
        seat = left a.filter other ∙ was.seat;
        kind = ap (λ (x : FilterState). x.kind) same ∙ was.kind;
        setup = ap (λ (x : FilterState). x.setup) same ∙ was.setup;
      }

  -- so the others are seated, where this filter is no longer attached
  pub are_left : {net now : Net} {queue : List Carried} → Stands net queue held [] → lists net.things ≡ [] → attached f now.modules.filters ≡ None
      → ((g : ℕ) → (g ≡ f → ⊥) → attached g now.modules.filters ≡ attached g net.modules.filters)
      → ((g : ℕ) → is_in g now.modules.order ≡ true → (g ≡ f) ⊎ (is_in g net.modules.order ≡ true)) → AreSeated now new
  are_left {net} {now} {queue} b none away others inside = record {
    kept = λ g. kept_by (λ k. kept_none net (hands_of queue held []) b.agrees none (Filter k)) g (cases_eq g f);
    empty = λ g. empty_by (λ k. live_none net (hands_of queue held []) b.agrees none (Filter k)) g (cases_eq g f);
    pools = λ g i. pool_by net now (λ k. b.pools (Filter k)) away others g (inside g i) (cases_eq g f);
    seated = λ g a e. seat_by net now b.seated away others g a e (cases_eq g f);
    places = λ g q e. place_still q (b.places g q (was_seat g q e));
    shelved = All-push (IsOnShelf new) held.shelf place (All-weaker (IsOnShelf held) (IsOnShelf new) shelf_still held.shelf b.shelved)
        (record { is = place_still place may.is; vacant = λ g e. off_place g (was_other g place e) (was_seat g place e) });
    apart = λ g k q e d. b.apart g k q (was_seat g q e) (was_seat k q d);
    resting = λ q vacant. resting_by b.resting q vacant (cases_eq q place);
  }

pub theirs_unseated : (held : HeldView) (f place : ℕ) (s : FilterState) → AreTheirs held (unseated held f place s)
theirs_unseated held f place s = record {
  miniport_kind = refl;
  miniport_kept = refl;
  miniport_pool = refl;
  protocol_kinds = λ i. refl;
  protocols_kept = λ i. refl;
  protocols = refl;
  protocol_pools = refl;
}
