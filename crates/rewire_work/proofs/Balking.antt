-- A driver on the shelf refused to attach: it counted that, and the book stands as before.
use Rattle.std.proofs.Common.{◌≡◌, ℕ, ◌<◌, List, [], Some, length, slice_set, length-set, refl, sym, ap, ◌∙◌, subst, get_or-set_same, get_or-set_other, ◌⊎◌, inl, inr}
use Rattle.std.proofs.lemmas.Bool.{cases_eq}
use Rattle.std.proofs.lemmas.List.Elements.{All-weaker}
use Rattle.ndis_base.specs.declared.ModuleId.TheVariants.{Filter}
use Rattle.ndis_base.specs.declared.Phase.TheVariants as phase
use Rattle.stack_rules.specs.declared.Attached.{Attached}
use Rattle.stack_rules.specs.Net.{Net, lists}
use Rattle.agenda_items.specs.declared.Carried.{Carried}
use Rattle.driver_views.specs.States.{FilterState}
use Rattle.book_lemmas.specs.Views.{HeldView, no_filter, filter_at, seat_of, IsVacant, IsPlace, IsOnShelf, hands_of}
use Rattle.book_lemmas.specs.Stands.{Stands, IsSeated, IsResting, DriversFit}
use Rattle.rewire_work.specs.Seated.{took_state}
use Rattle.rewire_work.proofs.Empty.{kept_none, live_none}
use Rattle.rewire_work.proofs.Reseated.{stands_reseated}
use Rattle.rewire_work.proofs.Sitting.{filter_other}

pub stands_took : {net : Net} {queue : List Carried} {held : HeldView} (place : ℕ) (s : FilterState) → Stands net queue held [] → lists net.things ≡ [] → net.phase ≡ phase.Paused → IsOnShelf held place → IsResting s
    → Stands net queue (took_state held place s) []
stands_took {net} {queue} {held} place s b none paused on rests =
    stands_reseated net net queue held (took_state held place s) b none (record { head = refl; bindings = refl; things = refl; next = refl })
    (record { miniport_kind = refl; miniport_kept = refl; miniport_pool = refl; protocol_kinds = λ i. refl; protocols_kept = λ i. refl; protocols = refl; protocol_pools = refl })
    (record {
      kept = λ g. ap (λ (x : FilterState). x.kept) (filter_other held.filters place s (seat_of held.seats g) (on.vacant g)) ∙ kept_none net (hands_of queue held []) b.agrees none (Filter g);
      empty = λ g. live_none net (hands_of queue held []) b.agrees none (Filter g);
      pools = λ g i. b.pools (Filter g) i;
      seated = λ g a e. other_seat a (b.seated g a e);
      places = λ g q e. place_still q (b.places g q e);
      shelved = All-weaker (IsOnShelf held) (IsOnShelf (took_state held place s)) (λ q o. record { is = place_still q o.is; vacant = o.vacant }) held.shelf b.shelved;
      apart = b.apart;
      resting = λ q vacant. resting_by q vacant (cases_eq q place);
    })
    (subst (DriversFit net.head.port (took_state held place s)) (sym paused) drivers)
  where
    drivers : DriversFit net.head.port held phase.Paused
    drivers = subst (DriversFit net.head.port held) paused b.drivers

    place_still : (q : ℕ) → IsPlace held q → IsPlace (took_state held place s) q
    place_still q p = record { driver = subst (λ n. q < n) (sym (length-set held.filters place s)) p.driver; pool = p.pool }

    other_seat : (a : Attached) → IsSeated held a → IsSeated (took_state held place s) a
    other_seat a was =
        let same : filter_at (slice_set held.filters place s) (Some was.place) ≡ filter_at held.filters (Some was.place) = filter_other held.filters place s (Some was.place) (λ e. on.vacant a.filter (was.seat ∙ e)) in
        record {
          place = was.place;
          seat = was.seat;
          kind = ap (λ (x : FilterState). x.kind) same ∙ was.kind;
          setup = ap (λ (x : FilterState). x.setup) same ∙ was.setup;
        }

    resting_by : (q : ℕ) → IsVacant held.seats q → (q ≡ place) ⊎ (q ≡ place → ⊥) → IsResting (filter_at (slice_set held.filters place s) (Some q))
    resting_by q vacant (inl e) = subst IsResting (sym (ap (λ k. filter_at (slice_set held.filters place s) (Some k)) e ∙ get_or-set_same held.filters place s no_filter on.is.driver)) rests
    resting_by q vacant (inr ne) = subst IsResting (sym (get_or-set_other held.filters place q s no_filter ne)) (b.resting q vacant)

-- what a driver shows is the same at each place
pub field_still : {X : Type 0} (g : FilterState → X) (filters : List FilterState) (place : ℕ) (s : FilterState) → place < length filters → g s ≡ g (filter_at filters (Some place)) → (q : ℕ) → (q ≡ place) ⊎ (q ≡ place → ⊥)
    → g (filter_at (slice_set filters place s) (Some q)) ≡ g (filter_at filters (Some q))
field_still g filters place s within same q (inl e) =
    ap (λ k. g (filter_at (slice_set filters place s) (Some k))) e
    ∙ ap g (get_or-set_same filters place s no_filter within)
    ∙ same
    ∙ ap (λ k. g (filter_at filters (Some k))) (sym e)
field_still g filters place s within same q (inr ne) = ap g (get_or-set_other filters place q s no_filter ne)

-- what it counted and logged
pub did_still : (filters : List FilterState) (place : ℕ) (s : FilterState) → place < length filters → s.did ≡ (filter_at filters (Some place)).did → (q : ℕ) → (q ≡ place) ⊎ (q ≡ place → ⊥)
    → (filter_at (slice_set filters place s) (Some q)).did ≡ (filter_at filters (Some q)).did
did_still filters place s within same q which = field_still (λ (x : FilterState). x.did) filters place s within same q which
