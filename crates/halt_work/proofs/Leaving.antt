-- The filters of an order get up one after the other: the book stands after each, and the shelf is the one that is promised.
use Rattle.std.proofs.Common.{◌≡◌, ℕ, List, [], ◌∷◌, ◌++◌, Option, Some, None, map, refl, sym, ap, ◌∙◌, subst, ◌⊎◌, inl, inr}
use Rattle.std.proofs.lemmas.Bool.{cases_eq}
use Rattle.ndis_base.specs.declared.Phase.TheVariants as phase
use Rattle.stack_rules.specs.declared.Attached.{Attached}
use Rattle.stack_rules.specs.Net.{Net, lists, after, after_rows, attached}
use Rattle.promise_rules.specs.Drivers.{Shelf, shelf_in_rows, with_place, driver_of}
use Rattle.agenda_items.specs.declared.Carried.{Carried}
use Rattle.driver_views.specs.States.{FilterState}
use Rattle.book_lemmas.specs.Stands.{Stands, DriversFit}
use Rattle.book_lemmas.specs.Views.{HeldView, filter_at, seat_of}
use Rattle.rewire_work.specs.Seated.{unseated, put_down, without_seat}
use Rattle.rewire_work.proofs.Balking.{did_still, field_still}
use Rattle.rewire_work.proofs.Orders.{less, attached_gone, attached_less}
use Rattle.rewire_work.proofs.Removed.{may_rise}
use Rattle.rewire_work.proofs.Reseated.{stands_reseated}
use Rattle.rewire_work.proofs.Rising.{MayRise, are_left, seat_left, theirs_unseated}
use Rattle.rewire_work.proofs.Shelving.{kinds_same}
use Rattle.halt_work.specs.Halted.{detached}
use Rattle.halt_work.specs.Risen.{Sides, sides_of, with_sides, risen, risen_each, CanRise, CanEachRise}
use Rattle.halt_work.proofs.Written.{off_row}
use Rattle.halt_work.proofs.Sitting.{EachSits}

-- a filter's driver, once it is detached
abbrev pub down : HeldView → ℕ → FilterState
down held place = put_down (filter_at held.filters (Some place))

-- one filter
stands_off : (net : Net) (queue : List Carried) (held : HeldView) (f place : ℕ) → Stands net queue held [] → lists net.things ≡ [] → net.phase ≡ phase.Paused → seat_of held.seats f ≡ Some place
    → Stands (after net (off_row f)) queue (unseated held f place (down held place)) []
stands_off net queue held f place s none paused seat =
    let now : Net = after net (off_row f) in
    let new : HeldView = unseated held f place (down held place) in
    let may : MayRise held f place (down held place) = may_rise f place s none seat in
    let drivers : DriversFit net.head.port held phase.Paused = subst (DriversFit net.head.port held) paused s.drivers in
    stands_reseated net now queue held new s none (record { head = refl; bindings = refl; things = refl; next = refl }) (theirs_unseated held f place (down held place))
    (are_left held f place (down held place) may {net = net} {now = now} {queue = queue} s none (attached_gone f net.modules.filters)
    (λ g ne. attached_less g f net.modules.filters ne) (λ g at. inr at))
    (subst (DriversFit net.head.port new) (sym paused) drivers)

-- all of them
pub record AreUp (net : Net) (queue : List Carried) (held : HeldView) (fs : List ℕ) : Type 0 where
  pub may : CanEachRise (sides_of held) fs
  pub stands : Stands (after_rows net (detached fs)) queue (with_sides held (risen_each (sides_of held) fs)) []
  pub quiet : lists (after_rows net (detached fs)).things ≡ []
  pub paused : (after_rows net (detached fs)).phase ≡ phase.Paused

pub are_up : (fs : List ℕ) (net : Net) (queue : List Carried) (held : HeldView) → Stands net queue held [] → lists net.things ≡ [] → net.phase ≡ phase.Paused → EachSits net.modules.filters held.seats fs → AreUp net queue held fs
are_up [] net queue held s none paused sits = record { may = record {}; stands = s; quiet = none; paused = paused }
are_up (f ∷ fs) net queue held s none paused sits =
    let at = sits.0 in
    let now : Net = after net (off_row f) in
    let new : HeldView = unseated held f at.place (down held at.place) in
    let rest : AreUp now queue new fs = are_up fs now queue new (stands_off net queue held f at.place s none paused at.seat) none paused sits.1 in
    let may : MayRise held f at.place (down held at.place) = may_rise f at.place s none at.seat in
    let first : CanRise (sides_of held) f = record { place = at.place; seat = at.seat; within = may.is.driver; kept = may.rests.kept } in
    record {
      may = (first, subst (λ o. CanEachRise (risen f (sides_of held) o) fs) (sym at.seat) rest.may);
      stands = subst (λ o. Stands (after_rows now (detached fs)) queue (with_sides held (risen_each (risen f (sides_of held) o) fs)) []) (sym at.seat) rest.stands;
      quiet = rest.quiet;
      paused = rest.paused;
    }

-- no driver counted a call, and each has its kind
pub did_each : (fs : List ℕ) (s : Sides) → CanEachRise s fs → (q : ℕ) → (filter_at (risen_each s fs).filters (Some q)).did ≡ (filter_at s.filters (Some q)).did
did_each [] s may q = refl
did_each (f ∷ fs) s may q =
    let at = may.0 in
    let next : Sides = risen f s (Some at.place) in
    let rest : CanEachRise next fs = subst (λ o. CanEachRise (risen f s o) fs) at.seat may.1 in
    ap (λ o. (filter_at (risen_each (risen f s o) fs).filters (Some q)).did) at.seat
    ∙ did_each fs next rest q
    ∙ did_still s.filters at.place (put_down (filter_at s.filters (Some at.place))) at.within refl q (cases_eq q at.place)

pub refusals_each : (fs : List ℕ) (s : Sides) → CanEachRise s fs → (q : ℕ) → (filter_at (risen_each s fs).filters (Some q)).refusals ≡ (filter_at s.filters (Some q)).refusals
refusals_each [] s may q = refl
refusals_each (f ∷ fs) s may q =
    let at = may.0 in
    let next : Sides = risen f s (Some at.place) in
    let rest : CanEachRise next fs = subst (λ o. CanEachRise (risen f s o) fs) at.seat may.1 in
    ap (λ o. (filter_at (risen_each (risen f s o) fs).filters (Some q)).refusals) at.seat
    ∙ refusals_each fs next rest q
    ∙ field_still (λ (x : FilterState). x.refusals) s.filters at.place (put_down (filter_at s.filters (Some at.place))) at.within refl q (cases_eq q at.place)

pub kinds_each : (fs : List ℕ) (s : Sides) → CanEachRise s fs → map (λ (x : FilterState). x.kind) (risen_each s fs).filters ≡ map (λ (x : FilterState). x.kind) s.filters
kinds_each [] s may = refl
kinds_each (f ∷ fs) s may =
    let at = may.0 in
    let next : Sides = risen f s (Some at.place) in
    let rest : CanEachRise next fs = subst (λ o. CanEachRise (risen f s o) fs) at.seat may.1 in
    ap (λ o. map (λ (x : FilterState). x.kind) (risen_each (risen f s o) fs).filters) at.seat
    ∙ kinds_each fs next rest
    ∙ kinds_same s.filters at.place (put_down (filter_at s.filters (Some at.place))) refl

-- the shelf and the seats are those that rows give
pub record Keeps (shelf : Shelf) (net : Net) (s : Sides) : Type 0 where
  pub shelf_is : s.shelf ≡ shelf.places
  pub seats_are : (g : ℕ) (a : Attached) → attached g net.modules.filters ≡ Some a → seat_of s.seats g ≡ driver_of shelf.drivers g

none_there : (a : Attached) (o : Option Attached) → o ≡ None → o ≡ Some a → ⊥
none_there a o none some = cc

keeps_off : (shelf : Shelf) (net : Net) (s : Sides) (f place : ℕ) (a : Attached) → Keeps shelf net s → attached f net.modules.filters ≡ Some a → seat_of s.seats f ≡ Some place
    → Keeps (shelf_in_rows (off_row f ∷ []) shelf) (after net (off_row f)) (risen f s (Some place))
keeps_off shelf net s f place a k there seat = record {
  shelf_is = ap (λ ps. ps ++ place ∷ []) k.shelf_is ∙ ap (with_place shelf.places) (sym seat ∙ k.seats_are f a there);
  seats_are = λ g b at. seats g b at (cases_eq g f);
}
  where
    seats : (g : ℕ) (b : Attached) → attached g (less f net.modules.filters) ≡ Some b → (g ≡ f) ⊎ (g ≡ f → ⊥) → seat_of (without_seat f s.seats) g ≡ driver_of shelf.drivers g
    seats g b at (inl same) = absurd (none_there b (attached f (less f net.modules.filters)) (attached_gone f net.modules.filters) (ap (λ h. attached h (less f net.modules.filters)) (sym same) ∙ at))
    seats g b at (inr ne) = seat_left f g s.seats ne ∙ k.seats_are g b (sym (attached_less g f net.modules.filters ne) ∙ at)

pub keeps_each : (fs : List ℕ) (shelf : Shelf) (net : Net) (s : Sides) → Keeps shelf net s → EachSits net.modules.filters s.seats fs
    → Keeps (shelf_in_rows (detached fs) shelf) (after_rows net (detached fs)) (risen_each s fs)
keeps_each [] shelf net s k sits = k
keeps_each (f ∷ fs) shelf net s k sits =
    let at = sits.0 in
    let next : Sides = risen f s (Some at.place) in
    let rest = keeps_each fs (shelf_in_rows (off_row f ∷ []) shelf) (after net (off_row f)) next (keeps_off shelf net s f at.place at.entry k at.there at.seat) sits.1 in
    subst (λ o. Keeps (shelf_in_rows (detached (f ∷ fs)) shelf) (after_rows net (detached (f ∷ fs))) (risen_each (risen f s o) fs)) (sym at.seat) rest
