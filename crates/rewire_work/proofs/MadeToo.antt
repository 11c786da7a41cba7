-- What the last steps of a replacement make of a book.
use Rattle.std.proofs.Common.{◌≡◌, ℕ, ◌<◌, List, [], ◌∷◌, ◌++◌, Some, None, slice_set, length, length-set, map, ap, ◌∙◌, subst, arith}
use Rattle.std.proofs.lemmas.List.{length-map}
use Rattle.ndis_base.specs.declared.FilterKind.{FilterKind}
use Rattle.ndis_base.specs.declared.ModuleId.TheVariants.{Filter}
use Rattle.ndis_base.specs.declared.ModuleState.TheVariants as state
use Rattle.journal_types.specs.declared.Event.TheVariants as event
use Rattle.journal_types.specs.declared.Reply.TheVariants as reply
use Rattle.journal_types.specs.declared.Setup.{Setup}
use Rattle.buffer_pools.specs.Views.{PoolView}
use Rattle.flat_journal.specs.declared.types.FlatReply.TheVariants as flat_reply
use Rattle.stack_rules.specs.Pauses.{state_row}
use Rattle.stack_rules.specs.Rewires.{swapped}
use Rattle.promise_rules.specs.Drivers.{without_place}
use Rattle.driver_views.specs.States.{FilterState}
use Rattle.driver_tray.specs.Tray.{TrayView, told_to, written}
use Rattle.book_lemmas.specs.Views.{BookView, HeldView, filter_at, seat_of}
use Rattle.book_parts.specs.Events.{IsBook}
use Rattle.rewire_work.specs.Rested.{IsAtRest}
use Rattle.rewire_work.specs.Seated.{set_up, put_down, pool_for, attaching, reordered, without_seat, reseated, Replaces, swaps}
use Rattle.rewire_work.proofs.Inserted.{IsFirst}
use Rattle.rewire_work.proofs.Made.{with_parts, sat_parts}
use Rattle.rewire_work.proofs.Removed.{keeps_none}
use Rattle.rewire_work.proofs.Sitting.{filter_other}

pub made_replaces : (old : BookView) (kind : FilterKind) (setup : Setup) (place f q new : ℕ) (told gone given last : TrayView) (order : List ℕ) (attached filters : List FilterState) (pools : List PoolView) (sat seats : List (ℕ × ℕ)) (off shelf : List ℕ) (pool : PoolView)
    → new ≡ old.tray.net.next.filter → seat_of old.held.seats new ≡ None → seat_of old.held.seats f ≡ Some q
    → told ≡ told_to old.tray (event.Replace f kind setup) (reply.Replaced old.tray.net.next.filter) → gone ≡ written told (state_row state.Detached (Filter f)) → given ≡ attaching gone new → last ≡ reordered given order
    → order ≡ map (swapped f new) old.tray.net.modules.order
    → attached ≡ slice_set old.held.filters place (filter_at attached (Some place)) → filter_at attached (Some place) ≡ set_up (filter_at old.held.filters (Some place)) setup
    → pools ≡ slice_set old.held.filter_pools place pool → pool ≡ pool_for setup → sat ≡ old.held.seats ++ (new, place) ∷ [] → off ≡ without_place place old.held.shelf
    → filters ≡ slice_set attached q (put_down (filter_at attached (Some q))) → seats ≡ without_seat f sat → shelf ≡ off ++ q ∷ []
    → Replaces f kind setup place old (record { tray = last; held = with_parts old.held filters pools seats shelf }) (flat_reply.Replaced new)
made_replaces old kind setup place f q new told gone given last order attached filters pools sat seats off shelf pool number free seat told_is gone_is given_is last_is order_is attached_are took pools_are pool_is sat_are off_is filters_are seats_are shelf_is =
    let n = old.tray.net.next.filter in
    let s = set_up (filter_at old.held.filters (Some place)) setup in
    let both = sat_parts old.held new place setup attached pools sat off pool attached_are took pools_are pool_is sat_are off_is in
    let risen : HeldView → HeldView = λ h. record h { filters = slice_set h.filters q (put_down (filter_at h.filters (Some q))); seats = without_seat f h.seats; shelf = h.shelf ++ q ∷ [] } in
    let filters_now = slice_set attached q (put_down (filter_at attached (Some q))) in
    swaps q seat (subst (λ m. seat_of old.held.seats m ≡ None) number free) (ap (λ m. flat_reply.Replaced m) number)
    (last_is
    ∙ ap (reordered given) (order_is ∙ ap (λ m. map (swapped f m) old.tray.net.modules.order) number)
    ∙ ap (λ t. reordered t (map (swapped f n) old.tray.net.modules.order))
    (given_is ∙ ap (attaching gone) number ∙ ap (λ t. attaching t n) (gone_is ∙ ap (λ t. written t (state_row state.Detached (Filter f))) told_is)))
    (ap (λ x. with_parts old.held x pools seats shelf) filters_are
    ∙ ap (λ x. with_parts old.held filters_now pools x shelf) seats_are
    ∙ ap (λ x. with_parts old.held filters_now pools (without_seat f sat) x) shelf_is
    ∙ ap risen both
    ∙ ap (λ m. reseated old.held f q m place setup) number)

-- the driver of the filter that goes is there, and keeps nothing
pub goes_there : {X : Type 0} (get : X → FilterState) (xs : List X) (old : BookView) (f q place : ℕ) (x : FilterState) → IsBook old → map get xs ≡ slice_set old.held.filters place x → seat_of old.held.seats f ≡ Some q → q < length xs
goes_there get xs old f q place x k is seat =
    let within : q < length old.held.filters = (k.stands.places f q seat).driver in
    omega (arith, within, length-map xs get, ap length is, length-set old.held.filters place x)

pub goes_empty : (old : BookView) (kind : FilterKind) (f q place : ℕ) (x : FilterState) (filters : List FilterState) → IsBook old → IsAtRest old.tray.net → IsFirst old kind place → filters ≡ slice_set old.held.filters place x → seat_of old.held.seats f ≡ Some q
    → (filter_at filters (Some q)).kept ≡ []
goes_empty old kind f q place x filters k rest first is seat =
    ap (λ xs. (filter_at xs (Some q)).kept) is
    ∙ ap (λ (y : FilterState). y.kept) (filter_other old.held.filters place x (Some q) (λ e. first.on.vacant f (seat ∙ e)))
    ∙ keeps_none old f q k rest seat
