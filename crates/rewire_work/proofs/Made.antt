-- What the last steps of an event's function make of a book.
use Rattle.std.proofs.Common.{◌≡◌, ℕ, ◌-◌, ◌==◌, not, filter, List, [], ◌∷◌, ◌++◌, Some, None, slice_set, ap, ◌∙◌, subst}
use Rattle.std.specs.List.{insert}
use Rattle.ndis_base.specs.declared.FilterKind.{FilterKind}
use Rattle.ndis_base.specs.declared.ModuleId.TheVariants.{Filter}
use Rattle.ndis_base.specs.declared.ModuleState.TheVariants as state
use Rattle.journal_types.specs.declared.Event.TheVariants as event
use Rattle.journal_types.specs.declared.Reply.TheVariants as reply
use Rattle.journal_types.specs.declared.Setup.{Setup}
use Rattle.buffer_pools.specs.Views.{PoolView}
use Rattle.flat_journal.specs.declared.types.FlatReply.TheVariants as flat_reply
use Rattle.stack_rules.specs.Pauses.{state_row}
use Rattle.promise_rules.specs.Drivers.{without_place}
use Rattle.driver_views.specs.States.{FilterState}
use Rattle.driver_tray.specs.Tray.{TrayView, told_to, written}
use Rattle.book_lemmas.specs.Views.{BookView, HeldView, filter_at, seat_of}
use Rattle.rewire_work.specs.Seated.{seated, set_up, put_down, pool_for, attaching, reordered, without_seat, Inserts, sits, Removes}

-- what is held, by its changed parts
abbrev pub with_parts : HeldView → List FilterState → List PoolView → List (ℕ × ℕ) → List ℕ → HeldView
with_parts held filters pools seats shelf = record held { filters = filters; filter_pools = pools; seats = seats; shelf = shelf }

pub sat_parts : (held : HeldView) (f place : ℕ) (setup : Setup) (filters : List FilterState) (pools : List PoolView) (seats : List (ℕ × ℕ)) (shelf : List ℕ) (pool : PoolView)
    → filters ≡ slice_set held.filters place (filter_at filters (Some place)) → filter_at filters (Some place) ≡ set_up (filter_at held.filters (Some place)) setup
    → pools ≡ slice_set held.filter_pools place pool → pool ≡ pool_for setup → seats ≡ held.seats ++ (f, place) ∷ [] → shelf ≡ without_place place held.shelf
    → with_parts held filters pools seats shelf ≡ seated held f place (set_up (filter_at held.filters (Some place)) setup) (pool_for setup)
sat_parts held f place setup filters pools seats shelf pool filters_are took pools_are pool_is seats_are shelf_is =
    let filters_now = slice_set held.filters place (set_up (filter_at held.filters (Some place)) setup) in
    let pools_now = slice_set held.filter_pools place (pool_for setup) in
    ap (λ x. with_parts held x pools seats shelf) (filters_are ∙ ap (slice_set held.filters place) took)
    ∙ ap (λ x. with_parts held filters_now x seats shelf) (pools_are ∙ ap (slice_set held.filter_pools place) pool_is)
    ∙ ap (λ x. with_parts held filters_now pools_now x shelf) seats_are
    ∙ ap (λ x. with_parts held filters_now pools_now (held.seats ++ (f, place) ∷ []) x) shelf_is

pub made_inserts : (old : BookView) (kind : FilterKind) (position : ℕ) (setup : Setup) (place f : ℕ) (told given last : TrayView) (order : List ℕ) (filters : List FilterState) (pools : List PoolView) (seats : List (ℕ × ℕ)) (shelf : List ℕ) (pool : PoolView)
    → f ≡ old.tray.net.next.filter → seat_of old.held.seats f ≡ None → told ≡ told_to old.tray (event.Insert kind position setup) (reply.Inserted old.tray.net.next.filter) → given ≡ attaching told f → last ≡ reordered given order
    → order ≡ insert old.tray.net.modules.order (position - 1) f
    → filters ≡ slice_set old.held.filters place (filter_at filters (Some place)) → filter_at filters (Some place) ≡ set_up (filter_at old.held.filters (Some place)) setup
    → pools ≡ slice_set old.held.filter_pools place pool → pool ≡ pool_for setup → seats ≡ old.held.seats ++ (f, place) ∷ [] → shelf ≡ without_place place old.held.shelf
    → Inserts kind position setup place old (record { tray = last; held = with_parts old.held filters pools seats shelf }) (flat_reply.Inserted f)
made_inserts old kind position setup place f told given last order filters pools seats shelf pool number free told_is given_is last_is order_is filters_are took pools_are pool_is seats_are shelf_is =
    let n = old.tray.net.next.filter in
    sits (subst (λ m. seat_of old.held.seats m ≡ None) number free) (ap (λ m. flat_reply.Inserted m) number)
    (last_is
    ∙ ap (reordered given) (order_is ∙ ap (insert old.tray.net.modules.order (position - 1)) number)
    ∙ ap (λ t. reordered t (insert old.tray.net.modules.order (position - 1) n)) (given_is ∙ ap (attaching told) number ∙ ap (λ t. attaching t n) told_is))
    (sat_parts old.held f place setup filters pools seats shelf pool filters_are took pools_are pool_is seats_are shelf_is
    ∙ ap (λ m. seated old.held m place (set_up (filter_at old.held.filters (Some place)) setup) (pool_for setup)) number)

-- a removal
pub made_removes : (old : BookView) (f place : ℕ) (given last : TrayView) (order : List ℕ) (filters : List FilterState) (seats : List (ℕ × ℕ)) (shelf : List ℕ) → seat_of old.held.seats f ≡ Some place
    → given ≡ written old.tray (state_row state.Detached (Filter f)) → last ≡ reordered given order → order ≡ filter (λ g. not (g == f)) old.tray.net.modules.order
    → filters ≡ slice_set old.held.filters place (put_down (filter_at old.held.filters (Some place))) → seats ≡ without_seat f old.held.seats → shelf ≡ old.held.shelf ++ place ∷ []
    → Removes f old (record { tray = last; held = with_parts old.held filters old.held.filter_pools seats shelf })
made_removes old f place given last order filters seats shelf seat given_is last_is order_is filters_are seats_are shelf_is =
    let filters_now = slice_set old.held.filters place (put_down (filter_at old.held.filters (Some place))) in
    record {
      place = place;
      seat = seat;
      tray = last_is ∙ ap (reordered given) order_is ∙ ap (λ t. reordered t (filter (λ g. not (g == f)) old.tray.net.modules.order)) given_is;
      held = ap (λ x. with_parts old.held x old.held.filter_pools seats shelf) filters_are
          ∙ ap (λ x. with_parts old.held filters_now old.held.filter_pools x shelf) seats_are
          ∙ ap (λ x. with_parts old.held filters_now old.held.filter_pools (without_seat f old.held.seats) x) shelf_is;
    }
