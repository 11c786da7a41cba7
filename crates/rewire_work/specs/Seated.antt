-- A filter sits down at the place of a driver on the shelf.
use Rattle.std.specs.Prelude.{◌≡◌, ℕ, ◌+◌, ◌-◌, ◌==◌, Bool, not, [], ◌∷◌, ◌++◌, List, Some, None, slice_set, insert, filter, map}
use Rattle.ndis_base.specs.declared.FilterKind.{FilterKind}
use Rattle.ndis_base.specs.declared.ModuleId.TheVariants.{Filter}
use Rattle.ndis_base.specs.declared.ModuleState.TheVariants as state
use Rattle.journal_types.specs.declared.Event.TheVariants as event
use Rattle.journal_types.specs.declared.Refusal.TheVariants as refusal
use Rattle.journal_types.specs.declared.Reply.TheVariants as reply
use Rattle.journal_types.specs.declared.Setup.{Setup}
use Rattle.buffer_pools.specs.Views.{PoolView}
use Rattle.flat_journal.specs.declared.types.FlatReply.{FlatReply}
use Rattle.flat_journal.specs.declared.types.FlatReply.TheVariants as flat_reply
use Rattle.stack_rules.specs.Outcome.{config_no}
use Rattle.stack_rules.specs.Pauses.{state_row}
use Rattle.stack_rules.specs.Rewires.{swapped}
use Rattle.promise_rules.specs.Drivers.{same_filter_kind, without_place}
use Rattle.driver_views.specs.States.{FilterState}
use Rattle.driver_tray.specs.Tray.{TrayView, told_to, written, configured}
use Rattle.driver_calls.specs.Filters.{Refuses}
use Rattle.book_lemmas.specs.Views.{BookView, HeldView, filter_at, seat_of}

-- the driver at a place is of a kind
abbrev pub is_kind_at : FilterKind → List FilterState → ℕ → Bool
is_kind_at kind filters place = same_filter_kind (filter_at filters (Some place)).kind kind

-- a driver took a state
abbrev pub took_state : HeldView → ℕ → FilterState → HeldView
took_state held place s = record held { filters = slice_set held.filters place s }

-- a filter sits at a place, with its pool; the place is no longer on the shelf
abbrev pub seated : HeldView → ℕ → ℕ → FilterState → PoolView → HeldView
seated held f place s pool = record held {
  filters = slice_set held.filters place s;
  filter_pools = slice_set held.filter_pools place pool;
  seats = held.seats ++ (f, place) ∷ [];
  shelf = without_place place held.shelf;
}

-- the driver with a set-up
abbrev pub set_up : FilterState → Setup → FilterState
set_up s setup = record s { setup = Some setup }

-- the pool of a filter with a set-up
abbrev pub pool_for : Setup → PoolView
pool_for setup = record { size = setup.pool; bytes = 1518; slots = [] }

-- a filter took the two states in which it is attached
abbrev pub attaching : TrayView → ℕ → TrayView
attaching t f = written (written t (state_row state.Attaching (Filter f))) (state_row state.Paused (Filter f))

-- and stands in the next configuration, whose order is this one
abbrev pub reordered : TrayView → List ℕ → TrayView
reordered t order = configured t (config_no (t.net.modules.config + 1)) order

-- the filter of the next number was inserted
abbrev pub inserted_tray : TrayView → FilterKind → ℕ → Setup → TrayView
inserted_tray t kind position setup =
    reordered (attaching (told_to t (event.Insert kind position setup) (reply.Inserted t.net.next.filter)) t.net.next.filter)
    (insert t.net.modules.order (position - 1) t.net.next.filter)

-- the driver at a place attached, and its filter was inserted; or it refused
pub data Inserts (kind : FilterKind) (position : ℕ) (setup : Setup) (place : ℕ) (old new : BookView) (r : FlatReply) : Type 0 where
  sits : seat_of old.held.seats old.tray.net.next.filter ≡ None → r ≡ flat_reply.Inserted old.tray.net.next.filter → new.tray ≡ inserted_tray old.tray kind position setup
      → new.held ≡ seated old.held old.tray.net.next.filter place (set_up (filter_at old.held.filters (Some place)) setup) (pool_for setup)
      → Inserts kind position setup place old new r
  balks : (s : FilterState) → r ≡ flat_reply.Refused refusal.AttachRefused → new.tray ≡ old.tray
      → Refuses (filter_at old.held.filters (Some place)) s → new.held ≡ took_state old.held place s
      → Inserts kind position setup place old new r

-- the seats but that of a filter
abbrev pub without_seat : ℕ → List (ℕ × ℕ) → List (ℕ × ℕ)
without_seat f seats = filter (λ seat. not (seat.0 == f)) seats

-- a filter got up from a place, whose driver goes to the shelf's end
abbrev pub unseated : HeldView → ℕ → ℕ → FilterState → HeldView
unseated held f place s = record held {
  filters = slice_set held.filters place s;
  seats = without_seat f held.seats;
  shelf = held.shelf ++ place ∷ [];
}

-- the driver without a set-up
abbrev pub put_down : FilterState → FilterState
put_down s = record s { setup = None }

-- a filter was removed
abbrev pub removed_tray : TrayView → ℕ → TrayView
removed_tray t f = reordered (written t (state_row state.Detached (Filter f))) (filter (λ g. not (g == f)) t.net.modules.order)

pub record Removes (f : ℕ) (old new : BookView) : Type 0 where
  pub place : ℕ
  pub seat : seat_of old.held.seats f ≡ Some place
  pub tray : new.tray ≡ removed_tray old.tray f
  pub held : new.held ≡ unseated old.held f place (put_down (filter_at old.held.filters (Some place)))

-- a filter took another's place in the order
abbrev pub replaced_tray : TrayView → ℕ → FilterKind → Setup → TrayView
replaced_tray t f kind setup =
    reordered (attaching (written (told_to t (event.Replace f kind setup) (reply.Replaced t.net.next.filter)) (state_row state.Detached (Filter f))) t.net.next.filter)
    (map (swapped f t.net.next.filter) t.net.modules.order)

-- the new filter sits, and the old one got up
abbrev pub reseated : HeldView → ℕ → ℕ → ℕ → ℕ → Setup → HeldView
reseated held f q n place setup =
    let sat = seated held n place (set_up (filter_at held.filters (Some place)) setup) (pool_for setup) in
    unseated sat f q (put_down (filter_at sat.filters (Some q)))

-- the driver at a place attached, and its filter took the place of another; or it refused
pub data Replaces (f : ℕ) (kind : FilterKind) (setup : Setup) (place : ℕ) (old new : BookView) (r : FlatReply) : Type 0 where
  swaps : (q : ℕ) → seat_of old.held.seats f ≡ Some q → seat_of old.held.seats old.tray.net.next.filter ≡ None
      → r ≡ flat_reply.Replaced old.tray.net.next.filter → new.tray ≡ replaced_tray old.tray f kind setup
      → new.held ≡ reseated old.held f q old.tray.net.next.filter place setup → Replaces f kind setup place old new r
  declines : (s : FilterState) → r ≡ flat_reply.Refused refusal.AttachRefused → new.tray ≡ old.tray
      → Refuses (filter_at old.held.filters (Some place)) s → new.held ≡ took_state old.held place s → Replaces f kind setup place old new r
