-- Which of the handed-in drivers stands for each module, and how often and with what a journal calls it.
use Rattle.std.specs.Prelude.{ℕ, ◌+◌, ◌==◌, ◌&&◌, not, Bool, true, false, List, [], ◌∷◌, ◌++◌, slice_get, Option, Some, None, option_map, unwrap_or, find, filter, if◌then◌else◌}
use Rattle.std.specs.List.{list_any}
use Rattle.ndis_base.specs.declared.ModuleId.TheVariants.{Filter}
use Rattle.ndis_base.specs.declared.ModuleState.TheVariants as state
use Rattle.ndis_base.specs.declared.MiniportKind.{MiniportKind}
use Rattle.ndis_base.specs.declared.MiniportKind.TheVariants as miniport_kind
use Rattle.ndis_base.specs.declared.FilterKind.{FilterKind}
use Rattle.ndis_base.specs.declared.FilterKind.TheVariants as filter_kind
use Rattle.ndis_base.specs.declared.ProtocolKind.{ProtocolKind}
use Rattle.ndis_base.specs.declared.ProtocolKind.TheVariants as protocol_kind
use Rattle.journal_types.specs.declared.PhaseOf.TheVariants as of
use Rattle.journal_types.specs.declared.Event.{Event}
use Rattle.journal_types.specs.declared.Event.TheVariants as event
use Rattle.journal_types.specs.declared.Reply.{Reply}
use Rattle.journal_types.specs.declared.Reply.TheVariants as reply
use Rattle.journal_types.specs.declared.Row.{Row}
use Rattle.journal_types.specs.declared.Row.TheVariants as row
use Rattle.journal_types.specs.declared.Turn.{Turn}

abbrev pub same_miniport_kind : MiniportKind → MiniportKind → Bool
same_miniport_kind miniport_kind.Ring miniport_kind.Ring = true
same_miniport_kind miniport_kind.Loop miniport_kind.Loop = true
same_miniport_kind miniport_kind.Virtual miniport_kind.Virtual = true
same_miniport_kind _ _ = false

abbrev pub same_filter_kind : FilterKind → FilterKind → Bool
same_filter_kind filter_kind.Pass filter_kind.Pass = true
same_filter_kind filter_kind.Rule filter_kind.Rule = true
same_filter_kind filter_kind.Hold filter_kind.Hold = true
same_filter_kind filter_kind.Tag filter_kind.Tag = true
same_filter_kind filter_kind.Count filter_kind.Count = true
same_filter_kind filter_kind.Classify filter_kind.Classify = true
same_filter_kind _ _ = false

abbrev pub same_protocol_kind : ProtocolKind → ProtocolKind → Bool
same_protocol_kind protocol_kind.Log protocol_kind.Log = true
same_protocol_kind protocol_kind.Retain protocol_kind.Retain = true
same_protocol_kind protocol_kind.Echo protocol_kind.Echo = true
same_protocol_kind protocol_kind.Mux protocol_kind.Mux = true
same_protocol_kind _ _ = false

-- the miniport's driver: the first miniport of the kind, by its number among the miniports
abbrev pub miniport_from : ℕ → MiniportKind → List MiniportKind → Option ℕ
miniport_from place kind [] = None
miniport_from place kind (k ∷ ks) = if same_miniport_kind k kind then Some place else miniport_from (place + 1) kind ks

abbrev pub miniport_place : MiniportKind → List MiniportKind → Option ℕ
miniport_place kind kinds = miniport_from 0 kind kinds

-- each binding's driver: the first protocol of its kind that no earlier binding has
abbrev pub protocol_from : ℕ → List ℕ → ProtocolKind → List ProtocolKind → Option ℕ
protocol_from place used kind [] = None
protocol_from place used kind (k ∷ ks) =
    if same_protocol_kind k kind && not (list_any (λ p. p == place) used) then Some place else protocol_from (place + 1) used kind ks

abbrev pub with_place : List ℕ → Option ℕ → List ℕ
with_place used None = used
with_place used (Some place) = used ++ place ∷ []

abbrev pub protocol_places : List ℕ → List (ProtocolKind × ℕ) → List ProtocolKind → List (Option ℕ)
protocol_places used [] kinds = []
protocol_places used (b ∷ bs) kinds =
    protocol_from 0 used b.0 kinds ∷ protocol_places (with_place used (protocol_from 0 used b.0 kinds)) bs kinds

-- the filters' drivers: those that stand on the shelf in order, and the one that each filter has or had
pub record Shelf : Type 0 where
  pub places : List ℕ
  pub drivers : List (ℕ × ℕ)

abbrev pub is_of_kind : FilterKind → List FilterKind → ℕ → Bool
is_of_kind kind kinds place = unwrap_or (option_map (λ k. same_filter_kind k kind) (slice_get kinds place)) false

abbrev pub without_place : ℕ → List ℕ → List ℕ
without_place place places = filter (λ p. not (p == place)) places

abbrev pub taken_from : ℕ → Shelf → Option ℕ → Shelf
taken_from f shelf None = shelf
taken_from f shelf (Some place) = record { places = without_place place shelf.places; drivers = shelf.drivers ++ (f, place) ∷ [] }

-- a new filter takes the first driver of the kind
abbrev pub taken_for : ℕ → FilterKind → List FilterKind → Shelf → Shelf
taken_for f kind kinds shelf = taken_from f shelf (find (is_of_kind kind kinds) shelf.places)

abbrev pub shelf_told : List FilterKind → Event → Reply → Shelf → Shelf
shelf_told kinds (event.Insert kind position setup) (reply.Inserted f) shelf = taken_for f kind kinds shelf
shelf_told kinds (event.Replace old kind setup) (reply.Replaced f) shelf = taken_for f kind kinds shelf
shelf_told kinds _ _ shelf = shelf

abbrev pub driver_of : List (ℕ × ℕ) → ℕ → Option ℕ
driver_of drivers f = option_map (λ d. d.1) (find (λ d. d.0 == f) drivers)

-- a detached filter's driver goes to the shelf's end
abbrev pub shelf_at : Row → Shelf → Shelf
shelf_at (row.Phase (of.Module (Filter f) state.Detached)) shelf = record shelf { places = with_place shelf.places (driver_of shelf.drivers f) }
shelf_at _ shelf = shelf

abbrev pub shelf_in_rows : List Row → Shelf → Shelf
shelf_in_rows [] shelf = shelf
shelf_in_rows (r ∷ rows) shelf = shelf_in_rows rows (shelf_at r shelf)

abbrev pub shelf_in_turns : List FilterKind → List Turn → Shelf → Shelf
shelf_in_turns kinds [] shelf = shelf
shelf_in_turns kinds (t ∷ ts) shelf = shelf_in_turns kinds ts (shelf_in_rows t.rows (shelf_told kinds t.event t.reply shelf))

abbrev pub places_from : ℕ → List FilterKind → List ℕ
places_from place [] = []
places_from place (k ∷ ks) = place ∷ places_from (place + 1) ks

-- before the first turn all filters' drivers stand on the shelf, in the order in which they were handed in
abbrev pub shelf_of : List FilterKind → List Turn → Shelf
shelf_of kinds turns = shelf_in_turns kinds turns (record { places = places_from 0 kinds; drivers = [] })
