-- The drivers, the pools and the lists in hand agree with the state, for every stack.
use Rattle.std.specs.Prelude.{[], ◌≡◌, ℕ, ◌≤◌, ◌<◌, false, List, Some, None, All, length, map, slice_index_or}
use Rattle.ndis_base.specs.declared.ModuleId.{ModuleId}
use Rattle.journal_types.specs.declared.PortSetup.{PortSetup}
use Rattle.journal_types.specs.declared.Turn.{Turn}
use Rattle.ndis_base.specs.declared.Phase.{Phase}
use Rattle.ndis_base.specs.declared.Phase.TheVariants as phase
use Rattle.buffer_pools.specs.Views.{ListView, PoolView}
use Rattle.stack_rules.specs.declared.Attached.{Attached}
use Rattle.stack_rules.specs.Heads.{kind_of_binding}
use Rattle.stack_rules.specs.Net.{Net, attached}
use Rattle.stack_rules.specs.Places.{pool_of}
use Rattle.state_laws.specs.Laws.{IsThere}
use Rattle.promise_rules.specs.Drivers.{shelf_of, driver_of}
use Rattle.hand_lemmas.specs.Frames.{AreSized}
use Rattle.agenda_items.specs.declared.Carried.{Carried}
use Rattle.hand_lemmas.specs.Hands.{Agrees}
use Rattle.agenda_items.specs.declared.Carried.TheVariants.{List as a_list, Status as a_status, Answer as an_answer}
use Rattle.book_lemmas.specs.Views.{HeldView, no_protocol, filter_at, seat_of, IsVacant, IsPlace, IsOnShelf, held_pool, kept_of, hands_of}
use Rattle.driver_views.specs.States.{FilterState, ProtocolState}

-- each module that is there has a pool of the size that the rules give it, with room for frames of 1518 bytes
pub record IsPoolOf (net : Net) (m : ModuleId) (p : PoolView) : Type 0 where
  pub size : p.size ≡ pool_of net m
  pub bytes : p.bytes ≡ 1518

-- the list has 1 to 8 frames, each of 14 to 1518 bytes
abbrev pub IsSized : ListView → Type 0
IsSized l = AreSized l.frames

-- so has a list that is on its way; statuses and answers have no frames
abbrev pub IsCarriedSized : Carried → Type 0
IsCarriedSized (a_list l way to) = IsSized l
IsCarriedSized (a_status s) = Unit {0}
IsCarriedSized (an_answer a) = Unit {0}

-- so have all lists in hand
pub record AllSized (queue : List Carried) (held : HeldView) (loose : List ListView) : Type 0 where
  pub carried : All IsCarriedSized queue
  pub loose_sized : All IsSized loose
  pub kept : (m : ModuleId) → All IsSized (kept_of held m)

-- a filter that is attached sits at a place, where a driver of its kind stands, attached with its setup
pub record IsSeated (held : HeldView) (a : Attached) : Type 0 where
  pub place : ℕ
  pub seat : seat_of held.seats a.filter ≡ Some place
  pub kind : (filter_at held.filters (Some place)).kind ≡ a.kind
  pub setup : (filter_at held.filters (Some place)).setup ≡ Some a.setup

-- no place has two filters
abbrev pub SeatsApart : List (ℕ × ℕ) → Type 0
SeatsApart seats = (f g place : ℕ) → seat_of seats f ≡ Some place → seat_of seats g ≡ Some place → f ≡ g

-- a driver on the shelf is detached and keeps nothing
pub record IsResting (s : FilterState) : Type 0 where
  pub setup : s.setup ≡ None
  pub kept : s.kept ≡ []

-- a protocol that is closed
abbrev pub IsClosed : ProtocolState → Type 0
IsClosed s = s.is_open ≡ false

-- while the stack is Halted its miniport is halted and its protocols are closed; else the miniport is set up
abbrev pub DriversFit : PortSetup → HeldView → Phase → Type 0
DriversFit port held phase.Halted = (held.miniport.port ≡ None) × All IsClosed held.protocols
DriversFit port held _ = held.miniport.port ≡ Some port

-- what is on its way, what is held, and the lists that the function of the event has in hand agree with the state
pub record Stands (net : Net) (queue : List Carried) (held : HeldView) (loose : List ListView) : Type 0 where
  pub agrees : Agrees net (hands_of queue held loose)
  pub pools : (m : ModuleId) → IsThere net m → IsPoolOf net m (held_pool held m)
  pub sized : AllSized queue held loose
  pub ring : length held.miniport.kept ≤ net.head.port.ring
  pub miniport_kind : held.miniport.kind ≡ net.head.kind
  pub protocol_kinds : (i : ℕ) → i < length net.head.bindings → (slice_index_or held.protocols i no_protocol).kind ≡ kind_of_binding net.head i
  pub protocols : length held.protocols ≡ length net.head.bindings
  pub protocol_pools : length held.protocol_pools ≡ length net.head.bindings
  pub seated : (f : ℕ) (a : Attached) → attached f net.modules.filters ≡ Some a → IsSeated held a
  pub places : (f place : ℕ) → seat_of held.seats f ≡ Some place → IsPlace held place
  pub shelved : All (IsOnShelf held) held.shelf
  pub apart : SeatsApart held.seats
  pub resting : (place : ℕ) → IsVacant held.seats place → IsResting (filter_at held.filters (Some place))
  pub drivers : DriversFit net.head.port held net.phase

-- between turns the shelf and the seats are those that are promised of the journal
pub record IsShelved (net : Net) (turns : List Turn) (held : HeldView) : Type 0 where
  pub shelf : held.shelf ≡ (shelf_of (map (λ s. s.kind) held.filters) turns).places
  pub seats : (f : ℕ) (a : Attached) → attached f net.modules.filters ≡ Some a → seat_of held.seats f ≡ driver_of (shelf_of (map (λ s. s.kind) held.filters) turns).drivers f
