-- A stack that is opened over the drivers that are handed in, and how they are handed back.
use Rattle.std.specs.Prelude.{◌≡◌, ℕ, List, [], None, All, length, map, replicate}
use Rattle.ndis_base.specs.declared.FilterKind.{FilterKind}
use Rattle.ndis_base.specs.declared.ProtocolKind.{ProtocolKind}
use Rattle.journal_types.specs.declared.StackHead.{StackHead}
use Rattle.buffer_pools.specs.Views.{PoolView}
use Rattle.promise_rules.specs.Drivers.{places_from}
use Rattle.driver_views.specs.States.{FilterState, MiniportState, ProtocolState}
use Rattle.driver_tray.specs.Tray.{IsNew}
use Rattle.driver_choice.specs.Parts.{PartsView}
use Rattle.book_lemmas.specs.Views.{BookView, no_pool}
use Rattle.book_lemmas.specs.Stands.{IsResting, IsClosed, IsShelved}
use Rattle.book_parts.specs.Events.{IsBook, IsIdle}
use Rattle.book_opening.specs.declared.opening.StackDrivers.{StackDrivers}
use Rattle.book_opening.specs.declared.opening.Beginning.{Beginning}

-- the miniports and protocols that are handed in, by their states
abbrev pub drivers_of : {M P F : Type 0} → (M → MiniportState) → (P → ProtocolState) → StackDrivers M P F → PartsView
drivers_of m p d = record { miniports = map m d.miniports.items; protocols = map p d.protocols.items }

-- all drivers that are handed in, by their states: the miniports and protocols, and the filters on the shelf
pub record HandedView : Type 0 where
  pub drivers : PartsView
  pub shelf : List FilterState

abbrev pub handed_of : {M P F : Type 0} → (M → MiniportState) → (P → ProtocolState) → (F → FilterState) → StackDrivers M P F → HandedView
handed_of m p f d = record { drivers = drivers_of m p d; shelf = map f d.shelf.items }

-- an empty pool for each binding
abbrev pub pool_for : (ProtocolKind × ℕ) → PoolView
pool_for setup = record { size = setup.1; bytes = 1518; slots = [] }

abbrev pub kind_of : FilterState → FilterKind
kind_of s = s.kind

-- a miniport that is halted and keeps nothing, and a protocol that is closed and keeps nothing
pub record IsHaltedDriver (s : MiniportState) : Type 0 where
  pub port : s.port ≡ None
  pub kept : s.kept ≡ []

pub record IsClosedDriver (s : ProtocolState) : Type 0 where
  pub closed : IsClosed s
  pub kept : s.kept ≡ []

-- all drivers that are handed in rest, and keep nothing
pub record AreIdle (handed : HandedView) : Type 0 where
  pub miniports : All IsHaltedDriver handed.drivers.miniports
  pub protocols : All IsClosedDriver handed.drivers.protocols
  pub filters : All IsResting handed.shelf

-- what a stack has beside its drivers as it begins
pub record HasParts (head : StackHead) (filters : List FilterState) (b : Beginning) : Type 0 where
  pub setups : b.setups.items ≡ head.bindings
  pub tray : IsNew head b.tray
  pub shelf : b.shelf.items ≡ places_from 0 (map kind_of filters)
  pub seats : b.seats.items ≡ []
  pub miniport_pool : b.miniport_pool ≡ record { size = head.port.pool; bytes = 1518; slots = [] }
  pub protocol_pools : b.protocol_pools.items ≡ map pool_for head.bindings
  pub filter_pools : b.filter_pools.items ≡ replicate (length filters) no_pool

-- a stack of this head without turns, whose filters all stand on the shelf
pub record IsOpenedBook (head : StackHead) (b : BookView) : Type 0 where
  pub book : IsBook b
  pub idle : IsIdle b
  pub shelved : IsShelved b.tray.net b.tray.turns b.held
  pub head_is : b.tray.head ≡ head
  pub turns : b.tray.turns ≡ []
