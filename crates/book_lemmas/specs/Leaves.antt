-- What a call of a driver leaves as it is, and rows that change no module, no phase and no setup.
use Rattle.std.specs.Prelude.{◌≡◌, ℕ, List, [], ◌∷◌, Some, length, slice_index_or}
use Rattle.ndis_base.specs.declared.ModuleId.{ModuleId}
use Rattle.ndis_base.specs.declared.ModuleState.{ModuleState}
use Rattle.ndis_base.specs.declared.ModuleState.TheVariants as state
use Rattle.journal_types.specs.declared.PhaseOf.{PhaseOf}
use Rattle.journal_types.specs.declared.PhaseOf.TheVariants as of
use Rattle.stack_rules.specs.declared.Attached.{Attached}
use Rattle.journal_types.specs.declared.Row.{Row}
use Rattle.journal_types.specs.declared.Row.TheVariants as row
use Rattle.stack_rules.specs.Net.{Net, attached}
use Rattle.stack_rules.specs.Places.{pool_in}
use Rattle.book_lemmas.specs.Views.{HeldView, filter_at, no_protocol, IsVacant, held_pool}

-- rows of lists, statuses, requests and messages: all but those of phases and configurations
abbrev pub ArePlain : List Row → Type 0
ArePlain [] = Unit {0}
ArePlain (row.Phase whose ∷ rows) = ⊥
ArePlain (row.Config config filters ∷ rows) = ⊥
ArePlain (_ ∷ rows) = ArePlain rows

-- the modules, the phase and the head are the same
pub record IsCalm (net now : Net) : Type 0 where
  pub head : now.head ≡ net.head
  pub modules : now.modules ≡ net.modules
  pub phase : now.phase ≡ net.phase

-- no driver was attached, detached, opened, closed, initialised or halted, and the pools have their sizes
pub record Leaves (old new : HeldView) : Type 0 where
  pub seats : new.seats ≡ old.seats
  pub shelf : new.shelf ≡ old.shelf
  pub port : new.miniport.port ≡ old.miniport.port
  pub miniport_kind : new.miniport.kind ≡ old.miniport.kind
  pub protocol_kinds : (i : ℕ) → (slice_index_or new.protocols i no_protocol).kind ≡ (slice_index_or old.protocols i no_protocol).kind
  pub protocols : length new.protocols ≡ length old.protocols
  pub drivers : length new.filters ≡ length old.filters
  pub opened : (i : ℕ) → (slice_index_or new.protocols i no_protocol).is_open ≡ (slice_index_or old.protocols i no_protocol).is_open
  pub kinds : (place : ℕ) → (filter_at new.filters (Some place)).kind ≡ (filter_at old.filters (Some place)).kind
  pub setups : (place : ℕ) → (filter_at new.filters (Some place)).setup ≡ (filter_at old.filters (Some place)).setup
  pub resting : (place : ℕ) → IsVacant old.seats place → filter_at new.filters (Some place) ≡ filter_at old.filters (Some place)
  pub protocol_pools : length new.protocol_pools ≡ length old.protocol_pools
  pub filter_pools : length new.filter_pools ≡ length old.filter_pools
  pub sizes : (m : ModuleId) → (held_pool new m).size ≡ (held_pool old m).size
  pub bytes : (m : ModuleId) → (held_pool new m).bytes ≡ (held_pool old m).bytes

-- rows of phases by which no filter is attached or detached
abbrev pub IsStaying : ModuleState → Type 0
IsStaying state.Detached = ⊥
IsStaying _ = Unit {0}

-- the phase of a stack, or such a state of a module
abbrev pub IsPhaseOnly : PhaseOf → Type 0
IsPhaseOnly (of.Module m s) = IsStaying s
IsPhaseOnly (of.Stack p) = Unit {0}

-- rows of such phases alone
abbrev pub ArePhases : List Row → Type 0
ArePhases [] = Unit {0}
ArePhases (row.Phase whose ∷ rows) = IsPhaseOnly whose × ArePhases rows
ArePhases (_ ∷ rows) = ⊥

-- a filter that is attached was attached before, of the same kind and with the same setup
pub record WasAttached (net : Net) (a : Attached) (f : ℕ) : Type 0 where
  pub was : Attached
  pub there : attached f net.modules.filters ≡ Some was
  pub number : a.filter ≡ was.filter
  pub kind : a.kind ≡ was.kind
  pub setup : a.setup ≡ was.setup

-- what rows of phases leave of the modules
pub record IsSeatedStill (net now : Net) : Type 0 where
  pub head : now.head ≡ net.head
  pub order : now.modules.order ≡ net.modules.order
  pub bindings : length now.modules.bindings ≡ length net.modules.bindings
  pub filters : (f : ℕ) (a : Attached) → attached f now.modules.filters ≡ Some a → WasAttached net a f
  pub pools : (f : ℕ) → pool_in (attached f now.modules.filters) ≡ pool_in (attached f net.modules.filters)
  pub things : now.things ≡ net.things
  pub next : now.next.list ≡ net.next.list
