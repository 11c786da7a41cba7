-- Drivers that are set up, and the rows of a stack that is initialised (WDK, "Initializing a Miniport Driver",
-- "Binding to an Adapter").
use Rattle.std.specs.Prelude.{◌≡◌, ℕ, true, false, List, [], ◌∷◌, ◌++◌, Some, map}
use Rattle.ndis_base.specs.declared.ModuleId.TheVariants.{Miniport}
use Rattle.ndis_base.specs.declared.ModuleState.TheVariants as state
use Rattle.ndis_base.specs.declared.Phase.TheVariants as phase
use Rattle.journal_types.specs.declared.PhaseOf.TheVariants as of
use Rattle.journal_types.specs.declared.PortSetup.{PortSetup}
use Rattle.journal_types.specs.declared.Row.{Row}
use Rattle.journal_types.specs.declared.Row.TheVariants as row
use Rattle.stack_rules.specs.Outcome.{config_no}
use Rattle.stack_rules.specs.Pauses.{state_row, state_rows}
use Rattle.driver_views.specs.States.{MiniportState, ProtocolState}
use Rattle.driver_tray.specs.Tray.{TrayView, configured}
use Rattle.driver_calls.specs.Miniports.{Refuses}
use Rattle.book_lemmas.specs.Views.{HeldView}
use Rattle.phase_work.specs.Written.{each_written, bindings_from}

-- a protocol that is open, and one that is closed
abbrev pub opened : ProtocolState → ProtocolState
opened s = record s { is_open = true }

abbrev pub closed : ProtocolState → ProtocolState
closed s = record s { is_open = false }

-- a miniport with its port
abbrev pub ported : PortSetup → MiniportState → MiniportState
ported port s = record s { port = Some port }

-- the miniport has its port, and all protocols are open
pub record AreSetUp (port : PortSetup) (m : MiniportState) (ps : List ProtocolState) (m' : MiniportState) (ps' : List ProtocolState) : Type 0 where
  pub miniport : m' ≡ ported port m
  pub protocols : ps' ≡ map opened ps

-- the miniport refused, and no protocol was called
pub record HasRefused (m : MiniportState) (ps : List ProtocolState) (m' : MiniportState) (ps' : List ProtocolState) : Type 0 where
  pub miniport : Refuses m m'
  pub protocols : ps' ≡ ps

-- all are as they were
pub record AreSame (m : MiniportState) (ps : List ProtocolState) (m' : MiniportState) (ps' : List ProtocolState) : Type 0 where
  pub miniport : m' ≡ m
  pub protocols : ps' ≡ ps

-- what is held once the drivers are set up
abbrev pub set_up : PortSetup → HeldView → HeldView
set_up port held = record held { miniport = ported port held.miniport; protocols = map opened held.protocols }

-- the rows of phases of a stack of so many bindings, and the tray with the first configuration behind them
abbrev pub phases_up : ℕ → List Row
phases_up n =
    state_row state.Paused Miniport
    ∷ (state_rows (state.Opening ∷ state.Paused ∷ []) (bindings_from 0 n) ++ row.Phase (of.Stack phase.Paused) ∷ [])

abbrev pub written_up : TrayView → ℕ → TrayView
written_up t n = configured (each_written t (phases_up n)) (config_no 1) []
