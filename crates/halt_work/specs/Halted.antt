-- A stack that is halted: its rows, and what is held then (WDK, "Halting a Miniport Adapter").
use Rattle.std.specs.Prelude.{◌≡◌, ℕ, ◌+◌, ◌*◌, ◌≤◌, ◌<◌, ◌^◌, ◌==◌, [], ◌∷◌, ◌++◌, List, Option, Some, None, if◌then◌else◌, All, map}
use Rattle.ndis_base.specs.declared.ModuleId.TheVariants.{Miniport, Filter}
use Rattle.ndis_base.specs.declared.ModuleState.TheVariants as state
use Rattle.ndis_base.specs.declared.Phase.TheVariants as phase
use Rattle.journal_types.specs.declared.PhaseOf.TheVariants as of
use Rattle.journal_types.specs.declared.Refusal.{Refusal}
use Rattle.journal_types.specs.declared.Refusal.TheVariants as refusal
use Rattle.journal_types.specs.declared.Row.{Row}
use Rattle.journal_types.specs.declared.Row.TheVariants as row
use Rattle.stack_rules.specs.Net.{Net}
use Rattle.stack_rules.specs.Pauses.{state_row, state_rows, halt_items}
use Rattle.stack_rules.specs.Tests.{phase_is_paused}
use Rattle.driver_views.specs.States.{MiniportState, ProtocolState}
use Rattle.driver_tray.specs.Tray.{TrayView}
use Rattle.book_lemmas.specs.Views.{BookView, HeldView}
use Rattle.phase_work.specs.Written.{each_written, bindings_from}
use Rattle.setup_work.specs.SetUp.{closed}
use Rattle.halt_work.specs.Risen.{sides_of, with_sides, risen_each, CanEachRise}

-- what a halt is refused for
abbrev pub halt_refusal : Net → Option Refusal
halt_refusal net =
    if phase_is_paused net.phase
    then (if halt_items net == 0 then None else Some (refusal.Busy (halt_items net)))
    else Some (refusal.WrongPhase net.phase)

-- a protocol keeps nothing
abbrev pub KeepsNothing : ProtocolState → Type 0
KeepsNothing s = s.kept ≡ []

-- a miniport without its port
abbrev pub unported : MiniportState → MiniportState
unported s = record s { port = None }

-- the rows of a stack of so many bindings, with these filters
abbrev pub closing : ℕ → List Row
closing n = state_rows (state.Closing ∷ state.Unbound ∷ []) (bindings_from 0 n)

abbrev pub detached : List ℕ → List Row
detached fs = state_rows (state.Detached ∷ []) (map Filter fs)

abbrev pub last_rows : List Row
last_rows = state_row state.Halted Miniport ∷ row.Phase (of.Stack phase.Halted) ∷ []

abbrev pub halted_rows : ℕ → List ℕ → List Row
halted_rows n fs = closing n ++ (detached fs ++ last_rows)

-- what is held once the drivers are shut down
abbrev pub shut_down : HeldView → List ℕ → HeldView
shut_down held fs = record (with_sides held (risen_each (sides_of held) fs)) { miniport = unported held.miniport; protocols = map closed held.protocols }

-- the numbers of filters leave room for another one
abbrev pub AreNumbers : List ℕ → Type 0
AreNumbers fs = All (λ f. f + 1 < 2 ^ 64) fs

-- the drivers may be shut down
pub record MayShut (held : HeldView) (fs : List ℕ) : Type 0 where
  pub miniport : held.miniport.kept ≡ []
  pub protocols : All KeepsNothing held.protocols
  pub filters : CanEachRise (sides_of held) fs

-- there is the room that a halt wants
pub record IsWide (bindings : ℕ) (t : TrayView) : Type 0 where
  pub turns : 1 ≤ t.room.turns
  pub rows : bindings * 2 + 18 ≤ t.room.rows

-- what a halt does to the book
pub record Halts (bindings : ℕ) (old new : BookView) : Type 0 where
  pub tray : new.tray ≡ each_written old.tray (halted_rows bindings old.tray.net.modules.order)
  pub held : new.held ≡ shut_down old.held old.tray.net.modules.order
