-- The positions of a stack that restarts (WDK, "Restarting a Driver Stack").
use Rattle.std.specs.Prelude.{◌≡◌, ℕ, ◌+◌, ◌*◌, ◌<◌, ◌≤◌, ◌^◌, Bool, true, List, [], ◌∷◌, ◌++◌, Some, if◌then◌else◌, length, reverse, slice_index_or}
use Rattle.ndis_base.specs.declared.ModuleId.{ModuleId}
use Rattle.ndis_base.specs.declared.ModuleId.TheVariants.{Miniport, Filter}
use Rattle.ndis_base.specs.declared.ModuleState.TheVariants as state
use Rattle.ndis_base.specs.declared.Phase.{Phase}
use Rattle.ndis_base.specs.declared.Phase.TheVariants as phase
use Rattle.journal_types.specs.declared.PhaseOf.TheVariants as of
use Rattle.journal_types.specs.declared.Row.{Row}
use Rattle.journal_types.specs.declared.Row.TheVariants as row
use Rattle.journal_types.specs.declared.Reply.{Reply}
use Rattle.journal_types.specs.declared.Reply.TheVariants as reply
use Rattle.stack_rules.specs.Net.{Net}
use Rattle.stack_rules.specs.Pauses.{state_rows, floors, running_floors, is_top}
use Rattle.stack_rules.specs.Rewires.{is_in}
use Rattle.book_lemmas.specs.Views.{BookView, seat_of}
use Rattle.phase_work.specs.Written.{bindings_from}
use Rattle.setup_work.specs.declared.floors.Floor.{Floor}
use Rattle.setup_work.specs.declared.floors.Floor.TheVariants as floor

-- the modules of a position
abbrev pub modules_of : Floor → List ModuleId
modules_of floor.Port = Miniport ∷ []
modules_of (floor.Middle f) = Filter f ∷ []
modules_of (floor.Top many) = bindings_from 0 many

-- a filter's position is of the order
abbrev pub IsOf : List ℕ → Floor → Type 0
IsOf order (floor.Middle f) = is_in f order ≡ true
IsOf order _ = Unit {0}

-- a filter's driver stands at its place
pub record Sits (seats : List (ℕ × ℕ)) (drivers f : ℕ) : Type 0 where
  pub place : ℕ
  pub seat : seat_of seats f ≡ Some place
  pub within : place < drivers

abbrev pub SitsOn : List (ℕ × ℕ) → ℕ → Floor → Type 0
SitsOn seats drivers (floor.Middle f) = Sits seats drivers f
SitsOn seats drivers _ = Unit {0}

-- the phase of the stack, where it is told
abbrev pub phase_when : Bool → Phase → List Row
phase_when told p = if told then row.Phase (of.Stack p) ∷ [] else []

-- a position restarts and runs
abbrev pub floor_rows : Floor → List Row
floor_rows place = state_rows (state.Restarting ∷ state.Running ∷ []) (modules_of place)

-- how many rows that takes
abbrev pub floor_room : Floor → ℕ
floor_room floor.Port = 2
floor_room (floor.Middle f) = 2
floor_room (floor.Top many) = many * 2

-- a filter's number has one after it
abbrev pub IsNumbered : Floor → Type 0
IsNumbered (floor.Middle f) = f + 1 < 2 ^ 64
IsNumbered _ = Unit {0}

-- the rows of a restart's step: whether the stack begins to restart, the position, and whether it is the top
abbrev pub step_rows : Bool → Floor → Bool → List Row
step_rows begins place top = phase_when begins phase.Restarting ++ (floor_rows place ++ phase_when top phase.Running)

-- the modules of the lowest position that doesn't run
abbrev pub next_floor : Net → List ModuleId
next_floor net = slice_index_or (reverse (floors net.modules)) (running_floors net) []

-- what a step of a restart writes and answers, where its phase is told or not
abbrev pub next_rows : Net → Bool → List Row
next_rows net begins =
    phase_when begins phase.Restarting
    ++ (state_rows (state.Restarting ∷ state.Running ∷ []) (next_floor net) ++ phase_when (is_top net (running_floors net)) phase.Running)

abbrev pub next_reply : Net → Reply
next_reply net = if is_top net (running_floors net) then reply.Running else reply.Next

-- a book of so many bindings has a position left, with its drivers, and room for its rows
pub record CanRestart (v : BookView) (many : ℕ) : Type 0 where
  pub left : running_floors v.tray.net < length (floors v.tray.net.modules)
  pub bindings : many ≡ length v.tray.net.modules.bindings
  pub sits : (f : ℕ) → is_in f v.tray.net.modules.order ≡ true → Sits v.held.seats (length v.held.filters) f
  pub numbers : (f : ℕ) → is_in f v.tray.net.modules.order ≡ true → f + 1 < 2 ^ 64
  pub room : many * 2 + 4 ≤ v.tray.room.rows
