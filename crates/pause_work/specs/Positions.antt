-- The positions of a stack, and the rows by which a position is Paused.
use Rattle.std.specs.Prelude.{◌≡◌, ◌<◌, ◌≤◌, ℕ, ◌+◌, ◌^◌, List, [], ◌∷◌, ◌++◌, Option, Some, None, length, slice_index_or}
use Rattle.ndis_base.specs.declared.ModuleId.{ModuleId}
use Rattle.ndis_base.specs.declared.ModuleId.TheVariants as id
use Rattle.ndis_base.specs.declared.ModuleState.TheVariants as state
use Rattle.ndis_base.specs.declared.Phase.TheVariants as phase
use Rattle.journal_types.specs.declared.PhaseOf.TheVariants as of
use Rattle.journal_types.specs.declared.Reply.{Reply}
use Rattle.journal_types.specs.declared.Reply.TheVariants as reply
use Rattle.journal_types.specs.declared.Row.{Row}
use Rattle.journal_types.specs.declared.Row.TheVariants as row
use Rattle.stack_rules.specs.Net.{Modules}
use Rattle.stack_rules.specs.Pauses.{floors, state_rows}
use Rattle.phase_work.specs.Written.{bindings_from}
use Rattle.pause_work.specs.declared.floor.Floor.{Floor}
use Rattle.pause_work.specs.declared.floor.Floor.TheVariants as floor

-- the modules of a position
abbrev pub modules_of : Floor → List ModuleId
modules_of (floor.Bindings many) = bindings_from 0 many
modules_of (floor.Filter f) = id.Filter f ∷ []
modules_of floor.Miniport = id.Miniport ∷ []

-- how many they are
abbrev pub width : Floor → ℕ
width (floor.Bindings many) = many
width (floor.Filter f) = 1
width floor.Miniport = 1

-- a filter's number can be followed by another
abbrev pub IsNumbered : Floor → Type 0
IsNumbered (floor.Bindings many) = Unit {0}
IsNumbered (floor.Filter f) = f + 1 < 2 ^ 64
IsNumbered floor.Miniport = Unit {0}

-- this is the position of that number, from the top
pub record IsAt (ms : Modules) (i : ℕ) (f : Floor) : Type 0 where
  pub within : i < length (floors ms)
  pub are : modules_of f ≡ slice_index_or (floors ms) i []
  pub numbered : IsNumbered f

-- what is found at a number: the position, or nothing from the number of all positions on
abbrev pub IsFound : Modules → ℕ → Option Floor → Type 0
IsFound ms i None = length (floors ms) ≤ i
IsFound ms i (Some f) = IsAt ms i f

abbrev pub next_width : Option Floor → ℕ
next_width None = 1
next_width (Some f) = width f

abbrev pub IsNextNumbered : Option Floor → Type 0
IsNextNumbered None = Unit {0}
IsNextNumbered (Some f) = IsNumbered f

-- the next position is Pausing; after the last the stack is Paused
abbrev pub next_rows : Option Floor → List Row
next_rows None = row.Phase (of.Stack phase.Paused) ∷ []
next_rows (Some f) = state_rows (state.Pausing ∷ []) (modules_of f)

abbrev pub next_reply : Option Floor → Reply
next_reply None = reply.Paused
next_reply (Some f) = reply.Next

-- the position is Paused before
abbrev pub rows_of : Floor → Option Floor → List Row
rows_of f next = state_rows (state.Paused ∷ []) (modules_of f) ++ next_rows next
