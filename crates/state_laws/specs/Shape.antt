-- The states of the modules in each phase: from the top first the positions that are Paused, then those that
-- are Pausing, then those that are Running.
use Rattle.std.specs.Prelude.{ℕ, ◌≡◌, ◌+◌, ◌<◌, ◌≤◌, true, false, List, [], ◌∷◌, length, replicate, nat_lt, if◌then◌else◌}
use Rattle.ndis_base.specs.declared.ModuleState.{ModuleState}
use Rattle.ndis_base.specs.declared.ModuleState.TheVariants as state
use Rattle.ndis_base.specs.declared.Phase.{Phase}
use Rattle.ndis_base.specs.declared.Phase.TheVariants as phase
use Rattle.stack_rules.specs.declared.Attached.{Attached}
use Rattle.stack_rules.specs.Net.{Net, Modules, attached}
use Rattle.stack_rules.specs.Places.{state_in}
use Rattle.stack_rules.specs.Rewires.{is_in}

-- the state of a position: above the first number it is Paused, from the second one on it is Running
abbrev pub state_at : ℕ → ℕ → ℕ → ModuleState
state_at paused running p = if nat_lt p paused then state.Paused else (if nat_lt p running then state.Pausing else state.Running)

-- the filters of an order, whose first one is at position p, are attached and have these states
abbrev pub FiltersAre : (ℕ → ModuleState) → List Attached → ℕ → List ℕ → Type 0
FiltersAre states entries p [] = Unit {0}
FiltersAre states entries p (f ∷ fs) = (state_in (attached f entries) ≡ states p) × FiltersAre states entries (p + 1) fs

-- the modules have these states by their positions
pub record StatesAre (many : ℕ) (ms : Modules) (states : ℕ → ModuleState) : Type 0 where
  pub bindings : ms.bindings ≡ replicate many (states 0)
  pub filters : FiltersAre states ms.filters 1 ms.order
  pub miniport : ms.miniport ≡ states (length ms.order + 1)

-- no filter is twice in the order
abbrev pub IsDistinct : List ℕ → Type 0
IsDistinct [] = Unit {0}
IsDistinct (f ∷ fs) = (is_in f fs ≡ false) × IsDistinct fs

abbrev pub AllBelow : ℕ → List ℕ → Type 0
AllBelow n [] = Unit {0}
AllBelow n (f ∷ fs) = (f < n) × AllBelow n fs

-- each attached filter is in the order
abbrev pub AllIn : List ℕ → List Attached → Type 0
AllIn order [] = Unit {0}
AllIn order (a ∷ entries) = (is_in a.filter order ≡ true) × AllIn order entries

-- the order has each filter once, and no number from the next one on; what is attached is in it
pub record IsWired (next : ℕ) (ms : Modules) : Type 0 where
  pub distinct : IsDistinct ms.order
  pub below : AllBelow next ms.order
  pub within : AllIn ms.order ms.filters

-- nothing runs
pub record IsHalted (many : ℕ) (ms : Modules) : Type 0 where
  pub distinct : IsDistinct ms.order
  pub bindings : ms.bindings ≡ replicate many state.Unbound
  pub filters : ms.filters ≡ []
  pub miniport : ms.miniport ≡ state.Halted

-- the positions above one are Paused, it is Pausing, those below it run
pub record IsPausing (many front : ℕ) (ms : Modules) : Type 0 where
  pub some : 0 < many
  pub within : front ≤ length ms.order + 1
  pub states : StatesAre many ms (state_at front (front + 1))

-- the positions from one on run, those above it are Paused
pub record IsRestarting (many front : ℕ) (ms : Modules) : Type 0 where
  pub some : 0 < front
  pub within : front ≤ length ms.order + 1
  pub states : StatesAre many ms (state_at front front)

pub record IsRunning (many : ℕ) (ms : Modules) : Type 0 where
  pub some : 0 < many
  pub states : StatesAre many ms (state_at 0 0)

-- the states fit the phase, and as many positions from the top are Paused; before the stack is initialised
-- the number is that of all positions
abbrev pub Fits : ℕ → ℕ → Modules → ℕ → Phase → Type 0
Fits many next ms front phase.Halted = IsHalted many ms × (front ≡ length ms.order + 2)
Fits many next ms front phase.Paused = IsWired next ms × (StatesAre many ms (λ p. state.Paused) × (front ≡ length ms.order + 2))
Fits many next ms front phase.Restarting = IsWired next ms × IsRestarting many front ms
Fits many next ms front phase.Running = IsWired next ms × (IsRunning many ms × (front ≡ 0))
Fits many next ms front phase.Pausing = IsWired next ms × IsPausing many front ms

pub record IsShaped (net : Net) : Type 0 where
  pub front : ℕ
  pub fits : Fits (length net.head.bindings) net.next.filter net.modules front net.phase
