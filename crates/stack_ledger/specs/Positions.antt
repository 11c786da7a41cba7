-- How many positions are in a state.
use Rattle.std.specs.Prelude.{ℕ, ◌+◌, Bool, List, [], ◌∷◌, if◌then◌else◌, reverse}
use Rattle.std.specs.List.{list_all}
use Rattle.ndis_base.specs.declared.ModuleState.{ModuleState}
use Rattle.stack_rules.specs.Tests.{is_paused, is_running}
use Rattle.stack_rules.specs.Net.{Modules, attached}
use Rattle.stack_rules.specs.Places.{state_in}
use Rattle.stack_ledger.specs.declared.floors.Wanted.{Wanted}
use Rattle.stack_ledger.specs.declared.floors.Wanted.TheVariants as wanted

-- the state that is asked for
abbrev pub is_in : Wanted → ModuleState → Bool
is_in wanted.Paused s = is_paused s
is_in wanted.Running s = is_running s

-- how many of these filters at the front pass a test, and with them the last position where all do and it
-- passes too
abbrev pub count_filters : (ModuleState → Bool) → Modules → Bool → List ℕ → ℕ
count_filters test ms last [] = if last then 1 else 0
count_filters test ms last (f ∷ fs) = if test (state_in (attached f ms.filters)) then count_filters test ms last fs + 1 else 0

-- how many positions from the top are Paused
abbrev pub paused_from_top : Modules → ℕ
paused_from_top ms = if list_all (is_in wanted.Paused) ms.bindings then count_filters (is_in wanted.Paused) ms (is_paused ms.miniport) ms.order + 1 else 0

-- how many positions from the bottom run
abbrev pub running_from_below : Modules → ℕ
running_from_below ms =
    if is_running ms.miniport then count_filters (is_in wanted.Running) ms (list_all (is_in wanted.Running) ms.bindings) (reverse ms.order) + 1 else 0
