-- What is promised of the states of the modules after every sound journal.
use Rattle.std.specs.Prelude.{◌≡◌, ◌<◌, ◌↔◌, true, length, replicate}
use Rattle.ndis_base.specs.declared.ModuleId.{ModuleId}
use Rattle.ndis_base.specs.declared.ModuleId.TheVariants.{Miniport, Filter, Binding}
use Rattle.ndis_base.specs.declared.ModuleState.{ModuleState}
use Rattle.ndis_base.specs.declared.ModuleState.TheVariants as state
use Rattle.ndis_base.specs.declared.Phase.TheVariants as phase
use Rattle.stack_rules.specs.Net.{Net}
use Rattle.stack_rules.specs.Places.{position, state_of}
use Rattle.stack_rules.specs.Rewires.{is_in}
use Rattle.state_laws.specs.Shape.{StatesAre}

-- all modules have a state
abbrev pub AllAre : ModuleState → Net → Type 0
AllAre s net = StatesAre (length net.head.bindings) net.modules (λ p. s)

-- the module is of the stack's configuration
abbrev pub IsThere : Net → ModuleId → Type 0
IsThere net Miniport = Unit {0}
IsThere net (Filter f) = is_in f net.modules.order ≡ true
IsThere net (Binding b) = b < length net.modules.bindings

-- what is above a module that is Paused is Paused too
abbrev pub PausedFromTheTop : Net → Type 0
PausedFromTheTop net = (m above : ModuleId) → state_of net m ≡ state.Paused → IsThere net above → position net.modules.order above < position net.modules.order m → state_of net above ≡ state.Paused

-- the stack is Running exactly while its bindings are
abbrev pub RunsAsItsBindings : Net → Type 0
RunsAsItsBindings net = 0 < length net.head.bindings → (net.phase ≡ phase.Running) ↔ (net.modules.bindings ≡ replicate (length net.head.bindings) state.Running)
