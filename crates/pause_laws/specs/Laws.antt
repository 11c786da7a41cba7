-- What is promised of the state after every sound journal.
use Rattle.std.specs.Prelude.{◌≡◌, []}
use Rattle.ndis_base.specs.declared.ModuleId.{ModuleId}
use Rattle.ndis_base.specs.declared.ModuleState.TheVariants as state
use Rattle.stack_rules.specs.Net.{Net, lists}
use Rattle.stack_rules.specs.Places.{outstanding, position, state_of}

-- where a module is Paused, nothing is outstanding at its position
abbrev pub PausedHoldsNothing : Net → Type 0
PausedHoldsNothing net = (m : ModuleId) → state_of net m ≡ state.Paused → outstanding net (position net.modules.order m) ≡ 0

-- no list is live
abbrev pub NothingIsLive : Net → Type 0
NothingIsLive net = lists net.things ≡ []
