-- The entry of a filter that is attached.
use Rattle.std.specs.Prelude.{ℕ}
use Rattle.ndis_base.specs.declared.FilterKind.{FilterKind}
use Rattle.ndis_base.specs.declared.ModuleState.TheVariants as state
use Rattle.journal_types.specs.declared.Setup.{Setup}
use Rattle.stack_rules.specs.declared.Attached.{Attached}

-- a new filter is Detached
abbrev pub new_entry : ℕ → FilterKind → Setup → Attached
new_entry f kind setup = record { filter = f; kind = kind; setup = setup; state = state.Detached }
