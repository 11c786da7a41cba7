-- What a classify filter shows to a stack.
use Rattle.std.specs.Prelude.{ℕ, [], Option}
use Rattle.ndis_base.specs.declared.FilterKind.TheVariants.{Classify}
use Rattle.journal_types.specs.declared.Setup.{Setup}
use Rattle.driver_views.specs.declared.Served.{Served}
use Rattle.driver_views.specs.States.{FilterState}
use Rattle.frame_filters.specs.Filters.{filter_of}

-- it keeps no list
abbrev pub state_of : Option Setup → Served → ℕ → FilterState
state_of setup served refusals = filter_of Classify setup [] served refusals
