-- What the filter shows to a stack.
use Rattle.std.specs.Prelude.{[]}
use Rattle.ndis_base.specs.declared.FilterKind.TheVariants.{Rule}
use Rattle.driver_views.specs.States.{FilterState}
use Rattle.frame_filters.specs.Filters.{filter_of}
use Rattle.own_filter.specs.declared.parts.EtherTypeFilter.{EtherTypeFilter}

-- it keeps no list
abbrev pub state_of : EtherTypeFilter → FilterState
state_of f = filter_of Rule f.setup [] f.served f.refusals
