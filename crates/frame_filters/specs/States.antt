-- What the cores of filters show.
use Rattle.std.specs.Prelude.{[]}
use Rattle.driver_views.specs.States.{FilterState}
use Rattle.frame_filters.specs.declared.parts.Plain.{Plain}
use Rattle.frame_filters.specs.Filters.{filter_of}

-- a filter without rules that keeps no list
abbrev pub plain_state : Plain → FilterState
plain_state p = filter_of p.kind p.setup [] p.served p.refusals
