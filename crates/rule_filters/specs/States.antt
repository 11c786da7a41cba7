-- What the core of filters with programs shows.
use Rattle.std.specs.Prelude.{ℕ, min}
use Rattle.driver_views.specs.States.{FilterState}
use Rattle.frame_filters.specs.Filters.{filter_of}
use Rattle.rule_filters.specs.declared.parts.Programmed.{Programmed}

abbrev pub programmed_state : Programmed → FilterState
programmed_state p = filter_of p.kind p.setup p.kept.lists p.served p.refusals

-- for how many lists there is room to keep them, and for the frames of their clones
abbrev pub room_of : Programmed → ℕ
room_of p = min p.kept.room p.made.room
