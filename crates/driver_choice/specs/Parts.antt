-- What contracts see of the drivers that are handed in.
use Rattle.std.specs.Prelude.{List}
use Rattle.driver_views.specs.States.{MiniportState, ProtocolState}

-- the miniports and the protocols, in the order of the caller's
pub record PartsView : Type 0 where
  pub miniports : List MiniportState
  pub protocols : List ProtocolState
