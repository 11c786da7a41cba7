-- What an adapter shows.
use Rattle.driver_views.specs.States.{MiniportState}
use Rattle.ring_adapters.specs.declared.parts.Core.{Core}
use Rattle.ring_adapters.specs.Rings.{adapter_of}

abbrev pub core_state : Core → MiniportState
core_state c = adapter_of c.kind c.port c.ring c.served c.log c.refusals
