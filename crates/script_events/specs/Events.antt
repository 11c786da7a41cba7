-- The event that a script's call asks of its stack.
use Rattle.std.specs.Prelude.{Option, Some, None}
use Rattle.journal_types.specs.declared.Event.{Event}
use Rattle.journal_types.specs.declared.Event.TheVariants as event
use Rattle.script_types.specs.declared.CallKind.{CallKind}
use Rattle.script_types.specs.declared.CallKind.TheVariants as ask

-- a relay asks no single event: it takes from one stack and puts into another
abbrev pub event_of : CallKind → Option Event
event_of (ask.Send binding cancel frames) = Some (event.Send binding cancel frames)
event_of (ask.Indicate frames) = Some (event.Indicate frames)
event_of (ask.Lend frames) = Some (event.Lend frames)
event_of (ask.GiveBack binding list) = Some (event.GiveBack binding list)
event_of (ask.Cancel id) = Some (event.Cancel id)
event_of (ask.Ask binding kind code value) = Some (event.Ask binding kind code value)
event_of (ask.Status name) = Some (event.Status name)
event_of ask.Transmit = Some event.Transmit
event_of ask.Pump = Some event.Pump
event_of ask.Drain = Some event.Drain
event_of ask.BeginPause = Some event.BeginPause
event_of ask.PauseNext = Some event.PauseNext
event_of ask.RestartNext = Some event.RestartNext
event_of (ask.Insert position kind setup) = Some (event.Insert kind position setup)
event_of (ask.Remove filter) = Some (event.Remove filter)
event_of (ask.Replace filter kind setup) = Some (event.Replace filter kind setup)
event_of (ask.Relay way) = None
