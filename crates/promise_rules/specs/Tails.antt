-- What follows a call: its tail, turn by turn, as the answers so far decide.
use Rattle.std.specs.Prelude.{ℕ, Bool, true, false, List, Option, Some, None, if◌then◌else◌}
use Rattle.ndis_base.specs.declared.CrossNo.{CrossNo}
use Rattle.ndis_base.specs.declared.ListStatus.{ListStatus}
use Rattle.ndis_base.specs.declared.ListStatus.TheVariants as status
use Rattle.journal_types.specs.declared.Way.TheVariants as way
use Rattle.journal_types.specs.declared.Event.{Event}
use Rattle.journal_types.specs.declared.Event.TheVariants as event
use Rattle.journal_types.specs.declared.Reply.{Reply}
use Rattle.journal_types.specs.declared.Reply.TheVariants as reply
use Rattle.journal_types.specs.declared.Refusal.TheVariants as refusal
use Rattle.script_types.specs.declared.CallKind.{CallKind}
use Rattle.script_types.specs.declared.CallKind.TheVariants as ask
use Rattle.promise_rules.specs.declared.Link.{Link}
use Rattle.promise_rules.specs.declared.Tail.{Tail}
use Rattle.promise_rules.specs.declared.Tail.TheVariants.{Ended, Pumping, PumpingBoth, Pausing, Draining, Restarting, Putting, EndingMessage, PuttingUp}

-- the stack that is asked next, and what it is asked
abbrev pub next_stack : Tail → Option ℕ
next_stack Ended = None
next_stack (Pumping s) = Some s
next_stack (PumpingBoth s other) = Some s
next_stack (Pausing s) = Some s
next_stack (Draining s) = Some s
next_stack (Restarting s) = Some s
next_stack (Putting upper lower message vlan frames pumps) = Some lower
next_stack (EndingMessage upper lower message status pumps) = Some upper
next_stack (PuttingUp upper lower message frames pumps) = Some upper

abbrev pub next_event : Tail → Option Event
next_event Ended = None
next_event (Pumping s) = Some event.Pump
next_event (PumpingBoth s other) = Some event.Pump
next_event (Pausing s) = Some event.PauseNext
next_event (Draining s) = Some event.Drain
next_event (Restarting s) = Some event.RestartNext
next_event (Putting upper lower message vlan frames pumps) = Some (event.CrossPut upper message vlan frames)
next_event (EndingMessage upper lower message status pumps) = Some (event.CrossDone message status)
next_event (PuttingUp upper lower message frames pumps) = Some (event.CrossPutUp lower message frames)

-- pumps until one is idle or refused
abbrev pub pumped : ℕ → Reply → Tail
pumped s reply.Idle = Ended
pumped s (reply.Refused cause) = Ended
pumped s _ = Pumping s

abbrev pub pumped_both : ℕ → ℕ → Reply → Tail
pumped_both s other reply.Idle = Pumping other
pumped_both s other (reply.Refused cause) = Ended
pumped_both s other _ = PumpingBoth s other

-- after an answer to a pause: it is paused, or waits and is drained, or goes on
abbrev pub paused : ℕ → Reply → Tail
paused s reply.Paused = Ended
paused s (reply.Waiting n) = Draining s
paused s (reply.Refused cause) = Ended
paused s _ = Pausing s

-- a tail goes on so where the answer isn't a refusal
abbrev pub unless_refused : Tail → Reply → Tail
unless_refused tail (reply.Refused cause) = Ended
unless_refused tail _ = tail

abbrev pub restarted : ℕ → Reply → Tail
restarted s reply.Running = Ended
restarted s (reply.Refused cause) = Ended
restarted s _ = Restarting s

-- the list that was taken down is done with what became of its message
abbrev pub status_of_put : Reply → ListStatus
status_of_put (reply.Refused (refusal.Paused phase)) = status.Paused
status_of_put (reply.Refused refusal.TooLong) = status.Dropped
status_of_put (reply.Refused cause) = status.Resources
status_of_put _ = status.Success

abbrev pub pumping_if : Bool → Tail → Tail
pumping_if pumps tail = if pumps then tail else Ended

-- a message that was refused ends no tail
abbrev pub tail_after : Tail → Reply → Tail
tail_after Ended told = Ended
tail_after (Pumping s) told = pumped s told
tail_after (PumpingBoth s other) told = pumped_both s other told
tail_after (Pausing s) told = paused s told
tail_after (Draining s) told = unless_refused (Pausing s) told
tail_after (Restarting s) told = restarted s told
tail_after (Putting upper lower message vlan frames pumps) told = EndingMessage upper lower message (status_of_put told) pumps
tail_after (EndingMessage upper lower message status pumps) told = unless_refused (pumping_if pumps (PumpingBoth upper lower)) told
tail_after (PuttingUp upper lower message frames pumps) told = pumping_if pumps (Pumping upper)

-- the tail of a relay that took a message: the message's own turns, and pumps where the call asks for them
abbrev pub crossing_tail : Link → ℕ → Bool → Reply → Tail
crossing_tail link upper pumps (reply.Taken message frames) = Putting upper link.lower message link.vlan frames pumps
crossing_tail link upper pumps _ = Ended

abbrev pub crossing_up_tail : Link → ℕ → Bool → Reply → Tail
crossing_up_tail link upper pumps (reply.Taken message frames) = PuttingUp upper link.lower message frames pumps
crossing_up_tail link upper pumps _ = Ended

-- the tail of a call that was answered so: none where it is refused, and but for a relay none where the call
-- asks for none
abbrev pub tail_of : Link → ℕ → Bool → CallKind → Reply → Tail
tail_of link s pumps (ask.Relay way.Down) told = crossing_tail link s pumps told
tail_of link s pumps (ask.Relay way.Up) told = crossing_up_tail link s pumps told
tail_of link s pumps ask.BeginPause told = pumping_if pumps (paused s told)
tail_of link s pumps ask.PauseNext told = pumping_if pumps (paused s told)
tail_of link s pumps ask.RestartNext told = pumping_if pumps (restarted s told)
tail_of link s pumps (ask.Insert position kind setup) told = Ended
tail_of link s pumps (ask.Remove filter) told = Ended
tail_of link s pumps (ask.Replace filter kind setup) told = Ended
tail_of link s pumps _ told = pumping_if pumps (unless_refused (Pumping s) told)

-- the stack that a call asks: its own, but that a relay upwards takes from the stack below
abbrev pub stack_asked : Link → ℕ → CallKind → ℕ
stack_asked link s (ask.Relay way.Up) = link.lower
stack_asked link s _ = s

-- what a call asks
abbrev pub event_asked : Link → CallKind → Event
event_asked link (ask.Send binding cancel frames) = event.Send binding cancel frames
event_asked link (ask.Indicate frames) = event.Indicate frames
event_asked link (ask.Lend frames) = event.Lend frames
event_asked link (ask.GiveBack binding list) = event.GiveBack binding list
event_asked link (ask.Cancel id) = event.Cancel id
event_asked link (ask.Ask binding kind code value) = event.Ask binding kind code value
event_asked link (ask.Status name) = event.Status name
event_asked link ask.Transmit = event.Transmit
event_asked link ask.Pump = event.Pump
event_asked link ask.Drain = event.Drain
event_asked link ask.BeginPause = event.BeginPause
event_asked link ask.PauseNext = event.PauseNext
event_asked link ask.RestartNext = event.RestartNext
event_asked link (ask.Insert position kind setup) = event.Insert kind position setup
event_asked link (ask.Remove filter) = event.Remove filter
event_asked link (ask.Replace filter kind setup) = event.Replace filter kind setup
event_asked link (ask.Relay way.Down) = event.CrossTake
event_asked link (ask.Relay way.Up) = event.CrossTakeUp link.binding link.vlan
