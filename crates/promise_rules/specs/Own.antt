-- The opening and the ending of a stack, turn by turn, as the answers so far decide.
use Rattle.std.specs.Prelude.{ℕ, ◌+◌, List, [], ◌∷◌, Option, Some, None}
use Rattle.ndis_base.specs.declared.Phase.{Phase}
use Rattle.ndis_base.specs.declared.Phase.TheVariants as phase
use Rattle.journal_types.specs.declared.Event.{Event}
use Rattle.journal_types.specs.declared.Event.TheVariants as event
use Rattle.journal_types.specs.declared.Reply.{Reply}
use Rattle.journal_types.specs.declared.Reply.TheVariants as reply
use Rattle.script_types.specs.declared.FilterSetup.{FilterSetup}
use Rattle.promise_rules.specs.declared.Opening.{Opening}
use Rattle.promise_rules.specs.declared.Opening.TheVariants.{Initialising, Inserting, Opened}
use Rattle.promise_rules.specs.declared.Ending.{Ending}
use Rattle.promise_rules.specs.declared.Ending.TheVariants as ending

-- what the opening asks next, where these filters are left
abbrev pub opening_event : Opening → List FilterSetup → Option Event
opening_event Initialising filters = Some event.Initialize
opening_event (Inserting attached) (filter ∷ more) = Some (event.Insert filter.kind (attached + 1) filter.setup)
opening_event (Inserting attached) [] = Some event.RestartNext
opening_event Opened filters = None

-- where the initialisation is refused, the opening stops there
abbrev pub initialised : Reply → Opening
initialised (reply.Refused cause) = Opened
initialised _ = Inserting 0

abbrev pub inserted : ℕ → Reply → Opening
inserted attached (reply.Inserted f) = Inserting (attached + 1)
inserted attached _ = Inserting attached

abbrev pub started : ℕ → Reply → Opening
started attached reply.Running = Opened
started attached _ = Inserting attached

abbrev pub opening_after : Opening → List FilterSetup → Reply → Opening
opening_after Initialising filters told = initialised told
opening_after (Inserting attached) (filter ∷ more) told = inserted attached told
opening_after (Inserting attached) [] told = started attached told
opening_after Opened filters told = Opened

abbrev pub filters_after : Opening → List FilterSetup → List FilterSetup
filters_after (Inserting attached) (filter ∷ more) = more
filters_after (Inserting attached) [] = []
filters_after Initialising filters = filters
filters_after Opened filters = filters

-- how the ending of a stack in this phase begins; a halted stack has none
abbrev pub ending_of : Phase → Ending
ending_of phase.Halted = ending.Ended
ending_of phase.Pausing = ending.PausingFirst
ending_of phase.Paused = ending.Restarting
ending_of phase.Restarting = ending.Restarting
ending_of phase.Running = ending.Pumping

abbrev pub ending_event : Ending → Option Event
ending_event ending.PausingFirst = Some event.PauseNext
ending_event ending.DrainingFirst = Some event.Drain
ending_event ending.Restarting = Some event.RestartNext
ending_event ending.Pumping = Some event.Pump
ending_event ending.BeginningPause = Some event.BeginPause
ending_event ending.Pausing = Some event.PauseNext
ending_event ending.Draining = Some event.Drain
ending_event ending.PumpingLast = Some event.Pump
ending_event ending.Halting = Some event.Halt
ending_event ending.Ended = None

abbrev pub paused_first : Reply → Ending
paused_first reply.Paused = ending.Restarting
paused_first (reply.Waiting n) = ending.DrainingFirst
paused_first _ = ending.PausingFirst

abbrev pub paused_last : Reply → Ending
paused_last reply.Paused = ending.PumpingLast
paused_last (reply.Waiting n) = ending.Draining
paused_last _ = ending.Pausing

abbrev pub restarted : Reply → Ending
restarted reply.Running = ending.Pumping
restarted _ = ending.Restarting

-- goes on to the next where the answer is idle
abbrev pub idle_then : Ending → Ending → Reply → Ending
idle_then next again reply.Idle = next
idle_then next again _ = again

abbrev pub ending_after : Ending → Reply → Ending
ending_after ending.PausingFirst told = paused_first told
ending_after ending.DrainingFirst told = ending.PausingFirst
ending_after ending.Restarting told = restarted told
ending_after ending.Pumping told = idle_then ending.BeginningPause ending.Pumping told
ending_after ending.BeginningPause told = paused_last told
ending_after ending.Pausing told = paused_last told
ending_after ending.Draining told = ending.Pausing
ending_after ending.PumpingLast told = idle_then ending.Halting ending.PumpingLast told
ending_after ending.Halting told = ending.Ended
ending_after ending.Ended told = ending.Ended
