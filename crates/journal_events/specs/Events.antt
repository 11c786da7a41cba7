-- The words of events and of replies.
use Rattle.std.specs.Prelude.{ℕ, List, [], ◌∷◌, codes, decimal}
use Rattle.ndis_base.specs.Names.{phase_text, list_status_text, oid_kind_text, status_name_text, filter_kind_text}
use Rattle.ndis_base.specs.declared.Who.{Who}
use Rattle.ndis_base.specs.declared.Who.TheVariants as who
use Rattle.journal_types.specs.declared.Setup.{Setup}
use Rattle.journal_types.specs.declared.Event.{Event}
use Rattle.journal_types.specs.declared.Event.TheVariants as event
use Rattle.journal_types.specs.declared.Reply.{Reply}
use Rattle.journal_types.specs.declared.Reply.TheVariants as reply
use Rattle.journal_types.specs.declared.Refusal.{Refusal}
use Rattle.journal_types.specs.declared.Refusal.TheVariants as refusal
use Rattle.journal_words.specs.Words.{filter_text, binding_text, frames_text, value_text, code_text, optional_text, handlers_text}
use Rattle.journal_words.specs.Programs.{program_text}

-- who made a turn: the run itself, or a lane by a call of the script or by the tail of one
abbrev pub who_words : Who → List (List ℕ)
who_words who.Own = codes "own" ∷ []
who_words (who.Call lane) = codes "call" ∷ decimal lane.0 ∷ []
who_words (who.Help lane) = codes "help" ∷ decimal lane.0 ∷ []

-- handlers, pool, and the programs for sends and receives
abbrev pub setup_words : Setup → List (List ℕ)
setup_words setup = handlers_text setup.handlers ∷ decimal setup.pool ∷ program_text setup.send ∷ program_text setup.receive ∷ []

abbrev pub event_words : Event → List (List ℕ)
event_words event.Initialize = codes "initialize" ∷ []
event_words (event.Insert kind position setup) = codes "insert" ∷ filter_kind_text kind ∷ decimal position ∷ setup_words setup
event_words (event.Remove filter) = codes "remove" ∷ filter_text filter ∷ []
event_words (event.Replace filter kind setup) = codes "replace" ∷ filter_text filter ∷ filter_kind_text kind ∷ setup_words setup
event_words (event.Send binding cancel frames) = codes "send" ∷ binding_text binding ∷ optional_text cancel ∷ frames_text frames ∷ []
event_words (event.Indicate frames) = codes "indicate" ∷ frames_text frames ∷ []
event_words (event.Lend frames) = codes "lend" ∷ frames_text frames ∷ []
event_words (event.GiveBack binding list) = codes "giveback" ∷ binding_text binding ∷ decimal list.0 ∷ []
event_words (event.Cancel id) = codes "cancel" ∷ decimal id ∷ []
event_words (event.Ask binding kind code value) = codes "ask" ∷ binding_text binding ∷ oid_kind_text kind ∷ code_text code ∷ value_text value ∷ []
event_words (event.Status name) = codes "status" ∷ status_name_text name ∷ []
event_words event.Transmit = codes "transmit" ∷ []
event_words event.Pump = codes "pump" ∷ []
event_words event.Drain = codes "drain" ∷ []
event_words event.BeginPause = codes "begin_pause" ∷ []
event_words event.PauseNext = codes "pause_next" ∷ []
event_words event.RestartNext = codes "restart_next" ∷ []
event_words event.Halt = codes "halt" ∷ []
event_words event.CrossTake = codes "cross_take" ∷ []
event_words (event.CrossPut stack message vlan frames) = codes "cross_put" ∷ decimal stack ∷ decimal message.0 ∷ decimal vlan ∷ frames_text frames ∷ []
event_words (event.CrossDone message status) = codes "cross_done" ∷ decimal message.0 ∷ list_status_text status ∷ []
event_words (event.CrossTakeUp binding vlan) = codes "cross_take_up" ∷ binding_text binding ∷ decimal vlan ∷ []
event_words (event.CrossPutUp stack message frames) = codes "cross_put_up" ∷ decimal stack ∷ decimal message.0 ∷ frames_text frames ∷ []

abbrev pub refusal_words : Refusal → List (List ℕ)
refusal_words (refusal.WrongPhase phase) = codes "WrongPhase" ∷ phase_text phase ∷ []
refusal_words refusal.InitRefused = codes "InitRefused" ∷ []
refusal_words refusal.NotPaused = codes "NotPaused" ∷ []
refusal_words (refusal.Busy number) = codes "Busy" ∷ decimal number ∷ []
refusal_words refusal.Full = codes "Full" ∷ []
refusal_words refusal.BadPosition = codes "BadPosition" ∷ []
refusal_words refusal.ShelfEmpty = codes "ShelfEmpty" ∷ []
refusal_words refusal.AttachRefused = codes "AttachRefused" ∷ []
refusal_words refusal.NoModule = codes "NoModule" ∷ []
refusal_words (refusal.Paused phase) = codes "Paused" ∷ phase_text phase ∷ []
refusal_words refusal.NoList = codes "NoList" ∷ []
refusal_words refusal.NotRunning = codes "NotRunning" ∷ []
refusal_words refusal.NotHeld = codes "NotHeld" ∷ []
refusal_words refusal.Unbound = codes "Unbound" ∷ []
refusal_words refusal.HaltedNow = codes "HaltedNow" ∷ []
refusal_words refusal.TooLong = codes "TooLong" ∷ []
refusal_words refusal.NotTaken = codes "NotTaken" ∷ []

abbrev pub reply_words : Reply → List (List ℕ)
reply_words reply.Ok = codes "ok" ∷ []
reply_words (reply.Inserted filter) = codes "inserted" ∷ filter_text filter ∷ []
reply_words reply.Removed = codes "removed" ∷ []
reply_words (reply.Replaced filter) = codes "replaced" ∷ filter_text filter ∷ []
reply_words (reply.Sent list) = codes "sent" ∷ decimal list.0 ∷ []
reply_words (reply.Indicated list) = codes "indicated" ∷ decimal list.0 ∷ []
reply_words (reply.Lent list) = codes "lent" ∷ decimal list.0 ∷ []
reply_words (reply.Cancelled number) = codes "cancelled" ∷ decimal number ∷ []
reply_words (reply.Asked request) = codes "asked" ∷ decimal request.0 ∷ []
reply_words (reply.Wired list) = codes "wired" ∷ decimal list.0 ∷ []
reply_words reply.Moved = codes "moved" ∷ []
reply_words reply.Idle = codes "idle" ∷ []
reply_words reply.Next = codes "next" ∷ []
reply_words reply.Paused = codes "paused" ∷ []
reply_words reply.Running = codes "running" ∷ []
reply_words (reply.Waiting number) = codes "waiting" ∷ decimal number ∷ []
reply_words reply.Halted = codes "halted" ∷ []
reply_words (reply.Taken message frames) = codes "taken" ∷ decimal message.0 ∷ []
reply_words reply.Nothing = codes "nothing" ∷ []
reply_words (reply.Crossed list) = codes "crossed" ∷ decimal list.0 ∷ []
reply_words (reply.Refused reason) = codes "refused" ∷ refusal_words reason
