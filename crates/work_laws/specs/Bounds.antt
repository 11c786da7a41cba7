-- How much each event may add to the work.
use Rattle.std.specs.Prelude.{◌≡◌, ℕ, ◌+◌, ◌*◌, ◌≤◌, Bool, true, false, List, length}
use Rattle.journal_types.specs.declared.Event.{Event}
use Rattle.journal_types.specs.declared.Event.TheVariants as event
use Rattle.journal_types.specs.declared.StackHead.{StackHead}
use Rattle.journal_types.specs.declared.Turn.{Turn}
use Rattle.std.specs.List.{list_any}
use Rattle.journal_types.specs.declared.Reply.TheVariants as reply
use Rattle.journal_types.specs.declared.Row.{Row}
use Rattle.journal_types.specs.declared.Row.TheVariants as row
use Rattle.stack_rules.specs.Tests.{is_miniport, phase_is_running}
use Rattle.stack_rules.specs.Net.{Net, after_turn, seen}
use Rattle.stack_rules.specs.Sound.{Next, Sound}
use Rattle.stack_rules.specs.Work.{bottom, echo_count, work}

-- a send goes down, and comes back done
abbrev pub send_room : Net → ℕ
send_room net = 3 * bottom net

-- a receive goes up, is sent by each echo binding, and comes back
abbrev pub receive_room : Net → ℕ
receive_room net = 3 * bottom net * (1 + echo_count net)

-- kinds of events
abbrev pub is_send : Event → Bool
is_send (event.Send binding cancel frames) = true
is_send (event.CrossPut stack message vlan frames) = true
is_send _ = false

abbrev pub is_indication : Event → Bool
is_indication (event.Indicate frames) = true
is_indication (event.Lend frames) = true
is_indication (event.CrossPutUp stack message frames) = true
is_indication _ = false

abbrev pub is_status : Event → Bool
is_status (event.Status name) = true
is_status _ = false

abbrev pub is_ask : Event → Bool
is_ask (event.Ask binding kind code value) = true
is_ask _ = false

abbrev pub is_pause : Event → Bool
is_pause event.BeginPause = true
is_pause event.PauseNext = true
is_pause _ = false

abbrev pub is_take : Event → Bool
is_take event.CrossTake = true
is_take _ = false

-- After every sound journal each turn with such an event adds at most so much.
abbrev pub EachAdds : (Event → Bool) → (Net → ℕ) → Type 0
EachAdds test room =
    (head : StackHead) (turns : List Turn) (turn : Turn) → Sound head turns → Next (seen head turns) turn → test turn.event ≡ true →
    work (after_turn (seen head turns) turn) ≤ work (seen head turns) + room (seen head turns)

-- the miniport issues a list: it indicates what it transmits
abbrev pub is_originated : Row → Bool
is_originated (row.Issue list owner config direction cancel origin frames) = is_miniport owner
is_originated _ = false

abbrev pub originates : List Row → Bool
originates rows = list_any is_originated rows

-- After every sound journal of a stack with a binding each turn with this event that is answered Moved, and in
-- which the miniport originates nothing, lowers the work.
abbrev pub EachLowers : Event → Type 0
EachLowers e =
    (head : StackHead) (turns : List Turn) (turn : Turn) → Sound head turns → 1 ≤ length head.bindings → Next (seen head turns) turn → turn.event ≡ e → turn.reply ≡ reply.Moved → originates turn.rows ≡ false →
    work (after_turn (seen head turns) turn) + 1 ≤ work (seen head turns)

-- While the stack doesn't run the miniport originates nothing, and each turn with this event that is answered Moved
-- lowers the work.
abbrev pub EachLowersWhileStill : Event → Type 0
EachLowersWhileStill e =
    (head : StackHead) (turns : List Turn) (turn : Turn) → Sound head turns → 1 ≤ length head.bindings → phase_is_running (seen head turns).phase ≡ false → Next (seen head turns) turn → turn.event ≡ e → turn.reply ≡ reply.Moved →
    work (after_turn (seen head turns) turn) + 1 ≤ work (seen head turns)

-- In a pump the miniport originates nothing, and each one that is answered Moved lowers the work.
abbrev pub EachPumpLowers : Type 0
EachPumpLowers =
    (head : StackHead) (turns : List Turn) (turn : Turn) → Sound head turns → 1 ≤ length head.bindings → Next (seen head turns) turn → turn.event ≡ event.Pump → turn.reply ≡ reply.Moved →
    work (after_turn (seen head turns) turn) + 1 ≤ work (seen head turns)

-- kinds of events
abbrev pub is_give_back : Event → Bool
is_give_back (event.GiveBack binding list) = true
is_give_back _ = false

abbrev pub is_cancelling : Event → Bool
is_cancelling (event.Cancel id) = true
is_cancelling _ = false

abbrev pub is_done : Event → Bool
is_done (event.CrossDone message status) = true
is_done _ = false

abbrev pub is_transmit : Event → Bool
is_transmit event.Transmit = true
is_transmit _ = false

abbrev pub is_drain : Event → Bool
is_drain event.Drain = true
is_drain _ = false

-- After every sound journal of a stack with a binding each turn with such an event adds at most so much.
abbrev pub EachBoundAdds : (Event → Bool) → (Net → ℕ) → Type 0
EachBoundAdds test room =
    (head : StackHead) (turns : List Turn) (turn : Turn) → Sound head turns → 1 ≤ length head.bindings → Next (seen head turns) turn → test turn.event ≡ true →
    work (after_turn (seen head turns) turn) ≤ work (seen head turns) + room (seen head turns)

-- After every sound journal of a stack with a binding each turn with such an event in which the miniport originates
-- nothing adds nothing.
abbrev pub EachQuietAddsNothing : (Event → Bool) → Type 0
EachQuietAddsNothing test =
    (head : StackHead) (turns : List Turn) (turn : Turn) → Sound head turns → 1 ≤ length head.bindings → Next (seen head turns) turn → test turn.event ≡ true → originates turn.rows ≡ false →
    work (after_turn (seen head turns) turn) ≤ work (seen head turns)
