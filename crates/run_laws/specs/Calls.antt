-- What the calls of a run leave as it is.
use Rattle.std.specs.Prelude.{◌≡◌, Bool, true, false}
use Rattle.journal_types.specs.declared.Event.{Event}
use Rattle.journal_types.specs.declared.Event.TheVariants as event
use Rattle.journal_types.specs.declared.Turn.{Turn}
use Rattle.stack_rules.specs.Net.{Net, after_turn}

-- the events of calls, of pumps and drains, and of messages between stacks
abbrev pub is_call : Event → Bool
is_call (event.Send binding cancel frames) = true
is_call event.Transmit = true
is_call (event.Indicate frames) = true
is_call (event.Lend frames) = true
is_call (event.GiveBack binding list) = true
is_call (event.Cancel id) = true
is_call event.Pump = true
is_call event.Drain = true
is_call (event.Status name) = true
is_call (event.Ask binding kind code value) = true
is_call event.CrossTake = true
is_call (event.CrossPut stack message vlan frames) = true
is_call (event.CrossDone message status) = true
is_call (event.CrossTakeUp binding vlan) = true
is_call (event.CrossPutUp stack message frames) = true
is_call _ = false

-- the same phase and modules
pub record IsStill (net now : Net) : Type 0 where
  pub phase : now.phase ≡ net.phase
  pub modules : now.modules ≡ net.modules

-- they leave the phase and the modules as they are
abbrev pub Stays : Net → Turn → Type 0
Stays net turn = is_call turn.event ≡ true → IsStill net (after_turn net turn)
