-- Ending a run: the stack is pumped while it runs, paused, pumped and halted (WDK, "Halting a Miniport Adapter").
use Rattle.std.specs.Prelude.{◌≡◌, ◌==◌, Bool, true, false, []}
use Rattle.ndis_base.specs.declared.Phase.TheVariants as phase
use Rattle.journal_types.specs.declared.Event.{Event}
use Rattle.journal_types.specs.declared.Event.TheVariants as event
use Rattle.journal_types.specs.declared.Refusal.TheVariants as refusal
use Rattle.journal_types.specs.declared.Reply.TheVariants as reply
use Rattle.journal_types.specs.declared.Turn.{Turn}
use Rattle.stack_rules.specs.Net.{Net, after_turn}
use Rattle.stack_rules.specs.Pauses.{halt_items}
use Rattle.stack_rules.specs.Tests.{phase_is_halted, phase_is_paused}
use Rattle.run_laws.specs.Turns.{ChangesNothing, LeadsTo}

-- a Paused stack is halted where no status is on its way and no request is left
abbrev pub Halts : Net → Turn → Type 0
Halts net turn =
    turn.event ≡ event.Halt → net.phase ≡ phase.Paused → halt_items net ≡ 0 → LeadsTo net turn reply.Halted phase.Halted

-- else it stays as it is
abbrev pub IsBusy : Net → Turn → Type 0
IsBusy net turn =
    turn.event ≡ event.Halt → net.phase ≡ phase.Paused → (halt_items net == 0) ≡ false →
    ChangesNothing net turn (reply.Refused (refusal.Busy (halt_items net)))

-- where a pump is idle no request is left, unless the stack is Paused or Halted
abbrev pub EmptiesRequests : Net → Turn → Type 0
EmptiesRequests net turn =
    turn.event ≡ event.Pump → turn.reply ≡ reply.Idle →
    phase_is_paused net.phase ≡ false → phase_is_halted net.phase ≡ false → net.requests ≡ []

-- the events by which a run ends
abbrev pub is_ending : Event → Bool
is_ending event.Pump = true
is_ending event.Drain = true
is_ending event.BeginPause = true
is_ending event.PauseNext = true
is_ending event.RestartNext = true
is_ending _ = false

-- where there is no request, none comes by them
abbrev pub KeepsNoRequests : Net → Turn → Type 0
KeepsNoRequests net turn = is_ending turn.event ≡ true → net.requests ≡ [] → (after_turn net turn).requests ≡ []

-- where a pump is idle while the stack is Paused, nothing is on its way
abbrev pub EmptiesThings : Net → Turn → Type 0
EmptiesThings net turn = turn.event ≡ event.Pump → turn.reply ≡ reply.Idle → net.phase ≡ phase.Paused → net.things ≡ []
