-- The events that a stack takes in some phases alone.
use Rattle.std.specs.Prelude.{◌≡◌, ◌||◌, Bool, false}
use Rattle.ndis_base.specs.declared.Phase.{Phase}
use Rattle.journal_types.specs.declared.Event.{Event}
use Rattle.journal_types.specs.declared.Refusal.TheVariants as refusal
use Rattle.journal_types.specs.declared.Reply.TheVariants as reply
use Rattle.journal_types.specs.declared.Turn.{Turn}
use Rattle.stack_rules.specs.Tests.{phase_is_paused, phase_is_restarting}
use Rattle.stack_rules.specs.Net.{Net}
use Rattle.run_laws.specs.Turns.{ChangesNothing}

-- in each other phase the event is refused, and changes nothing
abbrev pub NeedsPhase : Event → (Phase → Bool) → Net → Turn → Type 0
NeedsPhase e test net turn =
    turn.event ≡ e → test net.phase ≡ false → ChangesNothing net turn (reply.Refused (refusal.WrongPhase net.phase))

-- the phases in which a stack restarts
abbrev pub may_restart : Phase → Bool
may_restart p = phase_is_paused p || phase_is_restarting p
