-- Pumping a stack until nothing moves.
use Rattle.std.specs.Prelude.{◌≡◌, ◌⊎◌}
use Rattle.journal_types.specs.declared.Event.TheVariants as event
use Rattle.journal_types.specs.declared.Reply.TheVariants as reply
use Rattle.journal_types.specs.declared.Turn.{Turn}
use Rattle.stack_rules.specs.Net.{Net}
use Rattle.stack_rules.specs.Work.{work}
use Rattle.run_laws.specs.Turns.{ChangesNothing, GoesOn}

-- a pump moves something and lowers the work, or changes nothing; the phase stays
abbrev pub Pumps : Net → Turn → Type 0
Pumps net turn =
    turn.event ≡ event.Pump → GoesOn net turn reply.Moved net.phase work ⊎ ChangesNothing net turn reply.Idle
