-- Pausing a stack, with a drain each time it has to wait (WDK, "Pausing a Driver Stack").
use Rattle.std.specs.Prelude.{◌≡◌, ◌⊎◌, ℕ, ◌+◌, ◌-◌, ◌<◌, length}
use Rattle.ndis_base.specs.declared.Phase.TheVariants as phase
use Rattle.journal_types.specs.declared.Event.TheVariants as event
use Rattle.journal_types.specs.declared.Reply.TheVariants as reply
use Rattle.journal_types.specs.declared.Turn.{Turn}
use Rattle.stack_rules.specs.Net.{Net}
use Rattle.stack_rules.specs.Pauses.{first_unpaused}
use Rattle.stack_rules.specs.Work.{bottom, work}
use Rattle.drain_laws.specs.Drains.{NoneCrossed}
use Rattle.run_laws.specs.Turns.{ChangesNothing, GoesOn, LeadsTo}

-- what a pause has still to do: the work that is left, and each position that isn't Paused
abbrev pub pause_to_go : Net → ℕ
pause_to_go net = work net + (bottom net + 1 - first_unpaused net)

-- a stack that runs begins to pause
abbrev pub Begins : Net → Turn → Type 0
Begins net turn =
    turn.event ≡ event.BeginPause → net.phase ≡ phase.Running → LeadsTo net turn reply.Ok phase.Pausing

-- a pause waits for so many lists, changes nothing, and something is left
pub record Waits (net : Net) (turn : Turn) : Type 0 where
  pub many : ℕ
  pub stays : ChangesNothing net turn (reply.Waiting many)
  pub some : 0 < length net.things

-- a pause goes on to the next position, ends, or waits
abbrev pub Pauses : Net → Turn → Type 0
Pauses net turn =
    turn.event ≡ event.PauseNext → net.phase ≡ phase.Pausing →
    GoesOn net turn reply.Next phase.Pausing pause_to_go ⊎ (LeadsTo net turn reply.Paused phase.Paused ⊎ Waits net turn)

-- while something is left, and no list has crossed to another stack, a drain moves something
abbrev pub Drains : Net → Turn → Type 0
Drains net turn =
    turn.event ≡ event.Drain → net.phase ≡ phase.Pausing → NoneCrossed net → 0 < length net.things →
    GoesOn net turn reply.Moved phase.Pausing pause_to_go
