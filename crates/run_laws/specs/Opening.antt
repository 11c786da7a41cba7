-- Opening a stack: it is initialised, its filters are inserted, and it is restarted until it runs (WDK,
-- "Initializing a Miniport Driver", "Inserting a Filter Module", "Restarting a Driver Stack").
use Rattle.std.specs.Prelude.{◌≡◌, ◌⊎◌, ℕ, ◌+◌, ◌-◌, Bool, true, false}
use Rattle.ndis_base.specs.declared.Phase.TheVariants as phase
use Rattle.journal_types.specs.declared.Event.{Event}
use Rattle.journal_types.specs.declared.Event.TheVariants as event
use Rattle.journal_types.specs.declared.Refusal.TheVariants as refusal
use Rattle.journal_types.specs.declared.Reply.TheVariants as reply
use Rattle.journal_types.specs.declared.Turn.{Turn}
use Rattle.stack_rules.specs.Net.{Net, after_turn}
use Rattle.stack_rules.specs.Pauses.{running_floors}
use Rattle.stack_rules.specs.Work.{bottom}
use Rattle.run_laws.specs.Turns.{ChangesNothing, GoesOn, LeadsTo}

-- a Halted stack is initialised, or its adapter refuses
abbrev pub Initializes : Net → Turn → Type 0
Initializes net turn =
    turn.event ≡ event.Initialize → net.phase ≡ phase.Halted →
    LeadsTo net turn reply.Ok phase.Paused ⊎ ChangesNothing net turn (reply.Refused refusal.InitRefused)

-- how many positions a restart has still to do
abbrev pub restart_to_go : Net → ℕ
restart_to_go net = bottom net + 1 - running_floors net

-- a restart ends, or goes on
abbrev pub Restarts : Net → Turn → Type 0
Restarts net turn =
    turn.event ≡ event.RestartNext → (net.phase ≡ phase.Paused) ⊎ (net.phase ≡ phase.Restarting) →
    LeadsTo net turn reply.Running phase.Running ⊎ GoesOn net turn reply.Next phase.Restarting restart_to_go

-- the events that change the filters
abbrev pub is_rewire : Event → Bool
is_rewire (event.Insert kind position setup) = true
is_rewire (event.Remove filter) = true
is_rewire (event.Replace filter kind setup) = true
is_rewire _ = false

-- they leave the phase as it is
abbrev pub Rewires : Net → Turn → Type 0
Rewires net turn = is_rewire turn.event ≡ true → (after_turn net turn).phase ≡ net.phase
