-- What the laws on the work that is left say of one journal: turns, and then a pause.
use Rattle.std.specs.Prelude.{◌≡◌, ◌+◌, ◌≤◌, List, ◌∷◌, ◌++◌, true, false, count_by}
use Rattle.ndis_base.specs.declared.Phase.TheVariants.{Pausing}
use Rattle.journal_types.specs.declared.Event.{Event}
use Rattle.journal_types.specs.declared.Event.TheVariants.{BeginPause, Drain, Pump}
use Rattle.journal_types.specs.declared.Reply.TheVariants.{Moved, Ok}
use Rattle.journal_types.specs.declared.StackHead.{StackHead}
use Rattle.journal_types.specs.declared.Turn.{Turn}
use Rattle.stack_rules.specs.Tests.{phase_is_running}
use Rattle.stack_rules.specs.Net.{Net, after_turn, seen}
use Rattle.stack_rules.specs.Work.{work}
use Rattle.work_laws.specs.Bounds.{is_pause}
use Rattle.drain_laws.specs.Drains.{drains_some, EndsInTime}

-- at each turn of a journal, in the state after those before it
abbrev pub EachTurn : StackHead → List Turn → (Net → Turn → Type 0) → Type 0
EachTurn head turns P = (before rest : List Turn) (turn : Turn) → turns ≡ before ++ turn ∷ rest → P (seen head before) turn

-- a turn with this event that is answered Moved lowers the work, always or while the stack doesn't run
abbrev pub LowersWork : Event → Net → Turn → Type 0
LowersWork e net turn = turn.event ≡ e → turn.reply ≡ Moved → work (after_turn net turn) + 1 ≤ work net

abbrev pub LowersWorkWhileStill : Event → Net → Turn → Type 0
LowersWorkWhileStill e net turn = phase_is_running net.phase ≡ false → LowersWork e net turn

-- a turn of a pause adds nothing
abbrev pub PauseAddsNothing : Net → Turn → Type 0
PauseAddsNothing net turn = is_pause turn.event ≡ true → work (after_turn net turn) ≤ work net

-- after a BeginPause that is accepted the stack pauses
abbrev pub BeginsPause : Net → Turn → Type 0
BeginsPause net turn = turn.event ≡ BeginPause → turn.reply ≡ Ok → (after_turn net turn).phase ≡ Pausing

pub record MeetsLaws (head : StackHead) (turns more : List Turn) : Type 0 where
  pub pumps : EachTurn head (turns ++ more) (LowersWork Pump)
  pub drains : EachTurn head (turns ++ more) (LowersWorkWhileStill Drain)
  pub pauses : EachTurn head (turns ++ more) PauseAddsNothing
  pub begins : EachTurn head (turns ++ more) BeginsPause
  pub bounded : count_by drains_some more ≤ work (seen head turns)
  pub in_time : EndsInTime (seen head turns) more
