-- What is promised of a pause and its drains.
use Rattle.std.specs.Prelude.{◌≡◌, ◌↔◌, ℕ, ◌+◌, ◌*◌, ◌&&◌, ◌<◌, ◌≤◌, Bool, true, false, List, [], ◌∷◌, ◌++◌, length, count_by}
use Rattle.std.specs.List.{All, list_any}
use Rattle.ndis_base.specs.declared.Phase.TheVariants.{Pausing}
use Rattle.journal_types.specs.declared.Event.{Event}
use Rattle.journal_types.specs.declared.Event.TheVariants as event
use Rattle.journal_types.specs.declared.Reply.{Reply}
use Rattle.journal_types.specs.declared.Reply.TheVariants as reply
use Rattle.journal_types.specs.declared.StackHead.{StackHead}
use Rattle.journal_types.specs.declared.Turn.{Turn}
use Rattle.stack_rules.specs.Net.{Net, after_turn, lists, seen}
use Rattle.stack_rules.specs.Places.{is_crossed}
use Rattle.stack_rules.specs.Sound.{Next, Sound}
use Rattle.stack_rules.specs.Work.{work}
use Rattle.rule_basics.specs.Live.{Each}
use Rattle.work_laws.specs.Bounds.{is_drain}

-- A pause begins where a BeginPause is accepted.
abbrev pub PauseBegins : Type 0
PauseBegins =
    (net : Net) (turn : Turn) → Next net turn → turn.event ≡ event.BeginPause → turn.reply ≡ reply.Ok → (after_turn net turn).phase ≡ Pausing

-- the events by which a stack that pauses becomes empty
abbrev pub is_draining : Event → Bool
is_draining event.Drain = true
is_draining event.PauseNext = true
is_draining _ = false

abbrev pub is_moved : Reply → Bool
is_moved reply.Moved = true
is_moved _ = false

-- the turn is a drain that moves something
abbrev pub drains_some : Turn → Bool
drains_some turn = is_drain turn.event && is_moved turn.reply

-- While a stack pauses, and nothing else is asked of it, no more drains move something than there was work left
-- at the beginning.
abbrev pub DrainsAreBounded : Type 0
DrainsAreBounded =
    (head : StackHead) (turns more : List Turn) → Sound head (turns ++ more) → (seen head turns).phase ≡ Pausing →
    All (λ turn. is_draining turn.event ≡ true) more → count_by drains_some more ≤ work (seen head turns)

-- no live list has crossed to another stack
abbrev pub NoneCrossed : Net → Type 0
NoneCrossed net = Each (λ l. is_crossed l.crossed ≡ false) (lists net.things)

-- While a stack pauses, and no list of it has crossed, a drain is idle only where nothing is left: no list is
-- live, no status or answer is on its way, and no request waits.
abbrev pub IdleIsEmpty : Type 0
IdleIsEmpty =
    (head : StackHead) (turns : List Turn) (turn : Turn) → Sound head turns → Next (seen head turns) turn → (seen head turns).phase ≡ Pausing → NoneCrossed (seen head turns) →
    turn.event ≡ event.Drain → turn.reply ≡ reply.Idle → ((seen head turns).things ≡ []) × ((seen head turns).requests ≡ [])

-- Then a drain is idle exactly where the work is done.
abbrev pub IdleWhereDone : Type 0
IdleWhereDone =
    (head : StackHead) (turns : List Turn) (turn : Turn) → Sound head turns → Next (seen head turns) turn → (seen head turns).phase ≡ Pausing → NoneCrossed (seen head turns) →
    turn.event ≡ event.Drain → (turn.reply ≡ reply.Idle) ↔ (work (seen head turns) ≡ 0)

abbrev pub is_waiting_reply : Reply → Bool
is_waiting_reply (reply.Waiting n) = true
is_waiting_reply _ = false

abbrev pub ends_pause : Reply → Bool
ends_pause reply.Paused = true
ends_pause _ = false

-- A pause as it is driven: a PauseNext, after each one that has to wait a drain, and nothing after the one by which
-- the stack is Paused; due is whether a drain comes first.
abbrev pub PausesAndDrains : Bool → List Turn → Type 0
PausesAndDrains due [] = Unit {0}
PausesAndDrains true (turn ∷ more) = (turn.event ≡ event.Drain) × PausesAndDrains false more
PausesAndDrains false (turn ∷ more) = (turn.event ≡ event.PauseNext) × (ends_pause turn.reply ≡ true → more ≡ []) × PausesAndDrains (is_waiting_reply turn.reply) more

-- the turn goes on with the pause
abbrev pub goes_on : Reply → Bool
goes_on reply.Next = true
goes_on (reply.Waiting n) = true
goes_on reply.Moved = true
goes_on reply.Paused = true
goes_on _ = false

abbrev pub is_ended : List Turn → Bool
is_ended more = list_any (λ turn. ends_pause turn.reply) more

-- two turns for each unit of the work, and one for each position
abbrev pub time : Net → ℕ
time net = 2 * work net + (length net.modules.order + 2)

-- In that many turns the stack is Paused: the pause has no more of them, and fewer before its end; none is refused,
-- and no drain is idle.
pub record EndsInTime (net : Net) (more : List Turn) : Type 0 where
  pub most : length more ≤ time net
  pub before : is_ended more ≡ false → length more < time net
  pub on : All (λ turn. goes_on turn.reply ≡ true) more

-- While a stack pauses, and no list of it has crossed, such a pause ends in time.
abbrev pub PausesInTime : Type 0
PausesInTime =
    (head : StackHead) (turns more : List Turn) → Sound head (turns ++ more) → (seen head turns).phase ≡ Pausing → NoneCrossed (seen head turns) → PausesAndDrains false more →
    EndsInTime (seen head turns) more
