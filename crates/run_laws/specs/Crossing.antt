-- Lists that are taken to another stack (WDK, "NDIS MUX Intermediate Drivers"): each is with it until it is done
-- there.
use Rattle.std.specs.Prelude.{◌≡◌, ℕ, ◌==◌, ◌&&◌, Bool, true, false, List, [], ◌∷◌, if◌then◌else◌}
use Rattle.std.specs.List.{All}
use Rattle.journal_types.specs.declared.Event.{Event}
use Rattle.journal_types.specs.declared.Event.TheVariants as event
use Rattle.journal_types.specs.declared.Reply.{Reply}
use Rattle.journal_types.specs.declared.Reply.TheVariants as reply
use Rattle.journal_types.specs.declared.StackHead.{StackHead}
use Rattle.journal_types.specs.declared.Turn.{Turn}
use Rattle.stack_rules.specs.Net.{Net, after_turn, lists, seen}
use Rattle.stack_rules.specs.Crosses.{is_in_message}
use Rattle.stack_rules.specs.Sound.{Next, Sound}
use Rattle.rule_basics.specs.Live.{Each}
use Rattle.work_laws.specs.Bounds.{is_take}
use Rattle.drain_laws.specs.Drains.{NoneCrossed}

-- Where no list has crossed to another stack, none does but by a CrossTake.
abbrev pub KeepsUncrossed : Type 0
KeepsUncrossed =
    (head : StackHead) (turns : List Turn) (turn : Turn) → Sound head turns → Next (seen head turns) turn →
    is_take turn.event ≡ false → NoneCrossed (seen head turns) → NoneCrossed (after_turn (seen head turns) turn)

-- So none has after a sound journal without a CrossTake.
abbrev pub NoneCrossUntaken : Type 0
NoneCrossUntaken =
    (head : StackHead) (turns : List Turn) → Sound head turns → All (λ turn. is_take turn.event ≡ false) turns →
    NoneCrossed (seen head turns)

-- no live list is with another stack in this message
abbrev pub NoneIn : ℕ → Net → Type 0
NoneIn message net = Each (λ l. is_in_message message l.crossed ≡ false) (lists net.things)

-- the answer tells that a list was taken in this message
abbrev pub is_taken_in : ℕ → Reply → Bool
is_taken_in message (reply.Taken taken frames) = taken.0 == message
is_taken_in message _ = false

-- the turn takes a list in this message
abbrev pub takes_in : ℕ → Turn → Bool
takes_in message turn = is_take turn.event && is_taken_in message turn.reply

-- the event tells that this message is done in the other stack
abbrev pub is_done_in : ℕ → Event → Bool
is_done_in message (event.CrossDone taken status) = taken.0 == message
is_done_in message _ = false

-- A list is in a message by the turn alone that takes it so.
abbrev pub KeepsNoneIn : Type 0
KeepsNoneIn =
    (head : StackHead) (turns : List Turn) (turn : Turn) (message : ℕ) → Sound head turns → Next (seen head turns) turn →
    takes_in message turn ≡ false → NoneIn message (seen head turns) → NoneIn message (after_turn (seen head turns) turn)

-- After a CrossDone no list is in its message.
abbrev pub DoneIsBack : Type 0
DoneIsBack =
    (head : StackHead) (turns : List Turn) (turn : Turn) (message : ℕ) → Sound head turns → Next (seen head turns) turn →
    is_done_in message turn.event ≡ true → NoneIn message (after_turn (seen head turns) turn)

-- a list was taken in this message, and that isn't done yet
abbrev pub is_out : ℕ → Bool → List Turn → Bool
is_out message before [] = before
is_out message before (turn ∷ turns) =
    is_out message (if takes_in message turn then true else (if is_done_in message turn.event then false else before)) turns

-- So no list has crossed where each message is done.
abbrev pub NoneCrossedWhereDone : Type 0
NoneCrossedWhereDone =
    (head : StackHead) (turns : List Turn) → Sound head turns → ((message : ℕ) → is_out message false turns ≡ false) →
    NoneCrossed (seen head turns)
