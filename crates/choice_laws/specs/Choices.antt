-- The choices of a journal: what the drivers chose, turn by turn. All else follows from what was asked.
use Rattle.std.specs.Prelude.{◌≡◌, true, List, [], ◌∷◌, map}
use Rattle.journal_types.specs.declared.StackHead.{StackHead}
use Rattle.journal_types.specs.declared.Asked.{Asked}
use Rattle.journal_types.specs.declared.Turn.{Turn}
use Rattle.stack_rules.specs.declared.Choice.{Choice}
use Rattle.stack_rules.specs.Net.{Net, start, after_turn}
use Rattle.stack_rules.specs.Conditions.{may_ask}
use Rattle.stack_rules.specs.Sound.{outcome, Sound}

-- the turn's event may be asked, and its reply and rows are those of the event as the drivers chose
pub record IsChosen (net : Net) (turn : Turn) (choice : Choice) : Type 0 where
  pub may : may_ask net.head turn.event ≡ true
  pub reply : turn.reply ≡ (outcome net turn.event choice).reply
  pub rows : turn.rows ≡ (outcome net turn.event choice).rows

-- each turn is so, after those before it, with a choice of its own
abbrev pub AreChosen : Net → List Turn → List Choice → Type 0
AreChosen net [] [] = Unit {0}
AreChosen net (turn ∷ turns) (choice ∷ choices) = IsChosen net turn choice × AreChosen (after_turn net turn) turns choices
AreChosen net _ _ = ⊥

-- what was asked, and by whom
abbrev pub asked_in : Turn → Asked
asked_in turn = record { who = turn.who; event = turn.event }

abbrev pub all_asked : List Turn → List Asked
all_asked turns = map asked_in turns

-- a sound journal has its choices
pub record HasChoices (head : StackHead) (turns : List Turn) : Type 0 where
  pub choices : List Choice
  pub chosen : AreChosen (start head) turns choices

abbrev pub EachHasChoices : Type 0
EachHasChoices = (head : StackHead) (turns : List Turn) → Sound head turns → HasChoices head turns

-- what was asked and the choices are all that a journal depends on
abbrev pub ChoicesDetermine : Type 0
ChoicesDetermine =
    (head : StackHead) (turns others : List Turn) (choices : List Choice) →
    AreChosen (start head) turns choices → AreChosen (start head) others choices → all_asked turns ≡ all_asked others → turns ≡ others
