-- What is known of a journal at the end of a pause, and of the state after each turn.
use Rattle.std.specs.Prelude.{◌≡◌, List, count_by}
use Rattle.ndis_base.specs.declared.ListNo.{ListNo}
use Rattle.journal_types.specs.declared.Row.{Row}
use Rattle.journal_types.specs.declared.StackHead.{StackHead}
use Rattle.journal_types.specs.declared.Turn.{Turn}
use Rattle.stack_rules.specs.Net.{seen}
use Rattle.home_laws.specs.Rows.{Label, IsIssued, is_home_of}
use Rattle.home_laws.specs.Standing.{ListsStand}
use Rattle.pause_laws.specs.Clear.{IsHeld}

-- each list that was issued has exactly one Home row
abbrev pub EachIsHome : List Row → Type 0
EachIsHome rows = (list : ListNo) (label : Label) → IsIssued rows list label → count_by (is_home_of list) rows ≡ 1

-- the modules' states fit the phase, the live lists are clear of what is Paused, and they are the lists that
-- were issued and aren't home
pub record IsStanding (head : StackHead) (turns : List Turn) : Type 0 where
  pub held : IsHeld (seen head turns)
  pub lists : ListsStand head turns
