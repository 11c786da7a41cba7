-- What is known of the live lists after each turn of a sound journal.
use Rattle.std.specs.Prelude.{◌≡◌, ℕ, ◌<◌, ◌≤◌, true, List, ◌⊎◌}
use Rattle.ndis_base.specs.declared.Origin.{Origin}
use Rattle.ndis_base.specs.declared.Origin.TheVariants as origin
use Rattle.journal_types.specs.declared.Row.{Row}
use Rattle.journal_types.specs.declared.StackHead.{StackHead}
use Rattle.journal_types.specs.declared.Turn.{Turn}
use Rattle.stack_rules.specs.declared.LiveList.{LiveList}
use Rattle.stack_rules.specs.Net.{Net, seen, lists}
use Rattle.stack_rules.specs.Outcome.{list_no}
use Rattle.rule_basics.specs.Live.{is_live, Each}
use Rattle.rule_basics.specs.Numbers.{IsNumbered}
use Rattle.home_laws.specs.Rows.{Label, IsIssued, IsAway, IsHome, rows_of}

-- the label of a live list
abbrev pub label_of : LiveList → Label
label_of l = record { owner = l.owner; direction = l.direction; cancel = l.cancel; origin = l.origin; frames = l.frames }

-- a list is younger than the one that it is made of
abbrev pub IsYounger : ℕ → Origin → Type 0
IsYounger n origin.Root = Unit {0}
IsYounger n (origin.Clone list) = list.0 < n
IsYounger n (origin.Copy list) = list.0 < n

-- The numbers of live lists differ and lie below the next one. Each live list has an Issue row that shows
-- its label, has no Home row, and is younger than the list that it was made of. Each number that was given
-- out belongs to a live list or to one that is home.
pub record StandsByRows (rows : List Row) (net : Net) : Type 0 where
  pub numbered : IsNumbered net
  pub issued : Each (λ l. IsIssued rows l.list (label_of l)) (lists net.things)
  pub away : Each (λ l. IsAway rows l.list) (lists net.things)
  pub younger : Each (λ l. IsYounger l.list.0 l.origin) (lists net.things)
  pub all : (n : ℕ) → 1 ≤ n → n < net.next.list → (is_live n (lists net.things) ≡ true) ⊎ IsHome rows (list_no n)

-- the lists stand after the turns of a stack of this head
abbrev pub ListsStand : StackHead → List Turn → Type 0
ListsStand head turns = StandsByRows (rows_of turns) (seen head turns)
