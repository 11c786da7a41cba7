-- The numbers that lists are issued under.
use Rattle.std.specs.Prelude.{◌≡◌, List, [], ◌∷◌}
use Rattle.journal_types.specs.declared.Row.{Row}
use Rattle.journal_types.specs.declared.Row.TheVariants as row
use Rattle.stack_rules.specs.Net.{Net, after, lists}
use Rattle.rule_basics.specs.Live.{IsApart, IsBelow}

-- the numbers of the live lists differ, and the next number is above them
pub record IsNumbered (net : Net) : Type 0 where
  pub apart : IsApart (lists net.things)
  pub below : IsBelow net.next.list (lists net.things)

-- a list that the row issues takes the next number
abbrev pub IssuesNext : Net → Row → Type 0
IssuesNext net (row.Issue list owner config direction cancel origin frames) = list.0 ≡ net.next.list
IssuesNext net _ = Unit {0}

-- each list that the rows issue takes the number that is then the next
abbrev pub IssueNext : Net → List Row → Type 0
IssueNext net [] = Unit {0}
IssueNext net (r ∷ rows) = IssuesNext net r × IssueNext (after net r) rows
