-- What the tables of the lists that wait have after a row, and that they tell what waits in the state.
use Rattle.std.specs.Prelude.{ℕ, ◌==◌, ◌≤◌, not, filter}
use Rattle.flat_journal.specs.declared.types.FlatRow.{FlatRow}
use Rattle.flat_journal.specs.declared.types.FlatRow.TheVariants as flat_row
use Rattle.stack_rules.specs.Net.{Net}
use Rattle.rule_basics.specs.Numbers.{IsNumbered}
use Rattle.waiting_lists.specs.Waiting.{WaitView, is_other, Tells}

-- a list that is passed is no longer with another stack, and one that is home is gone
abbrev pub waits_after : FlatRow → WaitView → WaitView
waits_after (flat_row.Pass list way to) w = record w { crossed = filter (λ m. not (m == list.0)) w.crossed }
waits_after (flat_row.Home list owner status) w = record w { clones = filter (is_other list.0) w.clones; crossed = filter (λ m. not (m == list.0)) w.crossed }
waits_after _ w = w

-- the tables tell what waits in this state, in which no two lists have one number, and have room for a clone of each
-- thing that may come to be on its way
pub record HasWaits (net : Net) (w : WaitView) (slack : ℕ) : Type 0 where
  pub tells : Tells net w
  pub numbered : IsNumbered net
  pub room : slack ≤ w.room
