-- Which of the lists that a module keeps wait.
use Rattle.std.specs.Prelude.{ℕ, ◌||◌, Bool, false, Option, Some, None}
use Rattle.stack_rules.specs.declared.LiveList.{LiveList}
use Rattle.stack_rules.specs.Net.{Net, lists, list_of}
use Rattle.stack_rules.specs.Places.{is_crossed, has_clone}

-- whether a kept list waits, by its number alone, so that the ledger can tell it and no driver has to remember it
abbrev pub crossed_at : Option LiveList → Bool
crossed_at None = false
crossed_at (Some l) = is_crossed l.crossed

-- the list of this number is crossed, or a clone of it is live
abbrev pub waits_at : Net → ℕ → Bool
waits_at net n = crossed_at (list_of n (lists net.things)) || has_clone net n
