-- The rows that the last line of a journal counts.
use Rattle.std.specs.Prelude.{ℕ, ◌-◌, ◌^◌, Bool, true, false, List, min, sum_by, count_by}
use Rattle.journal_types.specs.declared.Turn.{Turn}
use Rattle.journal_types.specs.declared.Row.{Row}
use Rattle.journal_types.specs.declared.Row.TheVariants.{Issue, Home, Wire, Deliver}

abbrev pub is_issue : Row → Bool
is_issue (Issue list owner config direction cancel origin frames) = true
is_issue _ = false

abbrev pub is_home : Row → Bool
is_home (Home list owner status) = true
is_home _ = false

abbrev pub is_wire : Row → Bool
is_wire (Wire list frames) = true
is_wire _ = false

abbrev pub is_deliver : Row → Bool
is_deliver (Deliver list binding how frames) = true
is_deliver _ = false

-- how many rows of a turn pass a test
abbrev pub turn_rows_of : (Row → Bool) → Turn → ℕ
turn_rows_of test turn = count_by test turn.rows

-- how many rows of all turns pass a test; past the last value of 64 bits a count stands still
abbrev pub rows_of : (Row → Bool) → List Turn → ℕ
rows_of test turns = min (sum_by (turn_rows_of test) turns) (2 ^ 64 - 1)
