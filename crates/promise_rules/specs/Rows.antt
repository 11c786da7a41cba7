-- The rows of a journal: the first one of a kind, how many there are, and which rows name a list.
use Rattle.std.specs.Prelude.{ℕ, ◌==◌, Bool, true, false, List, [], ◌∷◌, Option, Some, None, is_some, find, sum_by, count_by}
use Rattle.std.specs.List.{list_all}
use Rattle.ndis_base.specs.declared.ListStatus.{ListStatus}
use Rattle.ndis_base.specs.declared.ListStatus.TheVariants as status
use Rattle.journal_types.specs.declared.Row.{Row}
use Rattle.journal_types.specs.declared.Row.TheVariants as row
use Rattle.journal_types.specs.declared.Turn.{Turn}

abbrev pub first_of_two : Option Row → Option Row → Option Row
first_of_two None other = other
first_of_two (Some r) other = Some r

-- the first row that passes a test
abbrev pub first_row : (Row → Bool) → List Turn → Option Row
first_row test [] = None
first_row test (t ∷ ts) = first_of_two (find test t.rows) (first_row test ts)

-- how many rows pass a test
abbrev pub count_rows : (Row → Bool) → List Turn → ℕ
count_rows test turns = sum_by (λ t. count_by test t.rows) turns

-- each row passes a test
abbrev pub all_rows : (Row → Bool) → List Turn → Bool
all_rows test turns = list_all (λ t. list_all test t.rows) turns

abbrev pub is_issue : ℕ → Row → Bool
is_issue n (row.Issue list owner config direction cancel origin frames) = list.0 == n
is_issue n _ = false

abbrev pub is_home : ℕ → Row → Bool
is_home n (row.Home list owner status) = list.0 == n
is_home n _ = false

-- the row by which a list is issued, and the one by which it is home
abbrev pub issue_of : List Turn → ℕ → Option Row
issue_of turns n = first_row (is_issue n) turns

abbrev pub home_of : List Turn → ℕ → Option Row
home_of turns n = first_row (is_home n) turns

abbrev pub is_home_again : List Turn → ℕ → Bool
is_home_again turns n = is_some (home_of turns n)

-- the frames and the status that a row shows
abbrev pub frames_in : Option Row → List (List ℕ)
frames_in (Some (row.Issue list owner config direction cancel origin frames)) = frames
frames_in _ = []

abbrev pub status_in : Option Row → Option ListStatus
status_in (Some (row.Home list owner status)) = Some status
status_in (Some (row.TurnBack list m status)) = Some status
status_in _ = None

abbrev pub same_status : ListStatus → ListStatus → Bool
same_status status.Success status.Success = true
same_status status.Paused status.Paused = true
same_status status.Aborted status.Aborted = true
same_status status.Dropped status.Dropped = true
same_status status.Resources status.Resources = true
same_status _ _ = false

-- the status is told, and is this one
abbrev pub is_status : ListStatus → Option ListStatus → Bool
is_status wanted None = false
is_status wanted (Some told) = same_status told wanted
