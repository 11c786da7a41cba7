-- Families: a clone or a copy descends from its original, and all lists with one root are a family (WDK,
-- "Derived NET_BUFFER_LIST structures").
use Rattle.std.specs.Prelude.{ℕ, ◌==◌, ◌||◌, not, Bool, true, false, List, [], ◌∷◌, Option, Some, None, if◌then◌else◌}
use Rattle.ndis_base.specs.declared.Origin.TheVariants as origin
use Rattle.journal_types.specs.declared.Row.{Row}
use Rattle.journal_types.specs.declared.Row.TheVariants as row
use Rattle.journal_types.specs.declared.Turn.{Turn}
use Rattle.promise_rules.specs.Rows.{all_rows, is_home_again}

-- the list that the row makes this one of, else this one
abbrev pub origin_at : Row → ℕ → ℕ
origin_at (row.Issue list owner config direction cancel (origin.Clone o) frames) n = if list.0 == n then o.0 else n
origin_at (row.Issue list owner config direction cancel (origin.Copy o) frames) n = if list.0 == n then o.0 else n
origin_at _ n = n

-- an original is issued before what is made of it: so the later rows are followed back first
abbrev pub root_in_rows : List Row → ℕ → ℕ
root_in_rows [] n = n
root_in_rows (r ∷ rows) n = origin_at r (root_in_rows rows n)

-- the list that a list descends from
abbrev pub root_of : List Turn → ℕ → ℕ
root_of [] n = n
root_of (t ∷ ts) n = root_in_rows t.rows (root_of ts n)

-- the row issues a list of this root's family
abbrev pub issues_in : List Turn → ℕ → Row → Bool
issues_in turns r (row.Issue list owner config direction cancel origin frames) = root_of turns list.0 == r
issues_in turns r _ = false

-- the list is of another family, or home
abbrev pub is_over_for : List Turn → ℕ → ℕ → Bool
is_over_for turns r n = not (root_of turns n == r) || is_home_again turns n

abbrev pub is_over_at : List Turn → ℕ → Row → Bool
is_over_at turns r (row.Issue list owner config direction cancel origin frames) =
    is_over_for turns r list.0
is_over_at turns r _ = true

-- no list of the family is live
abbrev pub is_over : List Turn → ℕ → Bool
is_over turns r = all_rows (is_over_at turns r) turns

abbrev pub last_of_two : Option ℕ → Option ℕ → Option ℕ
last_of_two earlier None = earlier
last_of_two earlier (Some n) = Some n

abbrev pub member_at : List Turn → ℕ → Row → Option ℕ
member_at turns r (row.Issue list owner config direction cancel origin frames) =
    if root_of turns list.0 == r then Some list.0 else None
member_at turns r _ = None

abbrev pub last_in_rows : List Turn → ℕ → List Row → Option ℕ
last_in_rows turns r [] = None
last_in_rows turns r (x ∷ rows) = last_of_two (member_at turns r x) (last_in_rows turns r rows)

abbrev pub last_in_turns : List Turn → ℕ → List Turn → Option ℕ
last_in_turns turns r [] = None
last_in_turns turns r (t ∷ ts) = last_of_two (last_in_rows turns r t.rows) (last_in_turns turns r ts)

-- the family's last list, which has the greatest number
abbrev pub last_of_family : List Turn → ℕ → Option ℕ
last_of_family turns r = last_in_turns turns r turns
