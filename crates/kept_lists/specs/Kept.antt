-- The lists that a driver keeps, and which of them it gives away.
use Rattle.std.specs.Prelude.{◌≡◌, ℕ, ◌==◌, ◌+◌, ◌<◌, Bool, true, false, List, ◌∷◌, ◌++◌, Option, Some, None, length, take, slice_index_or, All}
use Rattle.buffer_pools.specs.Views.{ListView}
use Rattle.stack_rules.specs.Net.{Net}
use Rattle.driver_calls.specs.Filters.{is_ready, is_cancelled}

-- the lists, the oldest first, and room for so many more
pub record KeptView : Type 0 where
  pub lists : List ListView
  pub room : ℕ

-- the list of this number
abbrev pub has_number : ℕ → ListView → Bool
has_number n l = l.label.number.0 == n

-- the lists that are given away: the ready ones, or the ready sends of an identifier
abbrev pub leaves : Net → Option ℕ → ListView → Bool
leaves net None l = is_ready net l
leaves net (Some id) l = is_cancelled net id l

-- one fewer list, and room for one more
pub record TakesFirst (old : KeptView) (list : ListView) (after : KeptView) : Type 0 where
  pub lists : old.lists ≡ list ∷ after.lists
  pub room : after.room ≡ old.room + 1

-- a list of another number
abbrev pub IsOther : ℕ → ListView → Type 0
IsOther n l = has_number n l ≡ false

-- the first list of this number stands here
pub record StandsAt (n : ℕ) (lists : List ListView) (place : ℕ) : Type 0 where
  pub inside : place < length lists
  pub before : All (IsOther n) (take place lists)
  pub here : (d : ListView) → has_number n (slice_index_or lists place d) ≡ true

-- the first list of this number is taken, where there is one
pub data Takes (old : KeptView) (n : ℕ) (taken : Option ListView) (after : KeptView) : Type 0 where
  lacks : All (IsOther n) old.lists → taken ≡ None → after ≡ old → Takes old n taken after
  takes : (front : List ListView) (list : ListView) (back : List ListView) → All (IsOther n) front → old.lists ≡ front ++ list ∷ back → has_number n list ≡ true
      → taken ≡ Some list → after.lists ≡ front ++ back → after.room ≡ old.room + 1 → Takes old n taken after
