-- Which of the lists that modules keep wait, as it is told by tables of the live clones and of the lists that have crossed.
use Rattle.std.specs.Prelude.{◌≡◌, ℕ, ◌==◌, ◌||◌, ◌&&◌, not, Bool, false, List, Option, Some, None}
use Rattle.std.specs.List.{list_any}
use Rattle.stack_rules.specs.declared.LiveList.{LiveList}
use Rattle.stack_rules.specs.Net.{Net, lists, list_of}
use Rattle.stack_rules.specs.Places.{is_clone_of}
use Rattle.agenda_items.specs.Waits.{crossed_at}

-- the live clones, each with its original, and the lists that have crossed; for how many more there is room
pub record WaitView : Type 0 where
  pub clones : List (ℕ × ℕ)
  pub crossed : List ℕ
  pub room : ℕ

-- a clone of this list
abbrev pub has_original : ℕ → (ℕ × ℕ) → Bool
has_original n clone = clone.1 == n

-- a clone of another number
abbrev pub is_other : ℕ → (ℕ × ℕ) → Bool
is_other n clone = not (clone.0 == n)

-- the list has crossed, or has a clone
abbrev pub waits_in : WaitView → ℕ → Bool
waits_in w n = list_any (λ m. m == n) w.crossed || list_any (has_original n) w.clones

-- this clone of this list
abbrev pub is_pair : ℕ → ℕ → (ℕ × ℕ) → Bool
is_pair c o clone = (clone.0 == c) && (clone.1 == o)

-- the list is live and a clone of this one
abbrev pub clones_at : ℕ → Option LiveList → Bool
clones_at o None = false
clones_at o (Some l) = is_clone_of o l.origin

-- the tables tell the live clones and the crossed lists of the state
pub record Tells (net : Net) (w : WaitView) : Type 0 where
  pub clones : (c o : ℕ) → list_any (is_pair c o) w.clones ≡ clones_at o (list_of c (lists net.things))
  pub crossed : (n : ℕ) → list_any (λ m. m == n) w.crossed ≡ crossed_at (list_of n (lists net.things))
