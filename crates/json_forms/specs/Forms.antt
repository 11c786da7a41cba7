-- The members that an object has. An object has each name once.
use Rattle.std.specs.Prelude.{ℕ, ◌+◌, ◌==◌, ◌&&◌, Bool, false, List, length, Option, Some, None, is_some, option_map, option_and_then, unwrap_or}
use Rattle.std.specs.List.{list_all, count_by}
use Rattle.serde_json.specs.Data.{Data, Members, no_members, member}
use Rattle.serde_json.specs.Events.{members_len}
use Rattle.serde_json.specs.Find.{as_object, get}

-- the member, where there is one and no other
abbrev pub lone : Members → Option (List ℕ × Data)
lone no_members = None
lone (member name d no_members) = Some (name, d)
lone (member name d (member other e ms)) = None

-- the name and the value of an object's only member
abbrev pub lone_member : Data → Option (List ℕ × Data)
lone_member d = option_and_then lone (as_object d)

-- there is a member of this name
abbrev pub has : Data → List ℕ → Bool
has d name = is_some (get name d)

-- it is an object of so many members
abbrev pub has_count : Data → ℕ → Bool
has_count d count = unwrap_or (option_map (λ ms. members_len ms == count) (as_object d)) false

-- an object in which each of the required names is there, and no name but those and the optional ones
abbrev pub has_members : List (List ℕ) → List (List ℕ) → Data → Bool
has_members required optional d =
    list_all (has d) required && has_count d (length required + count_by (has d) optional)
