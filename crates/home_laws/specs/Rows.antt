-- The rows of a journal, and the list that a row names.
use Rattle.std.specs.Prelude.{◌≡◌, ℕ, ◌==◌, Bool, false, List, Option}
use Rattle.std.specs.List.{flat_map, All, Contains}
use Rattle.ndis_base.specs.declared.ConfigNo.{ConfigNo}
use Rattle.ndis_base.specs.declared.Direction.{Direction}
use Rattle.ndis_base.specs.declared.ListNo.{ListNo}
use Rattle.ndis_base.specs.declared.ListStatus.{ListStatus}
use Rattle.ndis_base.specs.declared.ModuleId.{ModuleId}
use Rattle.ndis_base.specs.declared.Origin.{Origin}
use Rattle.journal_types.specs.declared.OutWay.TheVariants as out
use Rattle.journal_types.specs.declared.Row.{Row}
use Rattle.journal_types.specs.declared.Row.TheVariants as row
use Rattle.journal_types.specs.declared.Turn.{Turn}

-- the rows of a journal, one after the other
abbrev pub rows_of : List Turn → List Row
rows_of turns = flat_map (λ turn. turn.rows) turns

-- the row names the list
abbrev pub names : ListNo → Row → Bool
names list (row.Issue other owner config direction cancel origin frames) = other.0 == list.0
names list (row.Give other m handler) = other.0 == list.0
names list (row.Pass other way to) = other.0 == list.0
names list (row.Keep other m) = other.0 == list.0
names list (row.TurnBack other m status) = other.0 == list.0
names list (row.Home other owner status) = other.0 == list.0
names list (row.Wire other frames) = other.0 == list.0
names list (row.Deliver other binding how frames) = other.0 == list.0
names list (row.CrossOut message (out.Down other) frames) = other.0 == list.0
names list _ = false

-- the row is the list's Issue row
abbrev pub is_issue_of : ListNo → Row → Bool
is_issue_of list (row.Issue other owner config direction cancel origin frames) = other.0 == list.0
is_issue_of list _ = false

-- the row is a Home row of the list
abbrev pub is_home_of : ListNo → Row → Bool
is_home_of list (row.Home other owner status) = other.0 == list.0
is_home_of list _ = false

-- what the Issue row of a list shows, but its configuration
pub record Label : Type 0 where
  pub owner : ModuleId
  pub direction : Direction
  pub cancel : Option ℕ
  pub origin : Origin
  pub frames : List (List ℕ)

-- an Issue row of the list with this label
abbrev pub issue_row : ListNo → ConfigNo → Label → Row
issue_row list config label = row.Issue list label.owner config label.direction label.cancel label.origin label.frames

-- among the rows is an Issue row of the list with this label
pub record IsIssued (rows : List Row) (list : ListNo) (label : Label) : Type 0 where
  pub config : ConfigNo
  pub here : Contains rows (issue_row list config label)

-- among the rows is an Issue row of the list, with this owner
abbrev pub IsIssuedBy : List Row → ListNo → ModuleId → Type 0
IsIssuedBy rows list owner = (label : Label) × IsIssued rows list label × (label.owner ≡ owner)

-- among the rows is an Issue row of the list, with these frames
abbrev pub IsIssuedWith : List Row → ListNo → List (List ℕ) → Type 0
IsIssuedWith rows list frames = (label : Label) × IsIssued rows list label × (label.frames ≡ frames)

-- among the rows is a Home row of the list
pub record IsHome (rows : List Row) (list : ListNo) : Type 0 where
  pub owner : ModuleId
  pub status : ListStatus
  pub here : Contains rows (row.Home list owner status)

-- no row is a Home row of the list
abbrev pub IsAway : List Row → ListNo → Type 0
IsAway rows list = All (λ r. is_home_of list r ≡ false) rows
