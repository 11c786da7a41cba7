-- What holds of the rows of each sound journal: each list is issued once, comes home at most once and to
-- its owner, and its frames stay as they were issued. Each is told of a row at any place: of the rows
-- before it and of the rows after it.
use Rattle.std.specs.Prelude.{◌≡◌, ◌≤◌, true, false, List, ◌∷◌, ◌++◌, count_by, All}
use Rattle.ndis_base.specs.declared.ListNo.{ListNo}
use Rattle.ndis_base.specs.declared.ListStatus.{ListStatus}
use Rattle.ndis_base.specs.declared.ModuleId.{ModuleId}
use Rattle.ndis_base.specs.declared.Origin.{Origin}
use Rattle.ndis_base.specs.declared.Origin.TheVariants as origin
use Rattle.ndis_base.specs.declared.ConfigNo.{ConfigNo}
use Rattle.journal_types.specs.declared.OutWay.TheVariants as out
use Rattle.journal_types.specs.declared.Row.{Row}
use Rattle.journal_types.specs.declared.Row.TheVariants as row
use Rattle.home_laws.specs.Rows.{names, is_issue_of, is_home_of, Label, issue_row, IsIssued, IsIssuedBy, IsIssuedWith, IsAway}

-- no row names the list
abbrev pub IsSilent : ListNo → List Row → Type 0
IsSilent list rows = All (λ r. names list r ≡ false) rows

-- Each list is issued once: no row before its Issue row names it, and no row after that issues it again.
pub record IsNew (before later : List Row) (list : ListNo) : Type 0 where
  pub unnamed : IsSilent list before
  pub unissued : All (λ r. is_issue_of list r ≡ false) later

abbrev pub EachIssuedOnce : List Row → Type 0
EachIssuedOnce rows =
    (before later : List Row) (list : ListNo) (config : ConfigNo) (label : Label) →
    rows ≡ before ++ issue_row list config label ∷ later → IsNew before later list

-- Each other row that names a list stands after the list's Issue row.
abbrev pub EachNamedAfterIssue : List Row → Type 0
EachNamedAfterIssue rows =
    (before later : List Row) (r : Row) (list : ListNo) → rows ≡ before ++ r ∷ later →
    names list r ≡ true → is_issue_of list r ≡ false → (label : Label) × IsIssued before list label

-- A clone or a copy is made of a list that was issued and isn't home.
pub record IsOut (before : List Row) (list : ListNo) : Type 0 where
  pub label : Label
  pub issued : IsIssued before list label
  pub away : IsAway before list

abbrev pub IsOriginOut : List Row → Origin → Type 0
IsOriginOut before origin.Root = Unit {0}
IsOriginOut before (origin.Clone list) = IsOut before list
IsOriginOut before (origin.Copy list) = IsOut before list

abbrev pub EachOriginOut : List Row → Type 0
EachOriginOut rows =
    (before later : List Row) (list : ListNo) (config : ConfigNo) (label : Label) →
    rows ≡ before ++ issue_row list config label ∷ later → IsOriginOut before label.origin

-- A Home row of a list shows the owner of the list's Issue row, which stands before it, and no row after
-- it names the list.
pub record ComesHome (before later : List Row) (list : ListNo) (owner : ModuleId) : Type 0 where
  pub issued : IsIssuedBy before list owner
  pub silent : IsSilent list later

abbrev pub EachHomeAtOwner : List Row → Type 0
EachHomeAtOwner rows =
    (before later : List Row) (list : ListNo) (owner : ModuleId) (status : ListStatus) →
    rows ≡ before ++ row.Home list owner status ∷ later → ComesHome before later list owner

-- Each list has at most one Home row.
abbrev pub EachHomeOnce : List Row → Type 0
EachHomeOnce rows = (list : ListNo) → count_by (is_home_of list) rows ≤ 1

-- Where a row shows frames of a list, they are those of the list's Issue row, which stands before it.
abbrev pub ShowsIssued : List Row → Row → Type 0
ShowsIssued before (row.Wire list frames) = IsIssuedWith before list frames
ShowsIssued before (row.Deliver list binding how frames) = IsIssuedWith before list frames
ShowsIssued before (row.CrossOut message (out.Down list) frames) = IsIssuedWith before list frames
ShowsIssued before _ = Unit {0}

abbrev pub EachShowsIssued : List Row → Type 0
EachShowsIssued rows = (before later : List Row) (r : Row) → rows ≡ before ++ r ∷ later → ShowsIssued before r
