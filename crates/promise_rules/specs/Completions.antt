-- Requests: each is given and done once at most; one that was given to a filter by that filter's clone, one that was
-- given to the miniport in the turn in which it was given (WDK, "Filter Module OID Requests").
use Rattle.std.specs.Prelude.{ℕ, ◌==◌, ◌&&◌, Bool, true, false, List, Option, Some, None, is_some, find, count_by}
use Rattle.std.specs.List.{list_all}
use Rattle.std.specs.Str.{bytes_eq}
use Rattle.ndis_base.specs.declared.ModuleId.TheVariants.{Miniport, Filter, Binding}
use Rattle.ndis_base.specs.declared.OidNo.{OidNo}
use Rattle.ndis_base.specs.declared.OidStatus.{OidStatus}
use Rattle.ndis_base.specs.declared.OidStatus.TheVariants as oid_status
use Rattle.journal_types.specs.declared.Row.{Row}
use Rattle.journal_types.specs.declared.Row.TheVariants as row
use Rattle.journal_types.specs.declared.Turn.{Turn}
use Rattle.promise_rules.specs.Rows.{first_row, count_rows}

abbrev pub is_done : ℕ → Row → Bool
is_done n (row.OidDone request status value) = request.0 == n
is_done n _ = false

abbrev pub is_of_parent : ℕ → Option OidNo → Bool
is_of_parent n None = false
is_of_parent n (Some parent) = parent.0 == n

abbrev pub is_clone : ℕ → Row → Bool
is_clone n (row.OidIssue request parent binding kind code value) = is_of_parent n parent
is_clone n _ = false

abbrev pub gives : ℕ → Row → Bool
gives n (row.OidGive request m) = request.0 == n
gives n _ = false

-- the row by which a request is done, and the one that issues its clone
abbrev pub done_of : List Turn → ℕ → Option Row
done_of turns n = first_row (is_done n) turns

abbrev pub clone_in : Option Row → Option ℕ
clone_in (Some (row.OidIssue request parent binding kind code value)) = Some request.0
clone_in _ = None

abbrev pub same_oid_status : OidStatus → OidStatus → Bool
same_oid_status oid_status.Success oid_status.Success = true
same_oid_status oid_status.NotSupported oid_status.NotSupported = true
same_oid_status oid_status.BadLength oid_status.BadLength = true
same_oid_status _ _ = false

abbrev pub same_answer_as : OidStatus → List ℕ → Option Row → Bool
same_answer_as status value (Some (row.OidDone request told answer)) = same_oid_status told status && bytes_eq answer value
same_answer_as status value _ = false

-- where it is done, its clone is done with this answer
abbrev pub same_answer : List Turn → Option Row → Option ℕ → Bool
same_answer turns (Some (row.OidDone request status value)) (Some clone) = same_answer_as status value (done_of turns clone)
same_answer turns _ _ = true

-- a request is given: to the miniport, and is done in this turn; or to a filter, which issues the one clone
-- of it in this turn and completes it with the clone's answer; or it is done once, as it was given once
abbrev pub is_answered : List Turn → List Row → Row → Bool
is_answered turns rows (row.OidGive request Miniport) = count_by (is_done request.0) rows == 1 && count_rows (is_clone request.0) turns == 0
is_answered turns rows (row.OidGive request (Filter f)) =
    count_by (is_clone request.0) rows == 1
    && (count_rows (is_clone request.0) turns == 1
    && same_answer turns (done_of turns request.0) (clone_in (find (is_clone request.0) rows)))
is_answered turns rows (row.OidGive request (Binding b)) = false
is_answered turns rows (row.OidDone request status value) =
    count_rows (is_done request.0) turns == 1 && count_rows (gives request.0) turns == 1
is_answered turns rows _ = true

-- each request completes once at most, by its own clone
abbrev pub completes_once : List Turn → Bool
completes_once turns = list_all (λ t. list_all (is_answered turns t.rows) t.rows) turns

abbrev pub is_completed : List Turn → Row → Bool
is_completed turns (row.OidIssue request parent binding kind code value) = is_some (done_of turns request.0)
is_completed turns _ = true

-- each request is done
abbrev pub are_completed : List Turn → Bool
are_completed turns = list_all (λ t. list_all (is_completed turns) t.rows) turns
