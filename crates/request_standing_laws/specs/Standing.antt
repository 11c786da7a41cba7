-- What is known of the live requests after each turn of a sound journal.
use Rattle.std.specs.Prelude.{◌≡◌, ℕ, ◌<◌, ◌≤◌, List, None, count_by}
use Rattle.std.specs.List.{Contains}
use Rattle.ndis_base.specs.declared.OidNo.{OidNo}
use Rattle.journal_types.specs.declared.Row.{Row}
use Rattle.journal_types.specs.declared.Row.TheVariants as row
use Rattle.journal_types.specs.declared.StackHead.{StackHead}
use Rattle.journal_types.specs.declared.Turn.{Turn}
use Rattle.stack_rules.specs.declared.Request.{Request}
use Rattle.stack_rules.specs.declared.RequestAt.{RequestAt}
use Rattle.stack_rules.specs.declared.RequestAt.TheVariants as at
use Rattle.stack_rules.specs.Net.{Net, seen, request_of}
use Rattle.stack_rules.specs.Sound.{Sound}
use Rattle.rule_basics.specs.Live.{EachRequest}
use Rattle.home_laws.specs.Rows.{rows_of}
use Rattle.promise_rules.specs.Completions.{gives, is_done}

-- the row that issues a request
abbrev pub issue_row : Request → Row
issue_row r = row.OidIssue r.request r.parent r.binding r.kind r.code r.value

-- where a module has the request a row gives it to that module; else no row gives it
abbrev pub IsGivenBy : List Row → OidNo → RequestAt → Type 0
IsGivenBy rows request (at.Given m) = Contains rows (row.OidGive request m)
IsGivenBy rows request _ = count_by (gives request.0) rows ≡ 0

-- The numbers of live requests lie below the next one. Each live request has an Issue row that shows it, and stands
-- where the rows gave it; it isn't done. Each number that was given out is that of a live request, or is done.
pub record RequestsStandByRows (rows : List Row) (net : Net) : Type 0 where
  pub numbered : EachRequest (λ r. (1 ≤ r.request.0) × (r.request.0 < net.next.request)) net.requests
  pub issued : EachRequest (λ r. Contains rows (issue_row r)) net.requests
  pub given : EachRequest (λ r. IsGivenBy rows r.request r.at) net.requests
  pub undone : EachRequest (λ r. count_by (is_done r.request.0) rows ≡ 0) net.requests
  pub all : (n : ℕ) → 1 ≤ n → n < net.next.request → request_of n net.requests ≡ None → 1 ≤ count_by (is_done n) rows

-- Requests stand after every sound journal.
abbrev pub EachRequestStands : Type 0
EachRequestStands = (head : StackHead) (turns : List Turn) → Sound head turns → RequestsStandByRows (rows_of turns) (seen head turns)
