-- How often a journal calls each module's driver, and what its log shows.
use Rattle.std.specs.Prelude.{ℕ, ◌==◌, ◌&&◌, Bool, true, false, List, [], ◌∷◌, ◌++◌, Option, Some, None, sum_by, count_by, flat_map, if◌then◌else◌}
use Rattle.ndis_base.specs.declared.ModuleId.{ModuleId}
use Rattle.ndis_base.specs.declared.ModuleId.TheVariants.{Miniport, Filter, Binding}
use Rattle.ndis_base.specs.declared.Direction.{Direction}
use Rattle.ndis_base.specs.declared.Direction.TheVariants as direction
use Rattle.journal_types.specs.declared.Handler.{Handler}
use Rattle.journal_types.specs.declared.Handler.TheVariants as handler
use Rattle.journal_types.specs.declared.How.{How}
use Rattle.journal_types.specs.declared.How.TheVariants as how
use Rattle.journal_types.specs.declared.OutWay.TheVariants as out
use Rattle.journal_types.specs.declared.Row.{Row}
use Rattle.journal_types.specs.declared.Row.TheVariants as row
use Rattle.journal_types.specs.declared.Turn.{Turn}
use Rattle.stack_rules.specs.Tests.{same_module}
use Rattle.promise_rules.specs.Rows.{first_row, issue_of}
use Rattle.promise_rules.specs.Completions.{gives}
use Rattle.promise_rules.specs.declared.Call.{Call}
use Rattle.promise_rules.specs.declared.Called.{Called}
use Rattle.promise_rules.specs.declared.Called.TheVariants as called

-- a call of a module's driver
abbrev pub call : ModuleId → Called → List Call
call m what = record { module_id = m; what = what } ∷ []

abbrev pub called_by : Handler → Called
called_by handler.Send = called.Send
called_by handler.SendComplete = called.SendComplete
called_by handler.Receive = called.Receive
called_by handler.ReceiveLent = called.ReceiveLent
called_by handler.Returned = called.Returned

abbrev pub received_as : How → Called
received_as how.Own = called.Receive
received_as how.Lent = called.ReceiveLent

abbrev pub direction_in : Option Row → Direction
direction_in (Some (row.Issue list owner config direction cancel origin frames)) = direction
direction_in _ = direction.Lent

-- a list that is home is its owner's again: a send is complete, a receive is returned, a lent list calls nobody
abbrev pub home_call : ModuleId → Direction → List Call
home_call owner direction.Down = call owner called.SendComplete
home_call owner direction.Up = call owner called.Returned
home_call owner direction.Lent = []

abbrev pub asks : ℕ → Row → Bool
asks n (row.OidIssue request parent binding kind code value) = request.0 == n
asks n _ = false

-- a filter that was given the request completes it
abbrev pub holder_call : Option Row → List Call
holder_call (Some (row.OidGive request (Filter f))) = call (Filter f) called.OidComplete
holder_call _ = []

-- a request that is no clone completes at its binding
abbrev pub asker_call : Option Row → List Call
asker_call (Some (row.OidIssue request None binding kind code value)) = call (Binding binding) called.OidComplete
asker_call _ = []

-- the calls that a row stands for
abbrev pub calls_at : List Turn → Row → List Call
calls_at turns (row.Give list m handler) = call m (called_by handler)
calls_at turns (row.Home list owner status) = home_call owner (direction_in (issue_of turns list.0))
calls_at turns (row.Deliver list b how frames) = call (Binding b) (received_as how)
calls_at turns (row.OidGive request m) = call m called.Oid
calls_at turns (row.OidDone request status value) =
    holder_call (first_row (gives request.0) turns) ++ asker_call (first_row (asks request.0) turns)
calls_at turns (row.Seen number m) = call m called.Status
calls_at turns _ = []

abbrev pub same_called : Called → Called → Bool
same_called called.Send called.Send = true
same_called called.SendComplete called.SendComplete = true
same_called called.Receive called.Receive = true
same_called called.ReceiveLent called.ReceiveLent = true
same_called called.Returned called.Returned = true
same_called called.Oid called.Oid = true
same_called called.OidComplete called.OidComplete = true
same_called called.Status called.Status = true
same_called _ _ = false

abbrev pub is_call_of : ModuleId → Called → Call → Bool
is_call_of m what c = same_module c.module_id m && same_called c.what what

-- how often a journal calls a module's driver for this
abbrev pub served : List Turn → ModuleId → Called → ℕ
served turns m what = sum_by (λ t. sum_by (λ r. count_by (is_call_of m what) (calls_at turns r)) t.rows) turns

-- what a row adds to a module's log: a wire or a crossing to the miniport's, a delivery to a binding's
abbrev pub logged_at : ModuleId → Row → List (List (List ℕ))
logged_at Miniport (row.Wire list frames) = frames ∷ []
logged_at Miniport (row.CrossOut message (out.Down list) frames) = frames ∷ []
logged_at (Binding b) (row.Deliver list c how frames) = if c == b then frames ∷ [] else []
logged_at _ _ = []

-- the log of a module, in order
abbrev pub log_of : List Turn → ModuleId → List (List (List ℕ))
log_of turns m = flat_map (λ t. flat_map (logged_at m) t.rows) turns
