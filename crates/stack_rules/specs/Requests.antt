-- OID requests (WDK, "OID Request Serialization", "Filter Module OID Requests": a filter forwards a
-- request by a clone, and each module has one request at a time).
use Rattle.std.specs.Prelude.{ℕ, ◌&&◌, ◌||◌, not, Bool, true, false, List, [], ◌∷◌, Option, Some, None, if◌then◌else◌, reverse, filter, find}
use Rattle.std.specs.List.{list_any}
use Rattle.ndis_base.specs.declared.ModuleId.{ModuleId}
use Rattle.ndis_base.specs.declared.ModuleId.TheVariants.{Miniport, Filter, Binding}
use Rattle.ndis_base.specs.declared.OidNo.{OidNo}
use Rattle.ndis_base.specs.declared.OidKind.{OidKind}
use Rattle.ndis_base.specs.declared.OidStatus.{OidStatus}
use Rattle.journal_types.specs.declared.Row.{Row}
use Rattle.journal_types.specs.declared.Row.TheVariants as row
use Rattle.journal_types.specs.declared.Reply.TheVariants as reply
use Rattle.journal_types.specs.declared.Refusal.TheVariants as refusal
use Rattle.stack_rules.specs.declared.RequestAt.{RequestAt}
use Rattle.stack_rules.specs.declared.RequestAt.TheVariants as at
use Rattle.stack_rules.specs.declared.Request.{Request}
use Rattle.stack_rules.specs.Tests.{same_module, is_unbound, phase_is_paused, phase_is_halted}
use Rattle.stack_rules.specs.Net.{Net, Modules, has_oid, first_oid}
use Rattle.stack_rules.specs.Places.{state_of}
use Rattle.stack_rules.specs.Outcome.{Outcome, refused, oid_no}
use Rattle.stack_rules.specs.OidTable.{report_of}

abbrev pub is_given_to : ModuleId → RequestAt → Bool
is_given_to m (at.Given holder) = same_module holder m
is_given_to m _ = false

abbrev pub is_waiting_at : ModuleId → RequestAt → Bool
is_waiting_at m (at.Waiting holder) = same_module holder m
is_waiting_at m _ = false

abbrev pub is_at_entry : RequestAt → Bool
is_at_entry at.Entry = true
is_at_entry _ = false

-- the module has a given request
abbrev pub is_busy : List Request → ModuleId → Bool
is_busy rs m = list_any (λ r. is_given_to m r.at) rs

abbrev pub has_waiting : List Request → ModuleId → Bool
has_waiting rs m = list_any (λ r. is_waiting_at m r.at) rs

-- the first request that waits at a module
abbrev pub first_waiting : List Request → ModuleId → Option Request
first_waiting rs m = find (λ r. is_waiting_at m r.at) rs

-- the modules that take requests, the lowest first: the miniport, and the filters with the OID pair
abbrev pub filter_ids : List ℕ → List ModuleId
filter_ids [] = []
filter_ids (f ∷ fs) = Filter f ∷ filter_ids fs

abbrev pub oid_modules : Modules → List ModuleId
oid_modules ms = Miniport ∷ filter_ids (filter (has_oid ms) (reverse ms.order))

-- a request, and the module that it is given to
pub record Giving : Type 0 where
  pub request : Request
  pub module_id : ModuleId

abbrev pub giving_to : ModuleId → Option Request → Option Giving
giving_to m None = None
giving_to m (Some r) = Some (record { request = r; module_id = m })

abbrev pub lowest_giving : List Request → List ModuleId → Option Giving
lowest_giving rs [] = None
lowest_giving rs (m ∷ ms) =
    if has_waiting rs m && not (is_busy rs m) then giving_to m (first_waiting rs m) else lowest_giving rs ms

-- the entry's first, at the topmost module that takes requests
abbrev pub entry_giving : Net → Option Giving
entry_giving net =
    if (phase_is_paused net.phase || phase_is_halted net.phase)
    || (is_busy net.requests (first_oid net.modules net.modules.order) || has_waiting net.requests (first_oid net.modules net.modules.order))
    then None
    else giving_to (first_oid net.modules net.modules.order) (find (λ r. is_at_entry r.at) net.requests)

abbrev pub or_else : Option Giving → Option Giving → Option Giving
or_else None other = other
or_else (Some g) other = Some g

-- the request that a pump works where nothing is on its way: first the lowest module with a waiting
-- request and nothing given, else the entry's first
abbrev pub next_giving : Net → Option Giving
next_giving net = or_else (lowest_giving net.requests (oid_modules net.modules)) (entry_giving net)

-- a filter forwards the request by a clone, the miniport answers it
abbrev pub given_rows_by : Net → Request → ModuleId → List Row
given_rows_by net r Miniport = row.OidDone r.request (report_of net r).status (report_of net r).value ∷ []
given_rows_by net r (Filter f) = row.OidIssue (oid_no net.next.request) (Some r.request) r.binding r.kind r.code r.value ∷ []
given_rows_by net r (Binding b) = []

abbrev pub giving_rows : Net → Giving → List Row
giving_rows net g = row.OidGive g.request.request g.module_id ∷ given_rows_by net g.request g.module_id

-- an answered clone at its filter: the original is done with the clone's answer
abbrev pub answer_rows : OidNo → OidStatus → List ℕ → List Row
answer_rows parent status value = row.OidDone parent status value ∷ []

abbrev pub ask_outcome : Net → ℕ → OidKind → ℕ → List ℕ → Outcome
ask_outcome net binding kind code value =
    if is_unbound (state_of net (Binding binding))
    then refused refusal.Unbound
    else record {
      reply = reply.Asked (oid_no net.next.request);
      rows = row.OidIssue (oid_no net.next.request) None binding kind code value ∷ [];
    }
