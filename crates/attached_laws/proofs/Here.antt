-- What is there: filters that are attached, and what goes to them.
use Rattle.std.proofs.Common.{◌≡◌, ℕ, ◌==◌, Bool, true, false, cond, List, [], ◌∷◌, ◌++◌, Option, Some, None, map, filter, find, not, refl, ap, sym, ◌∙◌}
use Rattle.ndis_base.specs.declared.ModuleId.{ModuleId}
use Rattle.ndis_base.specs.declared.ModuleId.TheVariants.{Miniport, Filter, Binding}
use Rattle.ndis_base.specs.declared.OidNo.{OidNo}
use Rattle.journal_types.specs.declared.Row.{Row}
use Rattle.journal_types.specs.declared.Row.TheVariants as row
use Rattle.journal_types.specs.declared.OutWay.TheVariants as out
use Rattle.journal_types.specs.declared.PhaseOf.TheVariants as of
use Rattle.journal_types.specs.declared.Target.{Target}
use Rattle.journal_types.specs.declared.Target.TheVariants.{Module, Bindings}
use Rattle.stack_rules.specs.declared.Attached.{Attached}
use Rattle.stack_rules.specs.declared.Request.{Request}
use Rattle.stack_rules.specs.declared.RequestAt.{RequestAt}
use Rattle.stack_rules.specs.declared.RequestAt.TheVariants as at
use Rattle.stack_rules.specs.declared.Thing.{Thing}
use Rattle.stack_rules.specs.declared.Thing.TheVariants as thing
use Rattle.stack_rules.specs.Net.{Net, Modules, attached, after, after_rows, had_by, taken_by, is_list, is_status, without_status, request_of, given_to, place_below, place_of_clone, place_of_request}
use Rattle.rule_basics.specs.Live.{EachRequest}
use Rattle.place_laws.specs.Kept.{EachStatus}
use Rattle.family_laws.proofs.Changes.{Every}
use Rattle.status_laws.proofs.Things.{each-filter, each-append, each-changed, each-kept, each-passed, each-done}

-- a module is there: a filter is attached
abbrev pub IsHere : Modules → ModuleId → Type 0
IsHere ms Miniport = Unit {0}
IsHere ms (Filter f) = (a : Attached) × (attached f ms.filters ≡ Some a)
IsHere ms (Binding b) = Unit {0}

-- what goes somewhere goes to a module that is there
abbrev pub GoesHere : Modules → Target → Type 0
GoesHere ms (Module m) = IsHere ms m
GoesHere ms Bindings = Unit {0}

-- a request that is given is given to a module that is there
abbrev pub AtHere : Modules → RequestAt → Type 0
AtHere ms (at.Given m) = IsHere ms m
AtHere ms _ = Unit {0}

-- the rows that call a module, or send a status to one, name a module that is there
abbrev pub RowIsHere : Modules → Row → Type 0
RowIsHere ms (row.Give list m handler) = IsHere ms m
RowIsHere ms (row.Home list owner status) = IsHere ms owner
RowIsHere ms (row.OidGive request m) = IsHere ms m
RowIsHere ms (row.Seen number m) = IsHere ms m
RowIsHere ms (row.Status number name to) = GoesHere ms to
RowIsHere ms _ = Unit {0}

abbrev pub AreHere : Modules → List Row → Type 0
AreHere ms rows = Every (RowIsHere ms) rows

-- statuses go to modules that are there, and such modules have the requests that are given
pub record HoldsHere (ms : Modules) (net : Net) : Type 0 where
  pub statuses : EachStatus (λ s. GoesHere ms s.to) net.things
  pub given : EachRequest (λ r. AtHere ms r.at) net.requests

requests_push : (P : Request → Type 0) (rs : List Request) (r : Request) → EachRequest P rs → P r → EachRequest P (rs ++ r ∷ [])
requests_push P [] r h p = (p, tt)
requests_push P (q ∷ rs) r h p = (h.0, requests_push P rs r h.1 p)

requests_but : (P : Request → Type 0) (n : ℕ) (rs : List Request) → EachRequest P rs → EachRequest P (filter (λ r. not (r.request.0 == n)) rs)
requests_but P n [] h = tt
requests_but P n (r ∷ rs) h =
    elim (r.request.0 == n) as (λ b. EachRequest P (cond (not b) (r ∷ filter (λ r. not (r.request.0 == n)) rs) (filter (λ r. not (r.request.0 == n)) rs))) [
      | true ↦ requests_but P n rs h.1
      | false ↦ (h.0, requests_but P n rs h.1)
    ]

requests_given : (ms : Modules) (n : ℕ) (m : ModuleId) (rs : List Request) → IsHere ms m → EachRequest (λ r. AtHere ms r.at) rs → EachRequest (λ r. AtHere ms r.at) (map (given_to n m) rs)
requests_given ms n m [] i h = tt
requests_given ms n m (r ∷ rs) i h = (by_number (r.request.0 == n), requests_given ms n m rs i h.1)
  where
    by_number : (b : Bool) → AtHere ms (cond b (record r { at = at.Given m }) r).at
    by_number true = i
    by_number false = h.0

-- a new request is given to nobody
waits_below : (ms now : Modules) (a : RequestAt) → AtHere ms (place_below now a)
waits_below ms now (at.Given Miniport) = tt
waits_below ms now (at.Given (Filter f)) = tt
waits_below ms now (at.Given (Binding b)) = tt
waits_below ms now (at.Waiting m) = tt
waits_below ms now at.Entry = tt

waits_clone : (ms now : Modules) (o : Option Request) → AtHere ms (place_of_clone now o)
waits_clone ms now None = tt
waits_clone ms now (Some parent) = waits_below ms now parent.at

waits_new : (ms now : Modules) (rs : List Request) (parent : Option OidNo) → AtHere ms (place_of_request now rs parent)
waits_new ms now rs None = tt
waits_new ms now rs (Some parent) = waits_clone ms now (request_of parent.0 rs)

-- such a row leaves it so
holds_after : (ms : Modules) (net : Net) (r : Row) → RowIsHere ms r → HoldsHere ms net → HoldsHere ms (after net r)
holds_after ms net (row.Issue list owner config direction cancel origin frames) i h = record { statuses = each-append (λ s. GoesHere ms s.to) net.things _ h.statuses tt; given = h.given }
holds_after ms net (row.Give list m handler) i h = record { statuses = each-changed (λ s. GoesHere ms s.to) list.0 (had_by m) net.things h.statuses; given = h.given }
holds_after ms net (row.Pass list way to) i h = record { statuses = each-passed (λ s. GoesHere ms s.to) list.0 way to net.things h.statuses; given = h.given }
holds_after ms net (row.Keep list m) i h = record { statuses = each-kept (λ s. GoesHere ms s.to) list.0 m net.things h.statuses; given = h.given }
holds_after ms net (row.TurnBack list m status) i h = record { statuses = each-changed (λ s. GoesHere ms s.to) list.0 (had_by m) net.things h.statuses; given = h.given }
holds_after ms net (row.Home list owner status) i h = record { statuses = each-filter (λ s. GoesHere ms s.to) (λ t. not (is_list list.0 t)) net.things h.statuses; given = h.given }
holds_after ms net (row.Wire list frames) i h = record { statuses = h.statuses; given = h.given }
holds_after ms net (row.Deliver list binding how frames) i h = record { statuses = h.statuses; given = h.given }
holds_after ms net (row.Phase (of.Module m s)) i h = record { statuses = h.statuses; given = h.given }
holds_after ms net (row.Phase (of.Stack p)) i h = record { statuses = h.statuses; given = h.given }
holds_after ms net (row.Config config filters) i h = record { statuses = h.statuses; given = h.given }
holds_after ms net (row.OidIssue request parent binding kind code value) i h = record {
  statuses = h.statuses;
  given = requests_push (λ r. AtHere ms r.at) net.requests _ h.given (waits_new ms net.modules net.requests parent);
}
holds_after ms net (row.OidGive request m) i h = record { statuses = h.statuses; given = requests_given ms request.0 m net.requests i h.given }
holds_after ms net (row.OidDone request status value) i h = record {
  statuses = each-done (λ s. GoesHere ms s.to) (request_of request.0 net.requests) request status value net.things h.statuses;
  given = requests_but (λ r. AtHere ms r.at) request.0 net.requests h.given;
}
holds_after ms net (row.Status number name to) i h = record {
  statuses = each-append (λ s. GoesHere ms s.to) (without_status number.0 net.things) (thing.Status (record { number = number; name = name; to = to }) ∷ [])
      (each-filter (λ s. GoesHere ms s.to) (λ t. not (is_status number.0 t)) net.things h.statuses) (i, tt);
  given = h.given;
}
holds_after ms net (row.Seen number m) i h = record { statuses = each-filter (λ s. GoesHere ms s.to) (λ t. not (is_status number.0 t)) net.things h.statuses; given = h.given }
holds_after ms net (row.CrossOut message (out.Down list) frames) i h = record { statuses = each-changed (λ s. GoesHere ms s.to) list.0 (taken_by message.0) net.things h.statuses; given = h.given }
holds_after ms net (row.CrossOut message out.Up frames) i h = record { statuses = h.statuses; given = h.given }
holds_after ms net (row.CrossIn stack message way frames) i h = record { statuses = h.statuses; given = h.given }

pub holds_rows : (ms : Modules) (net : Net) (rows : List Row) → AreHere ms rows → HoldsHere ms net → HoldsHere ms (after_rows net rows)
holds_rows ms net [] i h = h
holds_rows ms net (r ∷ rows) i h = holds_rows ms (after net r) rows i.1 (holds_after ms net r i.0 h)
