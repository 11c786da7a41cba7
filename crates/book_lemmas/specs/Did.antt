-- What drivers of every kind did while rows were written: how often they were called and what their logs show. The
-- calls of a row are told by the state before it, in the words in which calls are promised of journals.
use Rattle.std.specs.Prelude.{◌≡◌, ℕ, ◌+◌, ◌≤◌, List, [], ◌∷◌, ◌++◌, Option, Some, None, count_by, flat_map, map, slice_index_or}
use Rattle.ndis_base.specs.declared.Direction.{Direction}
use Rattle.ndis_base.specs.declared.Direction.TheVariants as direction
use Rattle.ndis_base.specs.declared.ModuleId.{ModuleId}
use Rattle.ndis_base.specs.declared.ModuleId.TheVariants.{Miniport, Filter, Binding}
use Rattle.ndis_base.specs.declared.OidNo.{OidNo}
use Rattle.journal_types.specs.declared.Row.{Row}
use Rattle.journal_types.specs.declared.Row.TheVariants as row
use Rattle.journal_types.specs.declared.Turn.{Turn}
use Rattle.stack_rules.specs.declared.LiveList.{LiveList}
use Rattle.stack_rules.specs.declared.Request.{Request}
use Rattle.stack_rules.specs.declared.RequestAt.{RequestAt}
use Rattle.stack_rules.specs.declared.RequestAt.TheVariants as at
use Rattle.stack_rules.specs.Net.{Net, after, told, after_turn, lists, list_of, request_of}
use Rattle.promise_rules.specs.declared.Call.{Call}
use Rattle.promise_rules.specs.declared.Called.{Called}
use Rattle.promise_rules.specs.declared.Called.TheVariants as called
use Rattle.promise_rules.specs.Calls.{call, called_by, received_as, home_call, is_call_of, logged_at}
use Rattle.book_lemmas.specs.Views.{HeldView, filter_at, no_protocol, seat_of, IsVacant}
use Rattle.driver_views.specs.States.{Record, times}

-- the direction of a live list
abbrev pub direction_of : Option LiveList → Direction
direction_of None = direction.Lent
direction_of (Some l) = l.direction

-- a filter that was given the request completes it, and a request that is no clone completes at its binding
abbrev pub holder_now : RequestAt → List Call
holder_now (at.Given (Filter f)) = call (Filter f) called.OidComplete
holder_now _ = []

-- so does the binding of a request that is no clone
abbrev pub asker_now : Option OidNo → ℕ → List Call
asker_now None binding = call (Binding binding) called.OidComplete
asker_now (Some parent) binding = []

-- the calls by which a request is done
abbrev pub completes : Option Request → List Call
completes None = []
completes (Some r) = holder_now r.at ++ asker_now r.parent r.binding

-- the calls that a row stands for in this state
abbrev pub calls_now : Net → Row → List Call
calls_now net (row.Give list m handler) = call m (called_by handler)
calls_now net (row.Home list owner status) = home_call owner (direction_of (list_of list.0 (lists net.things)))
calls_now net (row.Deliver list b how frames) = call (Binding b) (received_as how)
calls_now net (row.OidGive request m) = call m called.Oid
calls_now net (row.OidDone request status value) = completes (request_of request.0 net.requests)
calls_now net (row.Seen number m) = call m called.Status
calls_now net _ = []

-- the calls of rows, one after the other, and what they add to a module's log
abbrev pub calls_in : Net → List Row → List Call
calls_in net [] = []
calls_in net (r ∷ rows) = calls_now net r ++ calls_in (after net r) rows

-- the calls of a journal, each told by the state before its row
abbrev pub calls_of : Net → List Turn → List Call
calls_of net [] = []
calls_of net (t ∷ ts) = calls_in (told net t.event t.reply) t.rows ++ calls_of (after_turn net t) ts

-- what rows add to the log of a module
abbrev pub logs_in : ModuleId → List Row → List (List (List ℕ))
logs_in m rows = flat_map (logged_at m) rows

-- the driver of a module counted each call of it, and logged what the rows log; nothing else
pub record IsServed (m : ModuleId) (net : Net) (rows : List Row) (old new : Record) : Type 0 where
  pub calls : (what : Called) → times new.served what ≡ times old.served what + count_by (is_call_of m what) (calls_in net rows)
  pub log : new.log ≡ old.log ++ logs_in m rows

-- a driver that no module has was not called
pub record IsIdle (old new : Record) : Type 0 where
  pub calls : (what : Called) → times new.served what ≡ times old.served what
  pub log : new.log ≡ old.log

-- no driver's count of refusals fell, and the filters' drivers are of the kinds that they were
pub record KeepsCounts (old new : HeldView) : Type 0 where
  pub miniport : old.miniport.refusals ≤ new.miniport.refusals
  pub filters : (place : ℕ) → (filter_at old.filters (Some place)).refusals ≤ (filter_at new.filters (Some place)).refusals
  pub kinds : map (λ s. s.kind) new.filters ≡ map (λ s. s.kind) old.filters

-- the drivers did what the rows say, and nothing else; the filters by the seats that they had as the turn began
pub record Did (seats : List (ℕ × ℕ)) (old new : HeldView) (net : Net) (rows : List Row) : Type 0 where
  pub miniport : IsServed Miniport net rows old.miniport.did new.miniport.did
  pub protocols : (i : ℕ) → IsServed (Binding i) net rows (slice_index_or old.protocols i no_protocol).did (slice_index_or new.protocols i no_protocol).did
  pub filters : (f place : ℕ) → seat_of seats f ≡ Some place → IsServed (Filter f) net rows (filter_at old.filters (Some place)).did (filter_at new.filters (Some place)).did
  pub shelved : (place : ℕ) → IsVacant seats place → IsIdle (filter_at old.filters (Some place)).did (filter_at new.filters (Some place)).did
  pub keeps : KeepsCounts old new
