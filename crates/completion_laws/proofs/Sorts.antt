-- The sorts of turns, by what their rows tell of requests.
use Rattle.std.proofs.Common.{◌≡◌, ℕ, Bool, List, [], ◌∷◌, Option, Some, None, ◌⊎◌, refl}
use Rattle.ndis_base.specs.declared.ModuleId.{ModuleId}
use Rattle.ndis_base.specs.declared.ModuleId.TheVariants.{Miniport, Filter, Binding}
use Rattle.ndis_base.specs.declared.OidKind.{OidKind}
use Rattle.ndis_base.specs.declared.OidStatus.{OidStatus}
use Rattle.journal_types.specs.declared.Event.{Event}
use Rattle.journal_types.specs.declared.Event.TheVariants as event
use Rattle.journal_types.specs.declared.Row.{Row}
use Rattle.journal_types.specs.declared.Row.TheVariants as row
use Rattle.stack_rules.specs.declared.Answered.{Answered}
use Rattle.stack_rules.specs.declared.Choice.{Choice}
use Rattle.stack_rules.specs.declared.Request.{Request}
use Rattle.stack_rules.specs.declared.RequestAt.TheVariants as at
use Rattle.stack_rules.specs.declared.Thing.{Thing}
use Rattle.stack_rules.specs.declared.Thing.TheVariants as thing
use Rattle.stack_rules.specs.Tests.{is_unbound}
use Rattle.stack_rules.specs.Net.{Net, told}
use Rattle.stack_rules.specs.Outcome.{Outcome, oid_no}
use Rattle.stack_rules.specs.OidTable.{report_of}
use Rattle.stack_rules.specs.Places.{agenda_first, state_of}
use Rattle.stack_rules.specs.Requests.{Giving, next_giving, giving_rows, given_rows_by, ask_outcome}
use Rattle.stack_rules.specs.Pumps.{request_pump, pump_of, pump_outcome, is_pump_moving}
use Rattle.stack_rules.specs.Drains.{drain_rows, drained, drain_outcome}
use Rattle.stack_rules.specs.Sound.{outcome}
use Rattle.state_laws.proofs.Rows.{by_test}
use Rattle.state_laws.proofs.Calm.{calm_moved, calm_status, calm_drained, calm_event}
use Rattle.request_laws.proofs.Finds.{found_by_number}
use Rattle.request_laws.proofs.Givings.{GivesNext, gives_next}
use Rattle.request_laws.proofs.Orders.{TakesRequests}
use Rattle.request_laws.proofs.Rows.{found_in, IsKept}
use Rattle.completion_laws.proofs.Tells.{AreMute}
use Rattle.completion_laws.proofs.Mutes.{calm_mute, mute_change}

-- the request waits, at the entry or at a module
abbrev pub IsWaiting : Request → ModuleId → Type 0
IsWaiting r m = (r.at ≡ at.Entry) ⊎ (r.at ≡ at.Waiting m)

-- A turn tells nothing of requests, or asks one, or answers one that was forwarded, or gives one to the miniport
-- and has its answer, or gives one to a filter that forwards it. now is the state with what the event tells.
pub data Sorts (net now : Net) : List Row → Type 0 where
  mute : (rows : List Row) → AreMute rows → Sorts net now rows
  asked : (binding : ℕ) (kind : OidKind) (code : ℕ) (value : List ℕ) → now ≡ net → Sorts net now (row.OidIssue (oid_no net.next.request) None binding kind code value ∷ [])
  done : (a : Answered) → agenda_first net ≡ Some (thing.Answer a) → now ≡ net → Sorts net now (row.OidDone a.parent a.status a.value ∷ [])
  low : (r : Request) (status : OidStatus) (value : List ℕ) → found_in net r.request.0 ≡ Some r → IsWaiting r Miniport → now ≡ net → Sorts net now (row.OidGive r.request Miniport ∷ row.OidDone r.request status value ∷ [])
  on : (r : Request) (filter : ℕ) → found_in net r.request.0 ≡ Some r → IsWaiting r (Filter filter) → now ≡ net → Sorts net now (row.OidGive r.request (Filter filter) ∷ row.OidIssue (oid_no net.next.request) (Some r.request) r.binding r.kind r.code r.value ∷ [])

sorted_ask : (net : Net) (binding : ℕ) (kind : OidKind) (code : ℕ) (value : List ℕ) → Sorts net net (ask_outcome net binding kind code value).rows
sorted_ask net binding kind code value =
    by_test (λ (o : Outcome). Sorts net net o.rows) (is_unbound (state_of net (Binding binding))) _ _ (λ _. mute [] tt) (λ _. asked binding kind code value refl)

sorted_giving : (net : Net) (k : IsKept net) (g : Giving) → GivesNext net g → Sorts net net (giving_rows net g)
sorted_giving net k g may = by g.module_id may.takes may.at
  where
    f : found_in net g.request.request.0 ≡ Some g.request
    f = found_by_number may.test net.requests g.request k.apart may.found

    by : (m : ModuleId) → TakesRequests net.modules m → IsWaiting g.request m → Sorts net net (row.OidGive g.request.request m ∷ given_rows_by net g.request m)
    by Miniport takes w = low g.request (report_of net g.request).status (report_of net g.request).value f w refl
    by (Filter filter) takes w = on g.request filter f w refl
    by (Binding b) takes w = absurd takes

sorted_request : (net : Net) (k : IsKept net) (o : Option Giving) → next_giving net ≡ o → Sorts net net (request_pump net o).rows
sorted_request net k None e = mute [] tt
sorted_request net k (Some g) e = sorted_giving net k g (gives_next net g e)

sorted_pump_of : (net : Net) (k : IsKept net) (keeps : Bool) (o : Option Thing) → agenda_first net ≡ o → Sorts net net (pump_of net keeps o).rows
sorted_pump_of net k keeps None e = sorted_request net k (next_giving net) refl
sorted_pump_of net k keeps (Some (thing.List l)) e = mute _ (calm_mute _ (calm_moved net l l.stand keeps))
sorted_pump_of net k keeps (Some (thing.Status a)) e = mute _ (calm_mute _ (calm_status net a.number a.name a.to))
sorted_pump_of net k keeps (Some (thing.Answer a)) e = done a e refl

sorted_pump : (net : Net) (k : IsKept net) (keeps : Bool) → Sorts net net (pump_outcome net keeps).rows
sorted_pump net k keeps = sorted_pump_of net k keeps (agenda_first net) refl

sorted_drain : (net : Net) (k : IsKept net) (keeps : Bool) → Sorts net net (drain_outcome net keeps).rows
sorted_drain net k keeps =
    by_test (λ (o : Outcome). Sorts net net o.rows) (is_pump_moving net) _ _ (λ _. sorted_pump net k keeps)
    (λ _. mute (drained (drain_rows net)).rows (calm_mute (drained (drain_rows net)).rows (calm_drained net)))

pub sorted : (net : Net) (k : IsKept net) (e : Event) (c : Choice) → Sorts net (told net e (outcome net e c).reply) (outcome net e c).rows
sorted net k event.Initialize c = mute _ (mute_change net event.Initialize c refl)
sorted net k (event.Insert kind position setup) c = mute _ (mute_change net (event.Insert kind position setup) c refl)
sorted net k (event.Remove f) c = mute _ (mute_change net (event.Remove f) c refl)
sorted net k (event.Replace old kind setup) c = mute _ (mute_change net (event.Replace old kind setup) c refl)
sorted net k event.BeginPause c = mute _ (mute_change net event.BeginPause c refl)
sorted net k event.PauseNext c = mute _ (mute_change net event.PauseNext c refl)
sorted net k event.RestartNext c = mute _ (mute_change net event.RestartNext c refl)
sorted net k event.Halt c = mute _ (mute_change net event.Halt c refl)
sorted net k (event.Ask binding kind code value) c = sorted_ask net binding kind code value
sorted net k event.Pump c = sorted_pump net k c.keeps
sorted net k event.Drain c = sorted_drain net k c.keeps
sorted net k e c = mute _ (calm_mute _ (calm_event net e c refl))
