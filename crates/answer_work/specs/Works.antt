-- A request is done: at a filter by the answer to the clone of it, and at the miniport at once.
use Rattle.std.specs.Prelude.{◌≡◌, ℕ, ◌≤◌, Option, Some, None}
use Rattle.ndis_base.specs.declared.ModuleId.TheVariants.{Miniport, Filter}
use Rattle.stack_rules.specs.declared.Answered.{Answered}
use Rattle.stack_rules.specs.declared.Request.{Request}
use Rattle.stack_rules.specs.declared.RequestAt.{RequestAt}
use Rattle.stack_rules.specs.declared.RequestAt.TheVariants as at
use Rattle.stack_rules.specs.OidTable.{report_of}
use Rattle.promise_rules.specs.declared.Called.TheVariants as called
use Rattle.driver_views.specs.States.{FilterState, MiniportState, called_for}
use Rattle.driver_tray.specs.Tray.{TrayView, request_given, completed}
use Rattle.driver_calls.specs.Filters.{IsFinished}
use Rattle.filter_work.specs.Works.{IsRoomed}

-- the filter that has a request
abbrev pub holder_in : RequestAt → Option ℕ
holder_in (at.Given (Filter f)) = Some f
holder_in _ = None

-- the filter completes the request that it forwarded, with the clone's status and value
abbrev pub Finishes : ℕ → Answered → FilterState → TrayView → FilterState → TrayView → Type 0
Finishes f a s t s' t' = IsFinished s a.parent a.status a.value (record t { caller = Filter f }) s' t'

-- room was made, and the filter did so
pub record FinishesFirst (f : ℕ) (a : Answered) (s : FilterState) (t : TrayView) (s' : FilterState) (t' : TrayView) : Type 0 where
  pub begun : TrayView
  pub roomed : IsRoomed t begun
  pub turns : 1 ≤ begun.room.turns
  pub finishes : Finishes f a s begun s' t'

-- the tray once the miniport was given the request and it is done, as the table of OIDs has it
abbrev pub reported : Request → TrayView → TrayView
reported r t = completed (request_given (record t { caller = Miniport }) r.request Miniport) r.request (report_of t.net r).status (report_of t.net r).value

-- the miniport counted the call
abbrev pub asked : MiniportState → MiniportState
asked s = record s { did = called_for called.Oid s.did }

-- the miniport answers the request
pub record Reports (r : Request) (s : MiniportState) (t : TrayView) (s' : MiniportState) (t' : TrayView) : Type 0 where
  pub same : s' ≡ asked s
  pub tray : t' ≡ reported r t
