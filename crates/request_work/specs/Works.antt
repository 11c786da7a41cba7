-- A request at a filter.
use Rattle.std.specs.Prelude.{ℕ, ◌≤◌}
use Rattle.ndis_base.specs.declared.ModuleId.TheVariants.{Filter}
use Rattle.stack_rules.specs.declared.Request.{Request}
use Rattle.driver_views.specs.States.{FilterState}
use Rattle.driver_tray.specs.Tray.{TrayView, request_given}
use Rattle.driver_calls.specs.Filters.{IsForwarded}
use Rattle.filter_work.specs.Works.{IsRoomed}

-- the filter was given the request, counted that, and forwarded it by a clone
abbrev pub Forwards : ℕ → Request → FilterState → TrayView → FilterState → TrayView → Type 0
Forwards f request s t s' t' = IsForwarded s request (request_given (record t { caller = Filter f }) request.request (Filter f)) s' t'

-- room was made, and the filter did so
pub record ForwardsFirst (f : ℕ) (request : Request) (s : FilterState) (t : TrayView) (s' : FilterState) (t' : TrayView) : Type 0 where
  pub begun : TrayView
  pub roomed : IsRoomed t begun
  pub turns : 1 ≤ begun.room.turns
  pub forwards : Forwards f request s begun s' t'
