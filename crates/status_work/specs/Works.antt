-- A status at a filter.
use Rattle.std.specs.Prelude.{ℕ, ◌≤◌}
use Rattle.ndis_base.specs.declared.ModuleId.TheVariants.{Filter}
use Rattle.stack_rules.specs.declared.StatusAway.{StatusAway}
use Rattle.driver_views.specs.States.{FilterState}
use Rattle.driver_tray.specs.Tray.{TrayView, seen_at}
use Rattle.driver_calls.specs.Filters.{IsSeenBy}
use Rattle.filter_work.specs.Works.{IsRoomed}

-- the filter saw the status, counted that, and indicated it further up
abbrev pub Sees : ℕ → StatusAway → FilterState → TrayView → FilterState → TrayView → Type 0
Sees f status s t s' t' = IsSeenBy s status.number status.name (seen_at (record t { caller = Filter f }) status.number (Filter f)) s' t'

-- room was made, and the filter did so
pub record SeesFirst (f : ℕ) (status : StatusAway) (s : FilterState) (t : TrayView) (s' : FilterState) (t' : TrayView) : Type 0 where
  pub begun : TrayView
  pub roomed : IsRoomed t begun
  pub turns : 1 ≤ begun.room.turns
  pub sees : Sees f status s begun s' t'
