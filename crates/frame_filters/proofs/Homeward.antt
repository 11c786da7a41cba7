-- What becomes of a list on its way home depends on the kept lists alone.
use Rattle.std.proofs.Common.{List}
use Rattle.ndis_base.specs.declared.ListStatus.{ListStatus}
use Rattle.buffer_pools.specs.Views.{ListView}
use Rattle.driver_views.specs.States.{FilterState}
use Rattle.driver_tray.specs.Tray.{TrayView}
use Rattle.driver_calls.specs.Filters.{Completes}
use Rattle.driver_calls.specs.Filters.Completes.{passes_back, releases, homes}
use Rattle.frame_filters.specs.Filters.{keeping}

pub completes_as : (s : FilterState) (l : ListView) (status : ListStatus) (t : TrayView) (kept' : List ListView) (t' : TrayView) → Completes (keeping s.kept) l status t kept' t' → Completes s l status t kept' t'
completes_as s l status t kept' t' (passes_back other k w) = passes_back other k w
completes_as s l status t kept' t' (releases o pool own from frees k w) = releases o pool own from frees k w
completes_as s l status t kept' t' (homes pool own from frees k w) = homes pool own from frees k w
