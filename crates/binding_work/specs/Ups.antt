-- A receive at the bindings.
use Rattle.std.specs.Prelude.{◌≡◌, ◌≤◌, Bool, true, false, List, [], ◌∷◌}
use Rattle.ndis_base.specs.declared.ListStatus.TheVariants.{Success, Paused}
use Rattle.ndis_base.specs.declared.ModuleId.TheVariants.{Binding}
use Rattle.journal_types.specs.declared.PassWay.TheVariants as way
use Rattle.journal_types.specs.declared.Target.TheVariants.{Bindings}
use Rattle.stack_rules.specs.Deliveries.{takers}
use Rattle.agenda_items.specs.declared.Carried.{Carried}
use Rattle.agenda_items.specs.declared.Carried.TheVariants.{List as a_list}
use Rattle.buffer_pools.specs.Views.{ListView, PoolView}
use Rattle.driver_tray.specs.Tray.{TrayView, turned_back, passed_back}
use Rattle.book_lemmas.specs.Views.{BookView, held_pool}
use Rattle.binding_work.specs.Sends.{called_with, binding_pooled}
use Rattle.binding_work.specs.Homes.{IsRoomed}

-- where the stack doesn't run, the list is turned back for all bindings by the first one; where it runs and nobody takes
-- the list, it goes back
abbrev pub gone_back : Bool → TrayView → PoolView → ListView → TrayView
gone_back true t pool l = passed_back (called_with t (Binding 0) pool) l Success
gone_back false t pool l = turned_back (called_with t (Binding 0) pool) l Paused

-- there is room for a turn in which a list goes back
pub record IsReadyToReturn (old new : BookView) : Type 0 where
  pub roomed : IsRoomed old new
  pub turns : 1 ≤ new.tray.room.turns
  pub rows : 2 ≤ new.tray.room.rows
  pub slack : 1 ≤ new.tray.slack

-- the first list on its way went back from the bindings
pub record HasGoneBack (running : Bool) (old new : BookView) : Type 0 where
  pub list : ListView
  pub taken : TrayView
  pub takes : old.tray ≡ record taken { queue = a_list list way.Up Bindings ∷ taken.queue }
  pub tray : new.tray ≡ record (gone_back running taken (held_pool old.held (Binding 0)) list) { pool = taken.pool }
  pub held : new.held ≡ binding_pooled old.held 0 (held_pool old.held (Binding 0))

-- no binding takes the list that is first on its way
abbrev pub IsUntaken : BookView → Type 0
IsUntaken v = (l : ListView) → (rest : List Carried) → v.tray.queue ≡ a_list l way.Up Bindings ∷ rest → takers v.tray.net l.frames ≡ []
