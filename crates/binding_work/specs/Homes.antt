-- A send of a binding is home.
use Rattle.std.specs.Prelude.{◌≡◌, ℕ, ◌≤◌, ◌∷◌, List, slice_index_or}
use Rattle.ndis_base.specs.declared.ListStatus.{ListStatus}
use Rattle.ndis_base.specs.declared.ModuleId.TheVariants.{Binding}
use Rattle.journal_types.specs.declared.PassWay.{PassWay}
use Rattle.journal_types.specs.declared.PassWay.TheVariants as way
use Rattle.journal_types.specs.declared.Target.{Target}
use Rattle.journal_types.specs.declared.Target.TheVariants.{Module}
use Rattle.buffer_pools.specs.Views.{ListView, PoolView, IsOf}
use Rattle.promise_rules.specs.declared.Called.TheVariants as called
use Rattle.agenda_items.specs.declared.Carried.{Carried}
use Rattle.agenda_items.specs.declared.Carried.TheVariants.{List as a_list}
use Rattle.driver_views.specs.States.{ProtocolState}
use Rattle.driver_tray.specs.Tray.{TrayView, Spends}
use Rattle.driver_calls.specs.Rooms.{CanCount}
use Rattle.driver_calls.specs.Protocols.{IsSentHome}
use Rattle.book_lemmas.specs.Views.{BookView, no_pool, no_protocol}
use Rattle.book_lemmas.specs.Called.{protocol_called}
use Rattle.flat_journal.specs.Rooms.{Covers}
use Rattle.book_parts.specs.Events.{FirstIs}
use Rattle.binding_work.specs.Sends.{called_with}

-- the first thing on its way is a list
pub record BeginsWithList (queue : List Carried) : Type 0 where
  pub list : ListView
  pub way : PassWay
  pub to : Target
  pub rest : List Carried
  pub is : queue ≡ a_list list way to ∷ rest

-- the list is passed as done
pub record IsDoneWay (w : PassWay) : Type 0 where
  pub status : ListStatus
  pub is : w ≡ way.Done status

-- the first thing on its way is a list that goes to a binding
pub record GoesToBinding (v : BookView) (binding : ℕ) : Type 0 where
  pub by : PassWay
  pub first : FirstIs v by (Module (Binding binding))

-- the first thing on its way is a list that is done, on its way to a binding
pub record IsDoneFor (v : BookView) (binding : ℕ) : Type 0 where
  pub status : ListStatus
  pub first : FirstIs v (way.Done status) (Module (Binding binding))

-- one of its sends may come home to a protocol
pub record MayComeHome (s : ProtocolState) (l : ListView) (t : TrayView) (pool : PoolView) : Type 0 where
  pub count : CanCount called.SendComplete s.did.served
  pub own : IsOf pool l
  pub rows : 1 ≤ t.room.rows

-- the protocol counted that, and the list is its pool's again
pub record ComesHome (binding : ℕ) (l : ListView) (status : ListStatus) (s : ProtocolState) (t : TrayView) (pool : PoolView) (s' : ProtocolState) (t' : TrayView) (pool' : PoolView) : Type 0 where
  pub sent : IsSentHome s s'
  pub mid : TrayView
  pub spends : Spends (called_with t (Binding binding) pool) l status mid
  pub tray : t' ≡ record mid { pool = t.pool }
  pub pool_is : pool' ≡ mid.pool

-- only room was made
pub record IsRoomed (old new : BookView) : Type 0 where
  pub tray : new.tray ≡ record old.tray { room = new.tray.room; slack = new.tray.slack }
  pub covers : Covers new.tray.room old.tray.room
  pub slack : old.tray.slack ≤ new.tray.slack
  pub held : new.held ≡ old.held

-- there is room for a turn in which a send of the binding comes home, and its protocol can count that
pub record IsReadyFor (binding : ℕ) (old new : BookView) : Type 0 where
  pub roomed : IsRoomed old new
  pub turns : 1 ≤ new.tray.room.turns
  pub rows : 1 ≤ new.tray.room.rows
  pub count : CanCount called.SendComplete (slice_index_or new.held.protocols binding no_protocol).did.served

-- the first list on its way came home to the binding
pub record HasComeHome (binding : ℕ) (old new : BookView) : Type 0 where
  pub list : ListView
  pub status : ListStatus
  pub taken : TrayView
  pub takes : old.tray ≡ record taken { queue = a_list list (way.Done status) (Module (Binding binding)) ∷ taken.queue }
  pub home : ComesHome binding list status (slice_index_or old.held.protocols binding no_protocol) taken (slice_index_or old.held.protocol_pools binding no_pool) (slice_index_or new.held.protocols binding no_protocol) new.tray (slice_index_or new.held.protocol_pools binding no_pool)
  pub held : new.held ≡ protocol_called old.held binding (slice_index_or new.held.protocols binding no_protocol) (slice_index_or new.held.protocol_pools binding no_pool)
