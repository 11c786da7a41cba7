-- What is done at the miniport in one event.
use Rattle.std.specs.Prelude.{◌≡◌, ℕ, ◌≤◌, ◌∷◌, List, Option, Some, None, IsSome}
use Rattle.ndis_base.specs.declared.Direction.TheVariants as direction
use Rattle.ndis_base.specs.declared.ListNo.{ListNo}
use Rattle.ndis_base.specs.declared.ModuleId.TheVariants.{Miniport}
use Rattle.journal_types.specs.declared.PassWay.{PassWay}
use Rattle.journal_types.specs.declared.Reply.{Reply}
use Rattle.journal_types.specs.declared.Reply.TheVariants as reply
use Rattle.journal_types.specs.declared.Target.{Target}
use Rattle.journal_types.specs.declared.Target.TheVariants.{Module}
use Rattle.buffer_pools.specs.Views.{ListView, PoolView, IsOf}
use Rattle.flat_journal.specs.declared.types.Room.{Room}
use Rattle.flat_journal.specs.Rooms.{Covers}
use Rattle.promise_rules.specs.declared.Called.TheVariants as called
use Rattle.agenda_items.specs.declared.Carried.{Carried}
use Rattle.agenda_items.specs.declared.Carried.TheVariants.{List as a_list}
use Rattle.driver_views.specs.States.{MiniportState}
use Rattle.driver_tray.specs.Tray.{TrayView, IsLow}
use Rattle.driver_calls.specs.Rooms.{CanCount, HasRoomFor}
use Rattle.book_lemmas.specs.Views.{BookView}
use Rattle.book_parts.specs.Events.{FirstIs}

-- the tray while the miniport is called, with its pool
abbrev pub called_with : TrayView → PoolView → TrayView
called_with t pool = record t { caller = Miniport; pool = pool }

-- the miniport did so with its pool in the tray, and the pool is out again
pub record DoesWithPool (Does : TrayView → TrayView → Type 0) (t : TrayView) (pool : PoolView) (t' : TrayView) (pool' : PoolView) : Type 0 where
  pub left : TrayView
  pub does : Does (called_with t pool) left
  pub tray : t' ≡ record left { pool = t.pool }
  pub pool_is : pool' ≡ left.pool

-- a send may be given to the miniport
pub record MayGive (s : MiniportState) (l : ListView) (t : TrayView) : Type 0 where
  pub port : IsSome s.port
  pub count : CanCount called.Send s.did.served
  pub down : l.label.direction ≡ direction.Down
  pub room : HasRoomFor 3 1 t

-- one of its own lists may be given back to it
pub record MayGiveBack (s : MiniportState) (l : ListView) (t : TrayView) (pool : PoolView) : Type 0 where
  pub count : CanCount called.Returned s.did.served
  pub own : IsOf pool l
  pub room : HasRoomFor 1 0 t

-- only room was made
pub record IsRoomed (t t' : TrayView) : Type 0 where
  pub same : t' ≡ record t { room = t'.room; slack = t'.slack }
  pub covers : Covers t'.room t.room
  pub slack : t.slack ≤ t'.slack

-- the miniport's calls can be counted, and the tray has all room that an event wants
pub record IsReady (room : Room) (things : ℕ) (s : MiniportState) (t : TrayView) : Type 0 where
  pub send : CanCount called.Send s.did.served
  pub returned : CanCount called.Returned s.did.served
  pub covers : Covers t.room room
  pub slack : things ≤ t.slack
  pub low : IsLow t.net

-- the first thing on its way is a list
pub record StartsWithList (queue : List Carried) : Type 0 where
  pub list : ListView
  pub way : PassWay
  pub to : Target
  pub rest : List Carried
  pub is : queue ≡ a_list list way to ∷ rest

-- the first thing on its way is a list that goes to the miniport
pub record GoesToMiniport (v : BookView) : Type 0 where
  pub by : PassWay
  pub first : FirstIs v by (Module Miniport)

-- the answer to a transmission: the list that went onto the wire, or that there was none
abbrev pub wired_as : Option ListNo → Reply
wired_as None = reply.Idle
wired_as (Some n) = reply.Wired n
