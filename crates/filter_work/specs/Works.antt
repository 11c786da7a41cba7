-- What is done with a list at a filter in one event.
use Rattle.std.specs.Prelude.{true, false, ◌≡◌, ◌≢◌, ℕ, ◌≤◌, ◌*◌, List, ◌∷◌, IsSome}
use Rattle.ndis_base.specs.declared.Direction.{Direction}
use Rattle.ndis_base.specs.declared.Direction.TheVariants as direction
use Rattle.ndis_base.specs.declared.ListStatus.{ListStatus}
use Rattle.ndis_base.specs.declared.ListStatus.TheVariants.{Paused}
use Rattle.ndis_base.specs.declared.ModuleId.TheVariants.{Filter}
use Rattle.journal_types.specs.declared.Handler.{Handler}
use Rattle.journal_types.specs.declared.Handler.TheVariants as handler
use Rattle.journal_types.specs.declared.PassWay.{PassWay}
use Rattle.journal_types.specs.declared.PassWay.TheVariants as way
use Rattle.journal_types.specs.declared.Target.{Target}
use Rattle.journal_types.specs.declared.Target.TheVariants.{Module}
use Rattle.buffer_pools.specs.Views.{ListView, PoolView, IsOf}
use Rattle.flat_journal.specs.Rooms.{Covers}
use Rattle.stack_rules.specs.Places.{state_of}
use Rattle.stack_rules.specs.Tests.{is_running}
use Rattle.promise_rules.specs.declared.Called.{Called}
use Rattle.promise_rules.specs.declared.Called.TheVariants as called
use Rattle.agenda_items.specs.declared.Carried.{Carried}
use Rattle.agenda_items.specs.declared.Carried.TheVariants.{List as a_list}
use Rattle.hand_lemmas.specs.Frames.{AreSized}
use Rattle.driver_views.specs.States.{FilterState}
use Rattle.driver_tray.specs.Tray.{TrayView, IsLow, given, turned_back}
use Rattle.driver_calls.specs.Rooms.{CanCount}
use Rattle.driver_calls.specs.Filters.{IsHandled, IsCompleted}
use Rattle.book_lemmas.specs.Views.{BookView}
use Rattle.book_parts.specs.Events.{FirstIs}

-- the first thing on its way is a list that goes to this filter
pub record GoesTo (v : BookView) (f : ℕ) : Type 0 where
  pub by : PassWay
  pub first : FirstIs v by (Module (Filter f))

-- the tray while a filter is called, with its pool
abbrev pub called_with : TrayView → ℕ → PoolView → TrayView
called_with t f pool = record t { caller = Filter f; pool = pool }

-- a send goes down and comes back done; a receive goes up and comes back
abbrev pub GoesAs : PassWay → Direction → Type 0
GoesAs way.Down d = d ≡ direction.Down
GoesAs way.Up d = d ≡ direction.Up
GoesAs (way.Done status) d = d ≡ direction.Down
GoesAs (way.Back status) d = d ≡ direction.Up

-- the first thing on its way is a list
pub record StartsWithList (queue : List Carried) : Type 0 where
  pub list : ListView
  pub by : PassWay
  pub to : Target
  pub rest : List Carried
  pub is : queue ≡ a_list list by to ∷ rest

-- the list may be worked at this filter: one of its own is a live one of its pool
pub record MayTake (by : PassWay) (f : ℕ) (s : FilterState) (l : ListView) (pool : PoolView) : Type 0 where
  pub setup : IsSome s.setup
  pub sized : AreSized l.frames
  pub bytes : pool.bytes ≡ 1518
  pub goes : GoesAs by l.label.direction
  pub own : l.label.owner ≡ Filter f → IsOf pool l

-- a list is the first thing on its way, and may be worked at this filter
pub record MayWork (f : ℕ) (s : FilterState) (t : TrayView) (pool : PoolView) : Type 0 where
  pub list : ListView
  pub by : PassWay
  pub to : Target
  pub rest : List Carried
  pub is : t.queue ≡ a_list list by to ∷ rest
  pub take : MayTake by f s list pool

-- only room was made
pub record IsRoomed (t t' : TrayView) : Type 0 where
  pub same : t' ≡ record t { room = t'.room; slack = t'.slack }
  pub covers : Covers t'.room t.room
  pub slack : t.slack ≤ t'.slack

-- the filter's calls can be counted, and the tray has the room that a list at a filter wants
pub record IsReady (s : FilterState) (t : TrayView) : Type 0 where
  pub send : CanCount called.Send s.did.served
  pub send_complete : CanCount called.SendComplete s.did.served
  pub receive : CanCount called.Receive s.did.served
  pub returned : CanCount called.Returned s.did.served
  pub turns : 1 ≤ t.room.turns
  pub rows : 4 ≤ t.room.rows
  pub frames : 8 ≤ t.room.frames
  pub bytes : 8 * 1518 ≤ t.room.bytes
  pub slack : 1 ≤ t.slack
  pub low : IsLow t.net

-- a receive is given to a filter that runs; at any other the stack itself turns it back
pub data Climbs (s : FilterState) (l : ListView) (t : TrayView) (s' : FilterState) (left : TrayView) : Type 0 where
  rises : is_running (state_of t.net t.caller) ≡ true → IsHandled called.Receive s l (given t l.label.number handler.Receive) s' left → Climbs s l t s' left
  stops : is_running (state_of t.net t.caller) ≡ false → s' ≡ s → left ≡ turned_back t l Paused → Climbs s l t s' left

-- a list on its way home is given to a filter that doesn't own it; at its owner it ends its way, and no Give row is written
pub data GoesHome (what : Called) (by : Handler) (s : FilterState) (l : ListView) (status : ListStatus) (t : TrayView) (s' : FilterState) (left : TrayView) : Type 0 where
  returns : l.label.owner ≢ t.caller → IsCompleted what s l status (given t l.label.number by) s' left → GoesHome what by s l status t s' left
  ends : l.label.owner ≡ t.caller → IsCompleted what s l status t s' left → GoesHome what by s l status t s' left

-- what is done with the list, by the way that it goes
abbrev pub Takes : PassWay → FilterState → ListView → TrayView → FilterState → TrayView → Type 0
Takes way.Down s l t s' left = IsHandled called.Send s l (given t l.label.number handler.Send) s' left
Takes way.Up s l t s' left = Climbs s l t s' left
Takes (way.Done status) s l t s' left = GoesHome called.SendComplete handler.SendComplete s l status t s' left
Takes (way.Back status) s l t s' left = GoesHome called.Returned handler.Returned s l status t s' left

-- the filter took a list so, with its pool in the tray, and the pool is out again
pub record Works (f : ℕ) (by : PassWay) (s : FilterState) (l : ListView) (t : TrayView) (pool : PoolView) (s' : FilterState) (t' : TrayView) (pool' : PoolView) : Type 0 where
  pub left : TrayView
  pub takes : Takes by s l (called_with t f pool) s' left
  pub tray : t' ≡ record left { pool = t.pool }
  pub pool_is : pool' ≡ left.pool

-- room was made, and the first list on its way was worked
pub record WorksFirst (f : ℕ) (s : FilterState) (t : TrayView) (pool : PoolView) (s' : FilterState) (t' : TrayView) (pool' : PoolView) : Type 0 where
  pub begun : TrayView
  pub roomed : IsRoomed t begun
  pub turns : 1 ≤ begun.room.turns
  pub list : ListView
  pub by : PassWay
  pub to : Target
  pub rest : List Carried
  pub first : begun.queue ≡ a_list list by to ∷ rest
  pub works : Works f by s list (record begun { queue = rest }) pool s' t' pool'
