-- A receive that one binding takes.
use Rattle.std.specs.Prelude.{◌≡◌, ℕ, ◌≤◌, ◌*◌, ◌∷◌, List, []}
use Rattle.ndis_base.specs.declared.ModuleId.TheVariants.{Binding}
use Rattle.journal_types.specs.declared.How.TheVariants.{Own, Lent}
use Rattle.journal_types.specs.declared.PassWay.TheVariants as way
use Rattle.journal_types.specs.declared.Target.TheVariants.{Bindings}
use Rattle.buffer_pools.specs.Views.{ListView, PoolView}
use Rattle.flat_journal.specs.Rooms.{Covers}
use Rattle.promise_rules.specs.declared.Called.TheVariants as called
use Rattle.agenda_items.specs.declared.Carried.{Carried}
use Rattle.agenda_items.specs.declared.Carried.TheVariants.{List as a_list}
use Rattle.driver_views.specs.States.{ProtocolState}
use Rattle.hand_lemmas.specs.Frames.{AreSized}
use Rattle.stack_rules.specs.Deliveries.{takers}
use Rattle.book_lemmas.specs.Views.{BookView}
use Rattle.driver_tray.specs.Tray.{TrayView, delivered, IsLow}
use Rattle.driver_calls.specs.Rooms.{CanCount}
use Rattle.driver_calls.specs.Protocols.{IsReceived, IsLent}
use Rattle.binding_work.specs.Sends.{called_with}

-- a list may be delivered to a protocol as its own
pub record MayOwn (s : ProtocolState) (l : ListView) (t : TrayView) (pool : PoolView) : Type 0 where
  pub count : CanCount called.Receive s.did.served
  pub sized : AreSized l.frames
  pub size : pool.bytes ≡ 1518
  pub rows : 4 ≤ t.room.rows
  pub slack : 2 ≤ t.slack
  pub frames : 8 ≤ t.room.frames
  pub bytes : 8 * 1518 ≤ t.room.bytes
  pub low : IsLow t.net

-- the list is delivered to the protocol of a binding
pub record Owns (b : ℕ) (l : ListView) (s : ProtocolState) (t : TrayView) (pool : PoolView) (s' : ProtocolState) (t' : TrayView) (pool' : PoolView) : Type 0 where
  pub mid : TrayView
  pub received : IsReceived s l (delivered (called_with t (Binding b) pool) l b Own) s' mid
  pub tray : t' ≡ record mid { pool = t.pool }
  pub pool_is : pool' ≡ mid.pool

-- the first thing on its way is a receive at the bindings, of the right sizes
pub record BeginsUp (queue : List Carried) : Type 0 where
  pub list : ListView
  pub rest : List Carried
  pub is : queue ≡ a_list list way.Up Bindings ∷ rest
  pub sized : AreSized list.frames

-- only room was made in the tray
pub record TrayRoomed (t t' : TrayView) : Type 0 where
  pub same : t' ≡ record t { room = t'.room; slack = t'.slack }
  pub covers : Covers t'.room t.room
  pub slack : t.slack ≤ t'.slack

-- room was made, and the first list on its way is delivered to the protocol of a binding
pub record OwnsFirst (b : ℕ) (s : ProtocolState) (t : TrayView) (pool : PoolView) (s' : ProtocolState) (t' : TrayView) (pool' : PoolView) : Type 0 where
  pub roomy : TrayView
  pub roomed : TrayRoomed t roomy
  pub turns : 1 ≤ roomy.room.turns
  pub list : ListView
  pub taken : TrayView
  pub takes : roomy ≡ record taken { queue = a_list list way.Up Bindings ∷ taken.queue }
  pub owns : Owns b list s taken pool s' t' pool'

-- one binding takes the list that is first on its way, and no other
abbrev pub IsTakenBy : BookView → ℕ → Type 0
IsTakenBy v b = (l : ListView) → (rest : List Carried) → v.tray.queue ≡ a_list l way.Up Bindings ∷ rest → takers v.tray.net l.frames ≡ b ∷ []

-- the list is lent to the protocol of a binding, and stays where it is
pub record Lends (b : ℕ) (l : ListView) (s : ProtocolState) (t : TrayView) (pool : PoolView) (s' : ProtocolState) (t' : TrayView) (pool' : PoolView) : Type 0 where
  pub mid : TrayView
  pub lent : IsLent called.ReceiveLent s l (delivered (called_with t (Binding b) pool) l b Lent) s' mid
  pub tray : t' ≡ record mid { pool = t.pool }
  pub pool_is : pool' ≡ mid.pool

-- a list may be lent to a protocol
pub record MayLend (s : ProtocolState) (l : ListView) (t : TrayView) (pool : PoolView) : Type 0 where
  pub count : CanCount called.ReceiveLent s.did.served
  pub sized : AreSized l.frames
  pub size : pool.bytes ≡ 1518
  pub rows : 4 ≤ t.room.rows
  pub slack : 2 ≤ t.slack
  pub frames : 8 ≤ t.room.frames
  pub bytes : 8 * 1518 ≤ t.room.bytes
  pub low : IsLow t.net
