-- What a miniport does when it is called, in hand (WDK, "Sending Data from a Miniport Driver", "Indicating Received Data
-- from a Miniport Driver", "Canceling a Send Operation").
use Rattle.std.specs.Prelude.{◌≡◌, ◌≢◌, ℕ, ◌&&◌, Bool, true, false, List, [], ◌∷◌, ◌++◌, Option, Some, None, IsSome, length, sum_by, ◌≤◌, ◌*◌, ◌<◌, ◌^◌}
use Rattle.ndis_base.specs.declared.Direction.TheVariants as direction
use Rattle.ndis_base.specs.declared.ListNo.{ListNo}
use Rattle.ndis_base.specs.declared.ListStatus.{ListStatus}
use Rattle.ndis_base.specs.declared.ListStatus.TheVariants.{Success, Resources}
use Rattle.journal_types.specs.declared.PortSetup.{PortSetup}
use Rattle.buffer_pools.specs.Views.{ListView, PoolView, IsOf, Frees, live_count}
use Rattle.stack_rules.specs.declared.Request.{Request}
use Rattle.stack_rules.specs.Tests.{is_loop, is_virtual}
use Rattle.stack_rules.specs.OidTable.{report_of}
use Rattle.promise_rules.specs.declared.Called.TheVariants as called
use Rattle.hand_lemmas.specs.Frames.{AreSized}
use Rattle.driver_views.specs.States.{MiniportState, IsRisen, called_for, logs}
use Rattle.driver_tray.specs.Tray.{TrayView, turned_back, passed_back, noted, wired, spent, Starts}
use Rattle.driver_calls.specs.declared.answers.OidAnswer.{OidAnswer}
use Rattle.driver_calls.specs.Rooms.{CanCount, HasRoomFor, HasRoomForAll}
use Rattle.driver_calls.specs.Filters.{Cancels}

-- it refused and counted that
pub record Refuses (s s' : MiniportState) : Type 0 where
  pub same : s' ≡ record s { refusals = s'.refusals }
  pub rose : IsRisen s.refusals s'.refusals

-- it may be initialised: it is halted and keeps nothing
pub record MayInitialize (s : MiniportState) : Type 0 where
  pub port : s.port ≡ None
  pub kept : s.kept ≡ []

-- a send may be given to it
pub record MaySend (s : MiniportState) (l : ListView) (t : TrayView) : Type 0 where
  pub port : IsSome s.port
  pub count : CanCount called.Send s.did.served
  pub down : l.label.direction ≡ direction.Down
  pub room : HasRoomFor 2 1 t

-- it keeps the list in its ring, or turns it back where the ring is full
pub data Queues (s : MiniportState) (p : PortSetup) (l : ListView) (t : TrayView) (kept' : List ListView) (t' : TrayView) : Type 0 where
  keeps : length s.kept ≢ p.ring → kept' ≡ s.kept ++ l ∷ [] → t' ≡ noted t l.label.number → Queues s p l t kept' t'
  fills : length s.kept ≡ p.ring → kept' ≡ s.kept → t' ≡ turned_back t l Resources → Queues s p l t kept' t'

pub record IsQueued (s : MiniportState) (l : ListView) (t : TrayView) (s' : MiniportState) (t' : TrayView) : Type 0 where
  pub same : s' ≡ record s { did = called_for called.Send s.did; kept = s'.kept }
  pub by : (p : PortSetup) → s.port ≡ Some p → Queues s p l t s'.kept t'

-- one of its own lists may be returned to it
pub record MayReturn (s : MiniportState) (l : ListView) (t : TrayView) : Type 0 where
  pub count : CanCount called.Returned s.did.served
  pub own : IsOf t.pool l
  pub room : HasRoomFor 1 0 t

-- it takes the list home
pub record IsReturned (s : MiniportState) (l : ListView) (status : ListStatus) (t : TrayView) (s' : MiniportState) (t' : TrayView) : Type 0 where
  pub same : s' ≡ record s { did = called_for called.Returned s.did }
  pub frees : Frees t.pool l t'.pool
  pub tray : t' ≡ spent t l status t'.pool

-- it may be told to transmit: the lists that it keeps may be frames on a wire
pub record MayTransmit (s : MiniportState) (t : TrayView) : Type 0 where
  pub pool : t.pool.bytes ≡ 1518
  pub frames : (l : ListView) (rest : List ListView) → s.kept ≡ l ∷ rest → AreSized l.frames
  pub rows : 4 ≤ t.room.rows
  pub slack : 2 ≤ t.slack
  pub frame_room : 8 ≤ t.room.frames
  pub byte_room : 8 * 1518 ≤ t.room.bytes
  pub low : t.net.next.list < 2 ^ 60
  pub sent : t.net.port.sent < 2 ^ 60
  pub received : t.net.port.received < 2 ^ 60

-- a loop adapter indicates what it transmits, while the stack runs and its pool isn't full
abbrev pub IsLooping : MiniportState → Bool → TrayView → Type 0
IsLooping s running t = ((is_loop s.kind && running) ≡ true) × (live_count t.pool ≢ t.pool.size)

-- it puts its oldest list onto the wire, which is its log, and passes it back with Success; a virtual miniport transmits
-- nothing
pub data Transmits (s : MiniportState) (running : Bool) (kept : List ListView) (t : TrayView) (result : Option ListNo) (s' : MiniportState) (t' : TrayView) : Type 0 where
  idles : kept ≡ [] → result ≡ None → s' ≡ s → t' ≡ t → Transmits s running kept t result s' t'
  crosses : is_virtual s.kind ≡ true → result ≡ None → s' ≡ s → t' ≡ t → Transmits s running kept t result s' t'
  wires : (l : ListView) (rest : List ListView) → is_virtual s.kind ≡ false → kept ≡ l ∷ rest → result ≡ Some l.label.number
      → s' ≡ record s { kept = rest; did = logs l.frames s.did } → (IsLooping s running t → ⊥) → t' ≡ passed_back (wired t l) l Success → Transmits s running kept t result s' t'
  loops : (l : ListView) (rest : List ListView) (begun : TrayView) → is_virtual s.kind ≡ false → kept ≡ l ∷ rest → result ≡ Some l.label.number
      → s' ≡ record s { kept = rest; did = logs l.frames s.did } → IsLooping s running t → Starts (wired t l) direction.Up None l.frames begun → t' ≡ passed_back begun l Success
      → Transmits s running kept t result s' t'

pub record IsTransmitted (s : MiniportState) (running : Bool) (t : TrayView) (result : Option ListNo) (s' : MiniportState) (t' : TrayView) : Type 0 where
  pub by : (kept : List ListView) → s.kept ≡ kept → Transmits s running kept t result s' t'

-- it may be told to cancel
pub record MayCancel (s : MiniportState) (t : TrayView) : Type 0 where
  pub room : HasRoomForAll s.kept t

pub record IsCancelled (s : MiniportState) (id : ℕ) (t : TrayView) (s' : MiniportState) (t' : TrayView) : Type 0 where
  pub same : s' ≡ record s { kept = s'.kept }
  pub by : Cancels s.kept id t s'.kept t'

-- a request may be given to it
pub record MayAnswer (s : MiniportState) : Type 0 where
  pub port : IsSome s.port
  pub count : CanCount called.Oid s.did.served

-- it counts the call and answers by the table of OIDs
pub record IsAnswered (s : MiniportState) (r : Request) (t : TrayView) (answer : OidAnswer) (s' : MiniportState) : Type 0 where
  pub same : s' ≡ record s { did = called_for called.Oid s.did }
  pub status : answer.status ≡ (report_of t.net r).status
  pub value : answer.value ≡ (report_of t.net r).value
