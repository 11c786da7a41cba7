-- What the protocol of a binding does when it is called, in hand (WDK, "Sending Data from a Protocol Driver", "Receiving
-- Data in Protocol Drivers").
use Rattle.std.specs.Prelude.{◌≡◌, ◌≢◌, ℕ, ◌==◌, ◌≤◌, ◌<◌, ◌^◌, not, Bool, true, false, List, [], ◌∷◌, ◌++◌, Option, Some, None, filter}
use Rattle.ndis_base.specs.declared.Direction.TheVariants as direction
use Rattle.ndis_base.specs.declared.ListStatus.TheVariants.{Success}
use Rattle.frame_arena.specs.declared.FrameSpan.{FrameSpan}
use Rattle.frame_arena.specs.Spans.{frames_at, SpanWithin}
use Rattle.buffer_pools.specs.Views.{ListView, live_count}
use Rattle.stack_rules.specs.Tests.{is_echo, is_retain}
use Rattle.promise_rules.specs.declared.Called.{Called}
use Rattle.promise_rules.specs.declared.Called.TheVariants as called
use Rattle.hand_lemmas.specs.Frames.{AreSized}
use Rattle.driver_views.specs.States.{ProtocolState, called_for, logs}
use Rattle.driver_tray.specs.Tray.{TrayView, passed_back, noted, each_passed_back, Starts}
use Rattle.driver_calls.specs.Rooms.{CanCount, HasRoomForAll}
use Rattle.driver_calls.specs.Filters.{is_ready}

-- it may be opened: it is closed and keeps nothing
pub record MayOpen (s : ProtocolState) : Type 0 where
  pub is_open : s.is_open ≡ false
  pub kept : s.kept ≡ []

-- it counts a send that is done, and does nothing else
pub record IsSentHome (s s' : ProtocolState) : Type 0 where
  pub same : s' ≡ record s { did = called_for called.SendComplete s.did }

-- a list may be delivered to it, whose frames the journal has
pub record MayReceive (what : Called) (s : ProtocolState) (l : ListView) (span : FrameSpan) (t : TrayView) : Type 0 where
  pub count : CanCount what s.did.served
  pub sized : AreSized l.frames
  pub within : SpanWithin t.payloads.frames span
  pub shown : frames_at t.payloads.frames span ≡ l.frames
  pub pool : t.pool.bytes ≡ 1518
  pub rows : 3 ≤ t.room.rows
  pub slack : 2 ≤ t.slack
  pub low : t.net.next.list < 2 ^ 60
  pub received : t.net.port.received < 2 ^ 60

-- an echo protocol sends the same frames, where its pool isn't full
pub data Echoes (s : ProtocolState) (l : ListView) (t t' : TrayView) : Type 0 where
  silent : is_echo s.kind ≡ false → t' ≡ t → Echoes s l t t'
  lacking : is_echo s.kind ≡ true → live_count t.pool ≡ t.pool.size → t' ≡ t → Echoes s l t t'
  echoing : is_echo s.kind ≡ true → live_count t.pool ≢ t.pool.size → Starts t direction.Down None l.frames t' → Echoes s l t t'

-- a list that is lent to it: it logs the frames and may send an echo, and the list stays with its caller
pub record IsLent (what : Called) (s : ProtocolState) (l : ListView) (t : TrayView) (s' : ProtocolState) (t' : TrayView) : Type 0 where
  pub same : s' ≡ record s { did = logs l.frames (called_for what s.did) }
  pub echo : Echoes s l t t'

-- a list that is its own from now: it passes it back at once, or keeps it if it is a retain protocol
pub data Settles (s : ProtocolState) (l : ListView) (t : TrayView) (kept' : List ListView) (t' : TrayView) : Type 0 where
  retains : is_retain s.kind ≡ true → kept' ≡ s.kept ++ l ∷ [] → t' ≡ noted t l.label.number → Settles s l t kept' t'
  returns : kept' ≡ s.kept → t' ≡ passed_back t l Success → Settles s l t kept' t'

-- after its echo
pub record IsReceived (s : ProtocolState) (l : ListView) (t : TrayView) (s' : ProtocolState) (t' : TrayView) : Type 0 where
  pub same : s' ≡ record s { did = logs l.frames (called_for called.Receive s.did); kept = s'.kept }
  pub echoed : TrayView
  pub echo : Echoes s l t echoed
  pub settles : Settles s l echoed s'.kept t'

-- it passes back a list that it keeps, by its number, and answers whether it keeps it
pub data GivesBack (s : ProtocolState) (n : ℕ) (kept : List ListView) (t : TrayView) (result : Bool) (s' : ProtocolState) (t' : TrayView) : Type 0 where
  lacks_it : filter (λ l. l.label.number.0 == n) kept ≡ [] → result ≡ false → s' ≡ s → t' ≡ t → GivesBack s n kept t result s' t'
  gives : (front : List ListView) (l : ListView) (back : List ListView) → kept ≡ front ++ l ∷ back → l.label.number.0 ≡ n → result ≡ true
      → s' ≡ record s { kept = front ++ back } → t' ≡ passed_back t l Success → GivesBack s n kept t result s' t'

pub record IsGivenBack (s : ProtocolState) (n : ℕ) (t : TrayView) (result : Bool) (s' : ProtocolState) (t' : TrayView) : Type 0 where
  pub by : (kept : List ListView) → s.kept ≡ kept → GivesBack s n kept t result s' t'

-- a drain: a retain protocol passes back all ready lists that it keeps, the oldest first; any other does nothing
pub record ReturnsAll (kept : List ListView) (t : TrayView) (kept' : List ListView) (t' : TrayView) : Type 0 where
  pub kept_are : kept' ≡ filter (λ l. not (is_ready t.net l)) kept
  pub tray : t' ≡ each_passed_back t (filter (is_ready t.net) kept) Success

pub record IsDrained (s : ProtocolState) (t : TrayView) (s' : ProtocolState) (t' : TrayView) : Type 0 where
  pub same : s' ≡ record s { kept = s'.kept }
  pub retains : is_retain s.kind ≡ true → ReturnsAll s.kept t s'.kept t'
  pub other : is_retain s.kind ≡ false → (s' ≡ s) × (t' ≡ t)

-- it counts a status that is indicated to it, and does nothing else
pub record HearsStatus (s s' : ProtocolState) : Type 0 where
  pub same : s' ≡ record s { did = called_for called.Status s.did }

-- it counts a request of its own that is done, and does nothing else
pub record HearsAnswer (s s' : ProtocolState) : Type 0 where
  pub same : s' ≡ record s { did = called_for called.OidComplete s.did }
