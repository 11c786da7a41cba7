-- Room for a turn of an answer.
use Rattle.std.specs.Prelude.{ℕ, ◌≤◌}
use Rattle.promise_rules.specs.declared.Called.TheVariants as called
use Rattle.driver_views.specs.States.{ProtocolState}
use Rattle.driver_tray.specs.Tray.{TrayView}
use Rattle.driver_calls.specs.Rooms.{CanCount}

-- there is room for a turn of so many rows, one of which shows a value of so many bytes, and for one more thing on its way
pub record IsReady (many long : ℕ) (t : TrayView) : Type 0 where
  pub turns : 1 ≤ t.room.turns
  pub rows : many ≤ t.room.rows
  pub frames : 1 ≤ t.room.frames
  pub bytes : long ≤ t.room.bytes
  pub slack : 1 ≤ t.slack

-- a protocol can be told once more that a request is done
abbrev pub CanTell : ProtocolState → Type 0
CanTell s = CanCount called.OidComplete s.did.served
