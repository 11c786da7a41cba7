-- Room for a turn of a status.
use Rattle.std.specs.Prelude.{ℕ, ◌≤◌}
use Rattle.promise_rules.specs.declared.Called.TheVariants as called
use Rattle.driver_views.specs.States.{ProtocolState}
use Rattle.driver_tray.specs.Tray.{TrayView, HasNumbers}
use Rattle.driver_calls.specs.Rooms.{CanCount}

-- there is room for a turn of so many rows, and for so many more things on their way, and statuses have numbers
pub record IsReady (rows ways : ℕ) (t : TrayView) : Type 0 where
  pub turns : 1 ≤ t.room.turns
  pub room : rows ≤ t.room.rows
  pub slack : ways ≤ t.slack
  pub numbers : HasNumbers t.net

-- a protocol can count one more status
abbrev pub CanHear : ProtocolState → Type 0
CanHear s = CanCount called.Status s.did.served
