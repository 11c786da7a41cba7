-- Room for a turn of a request.
use Rattle.std.specs.Prelude.{ℕ, ◌≤◌, List, length}
use Rattle.driver_tray.specs.Tray.{TrayView, HasNumbers}

-- there is room for a turn of so many rows, one of which may show this value, and for one more request or thing on its way,
-- and requests have numbers
pub record IsReady (rows : ℕ) (value : List ℕ) (t : TrayView) : Type 0 where
  pub turns : 1 ≤ t.room.turns
  pub room : rows ≤ t.room.rows
  pub frames : 1 ≤ t.room.frames
  pub bytes : length value ≤ t.room.bytes
  pub slack : 1 ≤ t.slack
  pub numbers : HasNumbers t.net
