-- Room in the tray for one call of a driver.
use Rattle.std.specs.Prelude.{ℕ, ◌≤◌, ◌<◌, ◌*◌, ◌^◌, length, List}
use Rattle.buffer_pools.specs.Views.{ListView}
use Rattle.promise_rules.specs.declared.Called.{Called}
use Rattle.driver_views.specs.declared.Served.{Served}
use Rattle.driver_views.specs.States.{times}
use Rattle.driver_tray.specs.Tray.{TrayView}

-- the call can be counted
abbrev pub CanCount : Called → Served → Type 0
CanCount what s = times s what < 2 ^ 62

-- for so many rows, and so many more lists on their way
pub record HasRoomFor (many ways : ℕ) (t : TrayView) : Type 0 where
  pub rows : many ≤ t.room.rows
  pub slack : ways ≤ t.slack

-- for the rows of a new list too: the frames of one list, and a number
pub record HasRoomForNew (many ways : ℕ) (t : TrayView) : Type 0 where
  pub rows : many ≤ t.room.rows
  pub slack : ways ≤ t.slack
  pub frames : 8 ≤ t.room.frames
  pub bytes : 8 * 1518 ≤ t.room.bytes
  pub low : t.net.next.list < 2 ^ 60
  pub received : t.net.port.received < 2 ^ 60

-- for two rows of each list that a module keeps
abbrev pub HasRoomForAll : List ListView → TrayView → Type 0
HasRoomForAll kept t = HasRoomFor (2 * length kept) (length kept) t
