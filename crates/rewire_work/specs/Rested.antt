-- A stack that is Paused, between turns.
use Rattle.std.specs.Prelude.{◌≡◌, ◌≤◌, [], length}
use Rattle.flat_journal.specs.Rooms.{Covers}
use Rattle.stack_rules.specs.Net.{Net, lists}
use Rattle.place_laws.specs.Kept.{IsOrdered}
use Rattle.state_laws.specs.Shape.{IsWired}
use Rattle.driver_tray.specs.Tray.{TrayView}

-- no list is live, the filters of the order are attached, and there are 16 of them at most
pub record IsAtRest (net : Net) : Type 0 where
  pub nothing : lists net.things ≡ []
  pub wired : IsWired net.next.filter net.modules
  pub few : length net.modules.order ≤ 16
  pub as_many : length net.modules.filters ≡ length net.modules.order
  pub ordered : IsOrdered net.modules

-- only room was made
pub record IsRoomed (t t' : TrayView) : Type 0 where
  pub same : t' ≡ record t { room = t'.room; slack = t'.slack }
  pub covers : Covers t'.room t.room
  pub slack : t.slack ≤ t'.slack

-- there is the room that a change of the filters wants
pub record IsReady (t : TrayView) : Type 0 where
  pub turns : 1 ≤ t.room.turns
  pub rows : 4 ≤ t.room.rows
  pub filters : 16 ≤ t.room.filters
