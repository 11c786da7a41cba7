use Rattle.std.proofs.Common.{◌≡◌, ◌++◌, length, take}
use Rattle.std.specs.Prelude.{sum_by}
use Rattle.flat_journal.specs.Rooms.{Uses, no_room}
use Rattle.driver_tray.proofs.tray.push_list.Given as goal

abbrev pub invariant-loop-i : goal.invariant-loop-i
invariant-loop-i l = record {
  head : l.journal.head ≡ l.fn.journal.head;
  turns : l.journal.turns ≡ l.fn.journal.turns;
  rows : l.journal.rows ≡ l.fn.journal.rows;
  payloads : l.journal.payloads ≡ record l.fn.journal.payloads { frames = l.fn.journal.payloads.frames ++ take l.i l.list.frames };
  room : Uses l.fn.journal.room l.journal.room (record no_room { frames = l.i; bytes = sum_by length (take l.i l.list.frames) });
}
