use Rattle.std.proofs.Common.{◌≡◌, ◌≤◌, length}
use Rattle.std.specs.VecDeque.{deque_capacity, deque_len}
use Rattle.driver_tray.specs.Tray.{each_passed_back}
use Rattle.kept_lists.proofs.emptying.pass_back_all.Given as goal

abbrev pub invariant-loop-list : goal.invariant-loop-list
invariant-loop-list l = record {
  tray : each_passed_back l.tray l.leaving.items l.status ≡ each_passed_back l.initial.tray l.initial.leaving.items l.status;
  rows : length l.leaving.items ≤ l.tray.room.rows;
  slack : length l.leaving.items ≤ l.tray.slack;
  capacity : deque_capacity l.leaving ≡ deque_capacity l.initial.leaving;
}

abbrev pub decreases-loop-list : goal.decreases-loop-list
decreases-loop-list l = deque_len l.leaving
