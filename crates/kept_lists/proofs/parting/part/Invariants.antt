use Rattle.std.proofs.Common.{◌≡◌, ◌+◌}
use Rattle.std.specs.VecDeque.{deque_capacity, deque_len}
use Rattle.kept_lists.specs.Kept.{leaves}
use Rattle.kept_lists.proofs.Parted.{IsParted}
use Rattle.kept_lists.proofs.parting.part.Given as goal

abbrev pub invariant-loop-i : goal.invariant-loop-i
invariant-loop-i l = record {
  parted : IsParted (leaves l.tray.net l.id) l.fn.kept.items l.kept.items l.leaving.items l._i;
  all : deque_len l.kept + deque_len l.leaving ≡ deque_len l.fn.kept;
  kept_capacity : deque_capacity l.kept ≡ deque_capacity l.fn.kept;
  leaving_capacity : deque_capacity l.leaving ≡ deque_capacity l.fn.leaving;
}
