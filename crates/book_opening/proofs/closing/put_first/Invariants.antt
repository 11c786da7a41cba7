use Rattle.std.proofs.Common.{◌≡◌, ◌+◌, ◌≤◌, ◌++◌, length}
use Rattle.std.specs.Vec.{vec_capacity}
use Rattle.book_opening.proofs.closing.put_first.Given as goal

abbrev pub invariant-loop-item : goal.invariant-loop-item
invariant-loop-item g l = record {
  room : length l.items.items + length l.those.items ≤ vec_capacity l.items;
  all : l.those.items ++ l.items.items ≡ l.initial.those.items ++ l.initial.items.items;
}

abbrev pub decreases-loop-item : goal.decreases-loop-item
decreases-loop-item g l = length l.those.items
