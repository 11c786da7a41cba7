use Rattle.std.proofs.Common.{◌≡◌, [], take}
use Rattle.unit_tests.proofs.flat_copies.flat_copy.Given as goal

abbrev pub invariant-loop-turn : goal.invariant-loop-turn
invariant-loop-turn l = record {
  head : l.flat.head ≡ l.journal.head;
  turns : l.flat.turns ≡ take l.turn-index l.journal.turns;
  rows : l.flat.rows ≡ [];
}
