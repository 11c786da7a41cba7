use Rattle.std.proofs.Common.{◌≡◌, ◌+◌, ◌++◌, take, vec_len}
use Rattle.std.specs.Prelude.{vec_capacity}
use Rattle.flat_journal.proofs.journal.push_all.Given as goal

abbrev pub invariant-loop-number : goal.invariant-loop-number
invariant-loop-number l = record {
  done : l.numbers.items ≡ l.fn.numbers.items ++ take l.number-index l.more;
  len : vec_len l.numbers ≡ vec_len l.fn.numbers + l.number-index;
  capacity : vec_capacity l.numbers ≡ vec_capacity l.fn.numbers;
}
