use Rattle.std.proofs.Common.{◌≡◌, ◌++◌, [], take, length}
use Rattle.std.specs.List.{concat}
use Rattle.ndis_journal.proofs.text.push_lines.Given as goal

abbrev pub invariant-loop-out : goal.invariant-loop-out
invariant-loop-out l = record {
  empty : l.page ≡ [];
  whole : l.out.items ++ concat l.lines ≡ l.initial.out.items ++ concat l.initial.lines;
  grows : take (length l.initial.out.items) l.out.items ≡ l.initial.out.items;
}

abbrev pub decreases-loop-out : goal.decreases-loop-out
decreases-loop-out l = length l.lines
