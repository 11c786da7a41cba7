use Rattle.std.proofs.Common.{◌≡◌, take}
use Rattle.journal_lines.specs.Counted.{rows_of}
use Rattle.ndis_journal.specs.Counted.{test_of}
use Rattle.ndis_journal.proofs.counts.count_rows.Given as goal

abbrev pub invariant-loop-turn : goal.invariant-loop-turn
invariant-loop-turn l = l.count ≡ rows_of (test_of l.counted) (take l.turn-index l.turns)
