use Rattle.std.proofs.Common.{◌≡◌, ◌+◌, drop}
use Rattle.std.specs.Prelude.{sum_by}
use Rattle.journal_store.specs.Sizes.{row_bytes}
use Rattle.journal_store.proofs.sizes.bytes_of_rows.Given as goal

abbrev pub invariant-loop-row : goal.invariant-loop-row
invariant-loop-row l = l.bytes + sum_by row_bytes (drop l.row-index l.rows) ≡ sum_by row_bytes l.rows
