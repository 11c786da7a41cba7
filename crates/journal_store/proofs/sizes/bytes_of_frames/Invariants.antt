use Rattle.std.proofs.Common.{◌≡◌, ◌+◌, length, drop}
use Rattle.std.specs.Prelude.{sum_by}
use Rattle.journal_store.proofs.sizes.bytes_of_frames.Given as goal

abbrev pub invariant-loop-frame : goal.invariant-loop-frame
invariant-loop-frame l = l.bytes + sum_by length (drop l.frame-index l.frame-items) ≡ sum_by length l.frame-items
