use Rattle.std.proofs.Common.{◌≡◌, replicate}
use Rattle.std.specs.Vec.{vec_capacity, vec_len}
use Rattle.stack_ledger.proofs.port.take_all_frames.Given as goal

abbrev pub invariant-loop-i : goal.invariant-loop-i
invariant-loop-i l = (l.filters.items ≡ replicate l.i 32) × ((vec_len l.filters ≡ l.i) × (vec_capacity l.filters ≡ vec_capacity l.initial.filters))
