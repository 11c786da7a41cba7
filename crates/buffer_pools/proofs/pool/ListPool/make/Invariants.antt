use Rattle.std.proofs.Common.{◌≡◌, ◌≤◌, vec_len, All}
use Rattle.std.specs.Prelude.{vec_capacity}
use Rattle.buffer_pools.proofs.pool.ListPool.make.Given as goal

abbrev pub invariant-loop : goal.invariant-loop
invariant-loop l = record { length : vec_len l.spare ≡ l.counter; room : l.lists ≤ vec_capacity l.spare; bytes : All (λ s. s.bytes ≡ l.bytes) l.spare.items }
