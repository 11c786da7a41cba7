use Rattle.std.proofs.Common.{◌≡◌, length, All}
use Rattle.buffer_pools.proofs.space.Space.make.Given as goal

abbrev pub invariant-loop : goal.invariant-loop
invariant-loop l = record { eight : length l.buffers.items ≡ l.counter; room : All (λ b. length b.bytes ≡ l.bytes) l.buffers.items }
