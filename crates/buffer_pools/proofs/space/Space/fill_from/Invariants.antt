use Rattle.std.proofs.Common.{◌≡◌, map, take, length, All}
use Rattle.net_buffer.specs.Buffer.{data_of}
use Rattle.buffer_pools.proofs.space.Space.fill_from.Given as goal

abbrev pub invariant-loop-i : goal.invariant-loop-i
invariant-loop-i l = record {
  bytes : l.self-inside.bytes ≡ l.fn.self.bytes;
  eight : length l.self-inside.buffers.items ≡ 8;
  room : All (λ b. length b.bytes ≡ l.self-inside.bytes) l.self-inside.buffers.items;
  filled : map data_of (take l.i l.self-inside.buffers.items) ≡ take l.i l.other.frames;
}
