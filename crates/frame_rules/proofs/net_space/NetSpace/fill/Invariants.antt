use Rattle.std.proofs.Common.{◌≡◌, take, vec_capacity}
use Rattle.frame_rules.proofs.net_space.NetSpace.fill.Given as goal

abbrev pub invariant-loop-byte : goal.invariant-loop-byte
invariant-loop-byte l = record { items : l.self-inside.bytes.items ≡ take l.byte-index l.bytes; room : vec_capacity l.self-inside.bytes ≡ l.fn.self.room }
