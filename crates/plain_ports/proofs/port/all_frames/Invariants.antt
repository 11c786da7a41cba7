use Rattle.std.proofs.Common.{◌≡◌, replicate}
use Rattle.plain_ports.proofs.port.all_frames.Given as goal

abbrev pub invariant-loop-i : goal.invariant-loop-i
invariant-loop-i l = l.filters.items ≡ replicate l.i 32
