use Rattle.std.proofs.Common.{arith}
use Rattle.outside_io.proofs.Pieces.{read-front}
use Rattle.outside_io.proofs.memory.MemorySourceSource.read.Goals as goal

pub returns-clause-told : goal.returns-clause-told
returns-clause-told c =
    let all = c.self.inside.bytes.items in
    let n = rw c.deref-2.ensures.value at c.min-n.ensures in
    let copied = rw c.deref-2.ensures.value at c.copy_from_slice.ensures.after in
    rw (← c.self.view_is)
    (read-front all c.copy_from_slice.new.self c.args.out.now c.self.inside.at c.min-n.result (omega (arith, c.self.inside.bytes.ok.0)) (omega (arith, n)) (omega (arith, n)) copied)
