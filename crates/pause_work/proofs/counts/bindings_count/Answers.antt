use Rattle.std.proofs.Common.{ℕ, arith}
use Rattle.ndis_base.specs.declared.ModuleId.{ModuleId}
use Rattle.book_parts.specs.Parts.{held_of}
use Rattle.pause_work.specs.Hands.{hand_count}
use Rattle.pause_work.proofs.Sums.{sum_more}
use Rattle.pause_work.proofs.counts.bindings_count.Goals as goal

pub loop-binding-preserved : goal.loop-binding-preserved
loop-binding-preserved g c =
    let of : ModuleId → ℕ = hand_count (held_of g.M.MiniportCalls.state g.P.ProtocolCalls.state g.F.FilterCalls.state c.args.book.now) in
    omega (arith, sum_more of c.loop-binding.binding, c.in_ok-count.ensures, c.in_ok-total.ensures, c.loop-binding.invariant)
