use Rattle.std.proofs.Common.{◌∙◌, length-set}
use Rattle.setup_work.proofs.Protocols.{unseen_at}
use Rattle.setup_work.proofs.floors.restart_protocols.Goals as goal

pub loop-i-preserved : goal.loop-i-preserved
loop-i-preserved g c = record {
  count = length-set _ _ _ ∙ c.loop-i.invariant.count;
  same = unseen_at _ _ _ _ _ c.index_mut.ensures.value c.restart_protocol.ensures ∙ c.loop-i.invariant.same;
}
