use Rattle.std.proofs.Common.{◌≤◌, arith}
use Rattle.frame_rules.proofs.Tags.{remove-four}
use Rattle.frame_rules.proofs.net_space.NetSpace.pop_tag.Goals as goal

pub returns-clause-bytes : goal.returns-clause-bytes
returns-clause-bytes c = remove-four _ _ _ _ _ (omega arith) c.take_out.ensures.bytes c.take_out-2.ensures.bytes c.take_out-3.ensures.bytes c.take_out-4.ensures.bytes
