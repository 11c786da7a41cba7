use Rattle.std.proofs.Common.{◌≤◌, arith}
use Rattle.frame_rules.proofs.Tags.{insert-four}
use Rattle.frame_rules.proofs.net_space.NetSpace.push_tag.Goals as goal

pub returns-clause-bytes : goal.returns-clause-bytes
returns-clause-bytes c = insert-four _ _ _ _ _ _ _ _ _ (omega arith) c.put_in.ensures.bytes c.put_in-2.ensures.bytes c.put_in-3.ensures.bytes c.put_in-4.ensures.bytes
