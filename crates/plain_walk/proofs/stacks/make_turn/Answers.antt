use Rattle.std.proofs.Common.{arith}
use Rattle.std.proofs.lemmas.Grind.{common_steps}
use Rattle.plain_walk.specs.Walked.{turn_of}
use Rattle.plain_walk.proofs.stacks.make_turn.Goals as goal

pub returns-clause-turn : goal.returns-clause-turn
unfolding turn_of
returns-clause-turn c = grind (arith, common_steps)

pub returns-clause-after : goal.returns-clause-after
unfolding turn_of
returns-clause-after c = grind (arith, common_steps)
