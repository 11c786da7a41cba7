use Rattle.stack_rules.specs.Sound.{Sound}
use Rattle.law_examples.proofs.walk_all.Given as goal

abbrev pub invariant-loop-turn : goal.invariant-loop-turn
invariant-loop-turn l = Sound l.stack.head l.stack.turns
