use Rattle.std.proofs.Common.{◌≡◌, length, is_some}
use Rattle.command_words.specs.Words.{joined_lanes}
use Rattle.command_words.proofs.words.are_joined.Given as goal

abbrev pub invariant-loop-rest : goal.invariant-loop-rest
invariant-loop-rest l = is_some (joined_lanes l.text) ≡ is_some (joined_lanes l.rest)

abbrev pub decreases-loop-rest : goal.decreases-loop-rest
decreases-loop-rest l = length l.rest
