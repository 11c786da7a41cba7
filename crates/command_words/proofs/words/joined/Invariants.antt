use Rattle.std.proofs.Common.{◌≡◌, ◌++◌, true, length, is_some, option_map}
use Rattle.command_words.specs.Words.{joined_lanes}
use Rattle.command_words.proofs.words.joined.Given as goal

abbrev pub invariant-loop-rest : goal.invariant-loop-rest
invariant-loop-rest l = record {
  some : is_some (joined_lanes l.rest) ≡ true;
  told : joined_lanes l.text ≡ option_map (λ more. l.lanes.items ++ more) (joined_lanes l.rest);
}

abbrev pub decreases-loop-rest : goal.decreases-loop-rest
decreases-loop-rest l = length l.rest
