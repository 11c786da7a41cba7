use Rattle.std.proofs.Common.{length}
use Rattle.drain_examples.proofs.states.+note_turns.Given as goal

abbrev pub decreases-note_turns : goal.decreases-note_turns
decreases-note_turns l = length l.turns.now
