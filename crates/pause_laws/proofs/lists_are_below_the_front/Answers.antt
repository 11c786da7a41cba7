use Rattle.pause_laws.proofs.Turns.{held_journal}
use Rattle.pause_laws.proofs.lists_are_below_the_front.Goals as goal

pub returns : goal.returns
returns c = held_journal
