use Rattle.pause_laws.proofs.Turns.{none_while_halted}
use Rattle.pause_laws.proofs.halted_stack_is_empty.Goals as goal

pub returns : goal.returns
returns c = none_while_halted
