use Rattle.pause_laws.proofs.Turns.{holds_nothing}
use Rattle.pause_laws.proofs.paused_holds_nothing.Goals as goal

pub returns : goal.returns
returns c = holds_nothing
