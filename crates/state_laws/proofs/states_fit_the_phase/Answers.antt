use Rattle.state_laws.proofs.Events.{shaped_journal}
use Rattle.state_laws.proofs.states_fit_the_phase.Goals as goal

pub returns : goal.returns
returns c = shaped_journal
