use Rattle.run_laws.proofs.Wrong.{begin_needs, halt_needs, initialize_needs, pause_needs, restart_needs}
use Rattle.run_laws.proofs.wrong_phases_change_nothing.Goals as goal

pub returns : goal.returns
returns c = record { initialize = initialize_needs; restart = restart_needs; begin = begin_needs; pause = pause_needs; halt = halt_needs }
