use Rattle.run_laws.proofs.Ending.{halts, stays_busy}
use Rattle.run_laws.proofs.paused_stacks_halt.Goals as goal

pub returns : goal.returns
returns c = record { done = halts; busy = stays_busy }
