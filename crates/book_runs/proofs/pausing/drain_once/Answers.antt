use Rattle.book_runs.proofs.Paused.{drained_by}
use Rattle.book_runs.proofs.pausing.drain_once.Goals as goal

pub returns-clause-drained : goal.returns-clause-drained
returns-clause-drained g c = drained_by c.requires.pausing c.requires.some c.in_ok-ask.ensures.turned
