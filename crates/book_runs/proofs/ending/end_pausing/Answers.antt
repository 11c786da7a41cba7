use Rattle.book_runs.proofs.Ended.{ends_pausing}
use Rattle.book_runs.proofs.ending.end_pausing.Goals as goal

pub returns-clause-ends : goal.returns-clause-ends
returns-clause-ends g c = ends_pausing c.requires.pausing c.in_ok-pause_all.ensures.pauses c.in_ok-end_restarting.ensures.ends
