use Rattle.book_runs.proofs.Ended.{ends_restarting}
use Rattle.book_runs.proofs.ending.end_restarting.Goals as goal

pub returns-clause-ends : goal.returns-clause-ends
returns-clause-ends g c = ends_restarting c.requires.restarting c.in_ok-restart_all.ensures.restarts c.in_ok-end_running.ensures.ends
