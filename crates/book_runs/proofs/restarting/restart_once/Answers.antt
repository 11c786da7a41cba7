use Rattle.book_runs.proofs.Restarted.{restarted_by}
use Rattle.book_runs.proofs.restarting.restart_once.Goals as goal

pub returns-clause-restarts : goal.returns-clause-restarts
returns-clause-restarts g c = restarted_by _ _ _ c.ask.new.book.tray.payloads c.requires.restarting c.in_ok-reply.ensures.turned c.is_running.ensures
