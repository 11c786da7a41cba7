use Rattle.book_runs.proofs.Pumped.{pumped_by}
use Rattle.book_runs.proofs.asking.pump_once.Goals as goal

pub returns-clause-pumped : goal.returns-clause-pumped
returns-clause-pumped g c = pumped_by _ _ _ c.ask.new.book.tray.payloads c.in_ok-reply.ensures.turned c.is_moved.ensures
