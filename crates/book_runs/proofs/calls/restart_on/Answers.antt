use Rattle.std.proofs.Common.{sym, ◌∙◌}
use Rattle.book_runs.proofs.Called.{restarts_follow}
use Rattle.book_runs.proofs.calls.restart_on.Goals as goal

pub returns-clause-tail : goal.returns-clause-tail
returns-clause-tail g c =
    restarts_follow _ _ (sym (c.is_refusal.ensures c.args.book.now.tray.payloads) ∙ c.if-is_refusal.false) (c.is_running.ensures.no c.if-is_running.false c.args.book.now.tray.payloads) c.in_ok-restart_all.ensures.restarts
