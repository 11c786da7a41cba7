use Rattle.std.proofs.Common.{sym, ◌∙◌}
use Rattle.book_runs.proofs.Called.{drain_follows, pauses_follow}
use Rattle.book_runs.proofs.calls.pause_on.Goals as goal

pub returns-then-is_waiting-clause-tail : goal.returns-then-is_waiting-clause-tail
returns-then-is_waiting-clause-tail g c =
    drain_follows _ _ (c.is_waiting.ensures.yes c.if-is_waiting.true c.args.book.now.tray.payloads) c.in_ok-drain_once.ensures.drained c.in_ok-pause_all.ensures.pauses

pub returns-clause-tail : goal.returns-clause-tail
returns-clause-tail g c =
    pauses_follow _ _ (sym (c.is_refusal.ensures c.args.book.now.tray.payloads) ∙ c.if-is_refusal.false) (c.is_paused.ensures.no c.if-is_paused.false c.args.book.now.tray.payloads)
    (c.is_waiting.ensures.no c.if-is_waiting.false c.args.book.now.tray.payloads) c.in_ok-pause_all-2.ensures.pauses
