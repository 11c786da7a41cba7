use Rattle.std.proofs.Common.{sym, ◌∙◌}
use Rattle.book_runs.proofs.Called.{pumps_follow}
use Rattle.book_runs.proofs.calls.pump_on.Goals as goal

pub returns-clause-tail : goal.returns-clause-tail
returns-clause-tail g c = pumps_follow _ _ (sym (c.is_refusal.ensures c.args.book.now.tray.payloads) ∙ c.if-is_refusal.false) c.in_ok-pump_all.ensures.pumped
