use Rattle.delivery_work.specs.Takers.{is_taker}
use Rattle.std.proofs.Common.{sym, ◌∙◌}
use Rattle.delivery_work.proofs.Counting.{later_taken}
use Rattle.delivery_work.proofs.taking.+next_taker.Goals as goal

pub returns-clause-taken : goal.returns-clause-taken
returns-clause-taken t c = later_taken (is_taker c.args.tray.now.net c.args.list.now.frames) c.args.from c.args.many c.next_taker.result c.if-from-many.false (sym c.is_taker.ensures ∙ c.if-is_taker.false) c.next_taker.ensures.taken
