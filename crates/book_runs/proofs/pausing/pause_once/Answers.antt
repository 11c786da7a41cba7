use Rattle.book_runs.proofs.Paused.{waits_by, waits_and_drains, paused_by}
use Rattle.book_runs.proofs.pausing.pause_once.Goals as goal

pub drain_once-requires : goal.drain_once-requires
drain_once-requires g c =
    let w = waits_by c.requires.pausing c.in_ok-reply.ensures.turned (c.is_waiting.ensures.yes c.if-is_waiting.true c.ask.new.book.tray.payloads) in
    record { pausing = w.now; some = w.some }

pub returns-then-is_waiting-clause-pauses : goal.returns-then-is_waiting-clause-pauses
returns-then-is_waiting-clause-pauses g c =
    waits_and_drains (waits_by c.requires.pausing c.in_ok-reply.ensures.turned (c.is_waiting.ensures.yes c.if-is_waiting.true c.ask.new.book.tray.payloads)) c.in_ok-drain_once.ensures.drained

pub returns-clause-pauses : goal.returns-clause-pauses
returns-clause-pauses g c = paused_by _ _ _ c.ask.new.book.tray.payloads c.requires.pausing c.in_ok-reply.ensures.turned (c.is_waiting.ensures.no c.if-is_waiting.false c.ask.new.book.tray.payloads) c.is_paused.ensures
