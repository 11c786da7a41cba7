use Rattle.std.proofs.Common.{◌+◌, cond, ap, ◌∙◌}
use Rattle.book_runs.proofs.Opened.{inserts_by}
use Rattle.book_runs.proofs.opening.insert_one.Goals as goal

pub returns-clause-inserts : goal.returns-clause-inserts
returns-clause-inserts g c =
    inserts_by _ _ _ _ c.requires.paused c.in_ok-reply.ensures.turned c.in_ok-event.ensures (c.counted.ensures ∙ ap (λ b. cond b (c.args.attached + 1) c.args.attached) (c.has_inserted.ensures c.ask.new.book.tray.payloads))
