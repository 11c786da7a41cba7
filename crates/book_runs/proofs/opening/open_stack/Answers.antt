use Rattle.std.proofs.Common.{rules, ◌≡◌, true, false, sym, ◌∙◌}
use Rattle.book_runs.proofs.Opened.{refused_opens, initialized_by, opens_in_all}
use Rattle.book_runs.proofs.opening.open_stack.Goals as goal

pub returns-then-is_refusal-clause-opens : goal.returns-then-is_refusal-clause-opens
returns-then-is_refusal-clause-opens g c =
    refused_opens _ _ c.requires.halted c.in_ok-reply.ensures.turned (sym (c.is_refusal.ensures c.ask.new.book.tray.payloads) ∙ c.if-is_refusal.true)

pub insert_each-requires-clause-paused : goal.insert_each-requires-clause-paused
insert_each-requires-clause-paused g c =
    (initialized_by c.args.filters.now _ c.requires.halted c.in_ok-reply.ensures.turned (sym (c.is_refusal.ensures c.ask.new.book.tray.payloads) ∙ c.if-is_refusal.false)).now

pub returns-clause-opens : goal.returns-clause-opens
returns-clause-opens g c =
    opens_in_all _ _ (initialized_by _ _ c.requires.halted c.in_ok-reply.ensures.turned (sym (c.is_refusal.ensures c.ask.new.book.tray.payloads) ∙ c.if-is_refusal.false))
    c.in_ok-insert_each.ensures.inserts c.in_ok-restart_all.ensures.restarts
