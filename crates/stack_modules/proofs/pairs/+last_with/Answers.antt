use Rattle.std.proofs.Common.{sym, ◌∙◌}
use Rattle.stack_modules.specs.Pairs.{has}
use Rattle.stack_modules.proofs.Sending.{sends_then, sends_else}
use Rattle.stack_modules.proofs.pairs.+last_with.Goals as goal

pub returns-then-has_pair : goal.returns-then-has_pair
returns-then-has_pair t c =
    c.last_with.ensures ∙ sends_then (has c.args.pair c.args.ms.now) c.args.filters.now c.args.other c.in-len1-up.len_at_least (sym c.has_pair.ensures ∙ c.if-has_pair.true)

pub returns-else-has_pair : goal.returns-else-has_pair
returns-else-has_pair t c =
    c.last_with-else-has_pair.ensures ∙ sends_else (has c.args.pair c.args.ms.now) c.args.filters.now c.args.other c.in-len1-up.len_at_least (sym c.has_pair.ensures ∙ c.if-has_pair.false)
