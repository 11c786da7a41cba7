use Rattle.std.proofs.Common.{rules, sym, ◌∙◌}
use Rattle.command_words.proofs.AllWords.{no_form}
use Rattle.command_words.proofs.words.order_of.Goals as goal

pub returns-in-Err-clause-told : goal.returns-in-Err-clause-told
returns-in-Err-clause-told c = no_form _ (sym c.are_form.ensures ∙ search rules)
