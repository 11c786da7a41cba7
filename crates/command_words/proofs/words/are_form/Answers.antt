use Rattle.std.proofs.Common.{ap, is_some}
use Rattle.command_words.proofs.Joined.{too_many}
use Rattle.command_words.proofs.words.are_form.Goals as goal

pub returns-in-len4-up : goal.returns-in-len4-up
returns-in-len4-up c = ap is_some (too_many _ c.args.words.now c.in-len4-up.len_at_least)
