use Rattle.std.proofs.Common.{rules}
use Rattle.book_scripts.proofs.Whole.{makes}
use Rattle.book_scripts.proofs.runs.run_one.Goals as goal

pub returns-clause-made : goal.returns-clause-made
returns-clause-made g c = makes _ _ _ _ (search rules) c.in_ok-run_call.ensures.made
