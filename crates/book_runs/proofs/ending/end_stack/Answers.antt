use Rattle.std.proofs.Common.{sym}
use Rattle.book_runs.proofs.Ended.{ends_halted}
use Rattle.book_runs.proofs.ending.end_stack.Goals as goal

pub returns-in-Halted-clause-ends : goal.returns-in-Halted-clause-ends
returns-in-Halted-clause-ends g c = ends_halted (record { between = c.requires.between; phase_is = sym c.in-Halted.ensures })
