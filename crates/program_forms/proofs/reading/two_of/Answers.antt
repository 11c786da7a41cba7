use Rattle.std.proofs.Common.{◌≢◌, length, arith}
use Rattle.program_forms.proofs.Lists.{two_numbers-none}
use Rattle.program_forms.proofs.reading.two_of.Goals as goal

pub returns-then-items-ne2 : goal.returns-then-items-ne2
returns-then-items-ne2 c = two_numbers-none c.args.items.now (omega arith)
