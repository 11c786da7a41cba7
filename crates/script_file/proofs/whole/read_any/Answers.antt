use Rattle.std.proofs.Common.{arith}
use Rattle.script_file.proofs.TextLemmas.{says-json}
use Rattle.script_file.proofs.whole.read_any.Goals as goal

pub returns-in-Ok : goal.returns-in-Ok
returns-in-Ok c = says-json c.args.bytes.now _ _ (omega arith) c.in-Ok.ensures.ok.0 c.in-Ok.ensures.ok.1 c.script_of.ensures
