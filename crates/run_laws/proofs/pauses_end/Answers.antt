use Rattle.run_laws.proofs.Pausing.{begins, drains, pauses}
use Rattle.run_laws.proofs.pauses_end.Goals as goal

pub returns : goal.returns
returns c = record { begin = begins; pause = pauses; drain = drains }
