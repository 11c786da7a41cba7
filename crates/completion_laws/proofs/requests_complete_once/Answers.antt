use Rattle.completion_laws.proofs.Completes.{each_completes_once}
use Rattle.completion_laws.proofs.requests_complete_once.Goals as goal

pub returns : goal.returns
returns c = each_completes_once
