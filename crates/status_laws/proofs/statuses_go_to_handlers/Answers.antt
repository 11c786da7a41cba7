use Rattle.status_laws.proofs.Handlers.{each_goes_to_handler}
use Rattle.status_laws.proofs.statuses_go_to_handlers.Goals as goal

pub returns : goal.returns
returns c = each_goes_to_handler
