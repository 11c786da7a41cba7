use Rattle.request_laws.proofs.Events.{requested_journal}
use Rattle.request_laws.proofs.requests_stand_in_place.Goals as goal

pub returns : goal.returns
returns c = requested_journal
