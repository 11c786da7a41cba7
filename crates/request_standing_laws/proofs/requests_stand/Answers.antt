use Rattle.request_standing_laws.proofs.Stands.{each_request_stands}
use Rattle.request_standing_laws.proofs.requests_stand.Goals as goal

pub returns : goal.returns
returns c = each_request_stands
