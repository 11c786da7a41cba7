use Rattle.seen_laws.proofs.Stages.{each_status_is_seen_once}
use Rattle.seen_laws.proofs.statuses_are_seen_once.Goals as goal

pub returns : goal.returns
returns c = each_status_is_seen_once
