use Rattle.run_laws.proofs.Ending.{empties_requests, empties_things, keeps_no_requests}
use Rattle.run_laws.proofs.idle_pumps_lead_to_the_end.Goals as goal

pub returns : goal.returns
returns c = record { requests = empties_requests; none = keeps_no_requests; things = empties_things }
