use Rattle.plain_calls.proofs.calls.calls_at.Goals as goal

pub returns-in-Home : goal.returns-in-Home
returns-in-Home c = rw c.in-Home.is c.came_home.ensures

pub returns-in-OidDone : goal.returns-in-OidDone
returns-in-OidDone c = rw c.in-OidDone.is c.completed.ensures
