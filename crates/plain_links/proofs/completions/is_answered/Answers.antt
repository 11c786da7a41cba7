use Rattle.plain_links.proofs.completions.is_answered.Goals as goal

pub returns-in-OidDone : goal.returns-in-OidDone
returns-in-OidDone c = rw c.in-OidDone.is c.is_done_once.ensures
