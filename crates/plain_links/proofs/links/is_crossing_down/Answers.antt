use Rattle.plain_links.proofs.links.is_crossing_down.Goals as goal

pub returns : goal.returns
returns c = rw (← c.in_ok-issued.ensures) c.is_crossing.ensures
