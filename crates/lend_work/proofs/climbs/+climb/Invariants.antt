use Rattle.lend_work.proofs.climbs.+climb.Given as goal

abbrev pub decreases-climb : goal.decreases-climb
decreases-climb g l = l.many
