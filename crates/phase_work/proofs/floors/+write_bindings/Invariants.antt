use Rattle.phase_work.proofs.floors.+write_bindings.Given as goal

abbrev pub decreases-write_bindings : goal.decreases-write_bindings
decreases-write_bindings l = l.many
