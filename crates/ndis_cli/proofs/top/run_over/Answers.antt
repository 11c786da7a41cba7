use Rattle.ndis_cli.proofs.top.run_over.Goals as goal

pub returns-in-Ok-clause-enough : goal.returns-in-Ok-clause-enough
returns-in-Ok-clause-enough g c = rw c.replace-first.ensures.value at c.in-Ok.ensures.enough

pub returns-in-Ok-clause-idle : goal.returns-in-Ok-clause-idle
returns-in-Ok-clause-idle g c = rw c.put_back.ensures c.in-Ok.ensures.idle
