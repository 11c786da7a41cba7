use Rattle.rule_filters.proofs.parts.Programmed.receive_lent.Goals as goal

pub returns-clause-lent : goal.returns-clause-lent
returns-clause-lent c = record { same = c.handle_lent.ensures.state; by = λ p is. c.handle_lent.ensures.handles.by p is }
