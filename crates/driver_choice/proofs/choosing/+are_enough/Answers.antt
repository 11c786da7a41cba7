use Rattle.driver_choice.proofs.Choice.{enough_more}
use Rattle.driver_choice.proofs.choosing.+are_enough.Goals as goal

pub returns-then-count_bindings-count_protocols : goal.returns-then-count_bindings-count_protocols
returns-then-count_bindings-count_protocols g t c =
    enough_more _ _ _ _ _ _ c.in-len1-up.len_at_least c.count_bindings.ensures c.count_protocols.ensures c.if-count_bindings-count_protocols.true c.are_enough.ensures
