use Rattle.book_runs.proofs.Opened.{inserts_all, inserts_none}
use Rattle.book_runs.proofs.opening.+insert_each.Goals as goal

pub returns-in_default-clause-inserts : goal.returns-in_default-clause-inserts
returns-in_default-clause-inserts g t c = inserts_none _ _ c.in_default.len_below c.requires.paused

pub returns-clause-inserts : goal.returns-clause-inserts
returns-clause-inserts g t c = inserts_all _ _ _ _ _ c.in-len1-up.len_at_least c.filter-item.is c.in_ok-now.ensures.inserts c.in_ok-all.ensures.inserts
