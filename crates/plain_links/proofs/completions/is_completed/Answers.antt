use Rattle.plain_links.proofs.completions.is_completed.Goals as goal

pub returns-in-OidIssue : goal.returns-in-OidIssue
returns-in-OidIssue c = rw c.in-OidIssue.is c.has_done_row.ensures
