use Rattle.plain_families.proofs.families.is_over_at.Goals as goal

pub returns-in-Issue : goal.returns-in-Issue
returns-in-Issue c = rw c.in-Issue.is c.is_over_for.ensures
