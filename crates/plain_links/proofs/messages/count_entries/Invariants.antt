use Rattle.std.proofs.Common.{◌≡◌, ◌≤◌, ◌+◌, drop, count_by}
use Rattle.promise_rules.specs.Links.{enters}
use Rattle.plain_links.proofs.messages.count_entries.Given as goal

abbrev pub invariant-loop-row : goal.invariant-loop-row
invariant-loop-row l = (count_by (enters l.stack l.message l.way l.frames) l.rows ≡ l.n + count_by (enters l.stack l.message l.way l.frames) (drop l.row-index l.rows)) × (l.n ≤ l.row-index)
