use Rattle.std.proofs.Common.{◌≡◌, ◌≤◌, ◌+◌, drop, count_by}
use Rattle.promise_rules.specs.Links.{ends_message}
use Rattle.plain_links.proofs.messages.count_ends.Given as goal

abbrev pub invariant-loop-turn : goal.invariant-loop-turn
invariant-loop-turn l = (count_by (λ t. ends_message l.message t.event) l.turns ≡ l.n + count_by (λ t. ends_message l.message t.event) (drop l.turn-index l.turns)) × (l.n ≤ l.turn-index)
