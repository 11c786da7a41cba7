use Rattle.std.proofs.Common.{◌≡◌, ◌≤◌, ◌+◌, drop, count_by}
use Rattle.promise_rules.specs.Fates.{ends_crossing}
use Rattle.plain_fates.proofs.sends.count_crossings.Given as goal

abbrev pub invariant-loop-turn : goal.invariant-loop-turn
invariant-loop-turn l = (count_by (ends_crossing l.whole l.root) l.turns ≡ l.n + count_by (ends_crossing l.whole l.root) (drop l.turn-index l.turns)) × (l.n ≤ l.turn-index)
