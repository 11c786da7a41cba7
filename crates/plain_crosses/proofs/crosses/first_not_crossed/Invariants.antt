use Rattle.std.proofs.Common.{◌≡◌, not, drop, find}
use Rattle.stack_rules.specs.Places.{is_crossed}
use Rattle.plain_crosses.proofs.crosses.first_not_crossed.Given as goal

abbrev pub invariant-loop-l : goal.invariant-loop-l
invariant-loop-l l = find (λ x. not (is_crossed x.crossed)) l.kept ≡ find (λ x. not (is_crossed x.crossed)) (drop l.l-index l.kept)
