use Rattle.std.proofs.Common.{◌≡◌, take, count_by}
use Rattle.stack_rules.specs.Tests.{is_echo}
use Rattle.stack_rules.specs.Heads.{kind_of_binding}
use Rattle.plain_work.proofs.count_echoes.Given as goal

abbrev pub invariant-loop-b : goal.invariant-loop-b
invariant-loop-b l = l.n ≡ count_by (λ b. is_echo (kind_of_binding l.head b)) (take l.b-index l.bindings)
