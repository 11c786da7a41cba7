use Rattle.std.proofs.Common.{◌≡◌, ◌++◌, take}
use Rattle.journal_words.specs.Programs.{more_rules_text}
use Rattle.journal_words.proofs.programs.push_more_rules.Given as goal

abbrev pub invariant-loop-rule : goal.invariant-loop-rule
invariant-loop-rule l = l.page ≡ l.initial.page ++ more_rules_text (take l.rule-index l.rules)
