-- What a reader of programs answers, beside what there was to read.
use Rattle.std.specs.Prelude.{◌≡◌, List, Result, Ok, Err}
use Rattle.program_types.specs.declared.Rule.{Rule}
use Rattle.program_forms.specs.declared.reading.RuleFault.{RuleFault}
use Rattle.program_forms.specs.declared.reading.RuleFault.TheVariants.{BadRule, TooMany, Memory}

-- just that, but for want of memory
abbrev pub Gives : Result (List Rule) RuleFault → Result (List Rule) RuleFault → Type 0
Gives (Ok rules) read = read ≡ Ok rules
Gives (Err (BadRule place)) read = read ≡ Err (BadRule place)
Gives (Err TooMany) read = read ≡ Err TooMany
Gives (Err Memory) read = Unit {0}
