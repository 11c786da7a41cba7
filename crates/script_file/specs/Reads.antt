-- What reading a script answers.
use Rattle.std.specs.Prelude.{ℕ, List, Result, Ok, Err}
use Rattle.script_types.specs.declared.Script.{Script}
use Rattle.script_types.specs.declared.ScriptFault.{ScriptFault}
use Rattle.script_types.specs.declared.ScriptFault.TheVariants.{Bad, Memory}
use Rattle.script_forms.specs.Script.{Says}

-- just what the text says, but for want of memory
abbrev pub ReadsAs : List ℕ → Result Script ScriptFault → Type 0
ReadsAs bytes (Ok script) = Says bytes (Ok script)
ReadsAs bytes (Err (Bad place cause)) = Says bytes (Err (Bad place cause))
ReadsAs bytes (Err Memory) = Unit {0}
