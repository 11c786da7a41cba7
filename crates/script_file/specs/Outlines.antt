-- The outline of a script, as code holds it.
use Rattle.std.specs.Prelude.{◌≡◌, map, Result, Ok, Err}
use Rattle.serde_json.specs.View.{view}
use Rattle.script_types.specs.declared.ScriptCause.{ScriptCause}
use Rattle.script_forms.specs.Script.{Outline}
use Rattle.script_forms.specs.declared.parts.Trouble.{Trouble}
use Rattle.script_forms.specs.declared.parts.Trouble.TheVariants.{Bad, Memory}
use Rattle.script_file.specs.declared.whole.Parts.{Parts}

abbrev pub outline_of : Parts → Outline
outline_of parts =
    record { version = parts.version; lanes = parts.lanes; stacks = map view parts.stacks.now; calls = map view parts.calls.now }

-- what the reader of an outline answers: just that, but for want of memory
abbrev pub GivesOutline : Result Parts Trouble → Result Outline ScriptCause → Type 0
GivesOutline (Ok parts) told = told ≡ Ok (outline_of parts)
GivesOutline (Err (Bad cause)) told = told ≡ Err cause
GivesOutline (Err Memory) told = Unit {0}
