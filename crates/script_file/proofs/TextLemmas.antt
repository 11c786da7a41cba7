-- What a text says, from what was read of it.
use Rattle.std.proofs.Common.{◌≡◌, ◌<◌, ◌≤◌, ℕ, List, length, Option, Some, None, Result, Ok, Err, refl, sym, ◌∙◌}
use Rattle.std.specs.Prelude.{IsUtf8}
use Rattle.serde_json.specs.Data.{Data}
use Rattle.serde_json.specs.Read.{read as read_text}
use Rattle.script_types.specs.declared.Script.{Script}
use Rattle.script_types.specs.declared.ScriptCause.TheVariants as cause
use Rattle.script_types.specs.declared.ScriptPlace.TheVariants as place
use Rattle.script_types.specs.declared.ScriptFault.{ScriptFault}
use Rattle.script_types.specs.declared.ScriptFault.TheVariants as fault
use Rattle.script_forms.specs.Results.{GivesAtPlace}
use Rattle.script_forms.specs.Script.{too_long, not_json, json, script_in}
use Rattle.script_file.specs.Reads.{ReadsAs}

pub says-long : (bytes : List ℕ) → 4194304 < length bytes → ReadsAs bytes (Err (fault.Bad place.Whole cause.TooLong))
says-long bytes long = too_long long refl

pub says-json : (bytes : List ℕ) (d : Data) (r : Result Script ScriptFault) → length bytes ≤ 4194304 → IsUtf8 bytes → read_text bytes ≡ Some d → GivesAtPlace r (script_in d) → ReadsAs bytes r
says-json bytes d (Ok script) short utf8 is gives = json short d (record { utf8 = utf8; read = is }) (sym gives)
says-json bytes d (Err (fault.Bad at cause)) short utf8 is gives = json short d (record { utf8 = utf8; read = is }) (sym gives)
says-json bytes d (Err fault.Memory) short utf8 is gives = tt

none-some : {A : Type 0} (a : A) (o : Option A) → o ≡ None → o ≡ Some a → ⊥
none-some a o none some = clash (sym none ∙ some)
  where
    clash : None ≡ Some a → ⊥
    clash same = cc

pub says-nothing : (bytes : List ℕ) → length bytes ≤ 4194304 → (IsUtf8 bytes → read_text bytes ≡ None) → ReadsAs bytes (Err (fault.Bad place.Whole cause.NotJson))
says-nothing bytes short none = not_json short (λ d is. none-some d (read_text bytes) (none is.utf8) is.read) refl
