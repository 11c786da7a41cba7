-- The text of a script says the script.
use Rattle.std.proofs.Common.{◌≡◌, ℕ, ◌≤◌, true, false, List, length, Some, Ok, sym, ap, subst, ◌∙◌, arith}
use Rattle.std.specs.Prelude.{IsUtf8}
use Rattle.serde_json.specs.Data.{Data, depth}
use Rattle.serde_json.specs.Read.{read as read_text, max_depth}
use Rattle.serde_json.specs.Written.{has_float, compact_text}
use Rattle.script_types.specs.declared.Script.{Script}
use Rattle.script_forms.specs.Script.{Says, json, script_in}
use Rattle.script_writing.specs.Limits.{is_script}
use Rattle.script_writing.specs.Written.{script_data}
use Rattle.script_writing.proofs.Shapes.{script_data-depth, script_data-whole}
use Rattle.script_writing.proofs.ScriptRead.{script_in-script_data}

pub text_of_script : (bytes : List ℕ) (script : Script) (d : Data) → d ≡ script_data script → (has_float d ≡ false → bytes ≡ compact_text d) → bytes ≡ compact_text (script_data script)
text_of_script bytes script d is text = text (ap has_float is ∙ script_data-whole script) ∙ ap compact_text is

pub says_script : (bytes : List ℕ) (script : Script) (d : Data) → d ≡ script_data script → IsUtf8 bytes → (depth d ≤ max_depth → read_text bytes ≡ Some d) → is_script script ≡ true → length bytes ≤ 4194304 → Says bytes (Ok script)
says_script bytes script d is utf8 read h short =
    let few : depth (script_data script) ≤ 127 = omega (arith, script_data-depth script) in
    json short d (record { utf8 = utf8; read = read (subst (λ e. depth e ≤ 127) (sym is) few) }) (sym (ap script_in is ∙ script_in-script_data script h))
