use Rattle.std.proofs.Common.{◌≡◌, Some, Ok, sym, ap, ◌∙◌}
use Rattle.std.proofs.lemmas.Result.{IfOk-weaker}
use Rattle.serde_json.specs.Data.{Data}
use Rattle.serde_json.specs.Read.{read as read_text}
use Rattle.script_forms.specs.Script.{script_in}
use Rattle.script_file.specs.Reads.{ReadsAs}
use Rattle.script_file.proofs.UsualLemmas.{says-script}
use Rattle.script_file.proofs.whole.read_usual.Goals as goal

pub returns-in-Ok : goal.returns-in-Ok
returns-in-Ok c =
    let text = c.in-Ok.text.now in
    let bytes = c.args.bytes.now in
    let same = c.in-Ok.ensures.cases in
    IfOk-weaker c.usual_script_of.result (λ script. (d : Data) × (read_text text ≡ Some d) × (script_in d ≡ Ok script)) (λ script. ReadsAs bytes (Ok script))
    (λ script is. says-script bytes script is.0 c.requires same.1 (ap read_text (sym same.0) ∙ is.1) is.2) c.usual_script_of.ensures
