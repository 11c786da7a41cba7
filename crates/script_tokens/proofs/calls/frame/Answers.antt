use Rattle.std.proofs.Common.{◌≡◌, ℕ, Ok}
use Rattle.std.proofs.lemmas.Result.{IfOk-weaker}
use Rattle.serde_json.specs.Data.{Data, string}
use Rattle.json_tokens.specs.Tokens.{IsValueAt}
use Rattle.script_forms.specs.Values.{frame_in}
use Rattle.script_tokens.proofs.calls.frame.Goals as goal

pub returns : goal.returns
returns c =
    let text = c.in_ok-digits.digits.now in
    IfOk-weaker c.frame_of_text.result (λ f. frame_in (string text) ≡ Ok f) (λ f. (d : Data) × ((depth : ℕ) → IsValueAt depth c.args.reader.now d c.text.new.reader) × (frame_in d ≡ Ok f))
    (λ f is. (string text, c.in_ok-digits.ensures, is)) c.frame_of_text.ensures
