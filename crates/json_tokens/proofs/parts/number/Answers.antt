use Rattle.std.proofs.Common.{◌≡◌, ◌∷◌, ℕ, Some}
use Rattle.std.proofs.lemmas.Result.{IfOk-weaker}
use Rattle.json.specs.Token.{Token}
use Rattle.serde_json.specs.Data.{unsigned, number}
use Rattle.serde_json.specs.Read.{number_of}
use Rattle.json_tokens.specs.Tokens.{IsValueAt}
use Rattle.json_tokens.proofs.Steps.{number_at}
use Rattle.json_tokens.proofs.parts.number.Goals as goal

pub returns-in-Some-Number : goal.returns-in-Some-Number
returns-in-Some-Number c =
    let e : c.args.reader.now ≡ Token.number c.in-Some-Number.text.now ∷ c.next.new.self = rw c.in-Some-Number.field-0-is at c.in-Some-Number.ensures.value in
    IfOk-weaker c.whole_number.result (λ n. number_of c.in-Some-Number.text.now ≡ Some (unsigned n)) (λ n. (depth : ℕ) → IsValueAt depth c.args.reader.now (number (unsigned n)) c.next.new.self)
    (λ n is depth. number_at depth _ _ n _ e is) c.whole_number.ensures
