use Rattle.std.proofs.Common.{◌≡◌, ◌∷◌}
use Rattle.json.specs.Token.{Token}
use Rattle.json_tokens.proofs.Steps.{string_at}
use Rattle.json_tokens.proofs.parts.text.Goals as goal

pub returns-in-Some-String : goal.returns-in-Some-String
returns-in-Some-String c =
    let e : c.args.reader.now ≡ Token.string c.in-Some-String.text.now ∷ c.next.new.self = rw c.in-Some-String.field-0-is at c.in-Some-String.ensures.value in
    λ depth. string_at depth _ _ _ e
