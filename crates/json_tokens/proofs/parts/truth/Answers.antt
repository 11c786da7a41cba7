use Rattle.std.proofs.Common.{◌≡◌, ◌∷◌}
use Rattle.json.specs.Token.{Token}
use Rattle.json_tokens.proofs.Steps.{boolean_at}
use Rattle.json_tokens.proofs.parts.truth.Goals as goal

pub returns-in-Some-Bool : goal.returns-in-Some-Bool
returns-in-Some-Bool c =
    let e : c.args.reader.now ≡ Token.boolean c.in-Some-Bool.truth ∷ c.next.new.self = rw c.in-Some-Bool.field-0-is at c.in-Some-Bool.ensures.value in
    λ depth. boolean_at depth _ _ _ e
