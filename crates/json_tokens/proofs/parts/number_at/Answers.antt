use Rattle.std.proofs.Common.{ℕ}
use Rattle.std.proofs.lemmas.Result.{IfOk-weaker}
use Rattle.serde_json.specs.Data.{number, unsigned}
use Rattle.json_tokens.specs.Tokens.{IsValueAt, IsMemberAt}
use Rattle.json_tokens.proofs.Steps.{member_at}
use Rattle.json_tokens.proofs.parts.number_at.Goals as goal

pub returns : goal.returns
returns c =
    IfOk-weaker c.number.result (λ n. (depth : ℕ) → IsValueAt depth c.name.new.reader (number (unsigned n)) c.number.new.reader) (λ n. (depth : ℕ) → IsMemberAt depth c.args.reader.now c.args.at.now (number (unsigned n)) c.number.new.reader)
    (λ n here depth. member_at depth _ _ _ _ _ c.in_ok-name.ensures (here depth)) c.number.ensures
