use Rattle.std.proofs.Common.{◌∙◌}
use Rattle.script_tokens.proofs.Table.{pair_value-fits}
use Rattle.script_tokens.proofs.digits.byte_of.Goals as goal

pub returns-then-byte-lt256 : goal.returns-then-byte-lt256
returns-then-byte-lt256 c =
    λ place. pair_value-fits c.args.high c.args.low place _ _ (c.from.ensures ∙ c.value_of.ensures) (c.from-2.ensures ∙ c.value_of-2.ensures) c.if-byte-lt256.true
