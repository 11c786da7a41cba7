use Rattle.std.proofs.Common.{◌≡◌, slice_index, refl, ◌∙◌, arith, rules}
use Rattle.script_tokens.specs.declared.digits.TheConstants.{VALUES}
use Rattle.script_tokens.proofs.Table.{value_at_place}
use Rattle.script_tokens.proofs.digits.value_of.Goals as goal

pub returns : goal.returns
returns c =
    let entry : c.entry_of.result ≡ slice_index VALUES.now c.args.digit = search rules in
    entry ∙ value_at_place VALUES.now 256 c.args.digit refl (omega arith)
