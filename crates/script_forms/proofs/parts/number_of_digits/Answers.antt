use Rattle.std.proofs.Common.{ap, sym, ◌∙◌, arith}
use Rattle.std.specs.Char.{is_ascii_digit}
use Rattle.std.specs.List.{list_all}
use Rattle.script_forms.proofs.Digits.{positive, unparsed}
use Rattle.script_forms.proofs.parts.number_of_digits.Goals as goal

pub returns-in-Err : goal.returns-in-Err
returns-in-Err c =
    absurd (unparsed c.args.digits.now c.parse.result c.in-Err.field-0 c.parse.ensures.value.0
    (ap (list_all is_ascii_digit) (sym c.as_bytes.ensures.value) ∙ sym c.are_digits.ensures ∙ c.if-not-are_digits.false)
    (positive _ (sym c.is_empty.ensures ∙ c.if-is_empty.false)) (omega arith) c.in-Err.is)
