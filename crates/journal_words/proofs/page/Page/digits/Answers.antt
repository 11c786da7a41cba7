use Rattle.std.proofs.Common.{arith}
use Rattle.journal_words.proofs.Decimals.{digits_behind}
use Rattle.journal_words.proofs.page.Page.digits.Goals as goal

pub returns-then-number-lt100000000 : goal.returns-then-number-lt100000000
returns-then-number-lt100000000 c =
    digits_behind c.four_digits.result c.args.self.now _ _ c.args.number (omega (arith, c.if-number-lt10000.false)) c.ranges.number.fits c.in_ok-few_digits.ensures c.four_digits.ensures
