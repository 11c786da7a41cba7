-- The rows that the last line of a journal counts.
use Rattle.std.specs.Prelude.{Bool}
use Rattle.journal_types.specs.declared.Row.{Row}
use Rattle.journal_lines.specs.Counted.{is_issue, is_home, is_wire, is_deliver}
use Rattle.flat_text.specs.declared.counts.Counted.{Counted}
use Rattle.flat_text.specs.declared.counts.Counted.TheVariants as counted

abbrev pub test_of : Counted → Row → Bool
test_of counted.Issue = is_issue
test_of counted.Home = is_home
test_of counted.Wire = is_wire
test_of counted.Deliver = is_deliver
