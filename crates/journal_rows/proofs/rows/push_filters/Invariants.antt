use Rattle.std.proofs.Common.{◌≡◌, take, map}
use Rattle.journal_words.specs.Words.{spaced, filter_text}
use Rattle.journal_rows.proofs.rows.push_filters.Given as goal

abbrev pub invariant-loop-filter : goal.invariant-loop-filter
invariant-loop-filter l = l.page ≡ spaced l.initial.page (map filter_text (take l.filter-index l.filters))
