-- The turn that is read in a journal, among all its turns.
use Rattle.std.proofs.Common.{◌≡◌, ℕ, Bool, List, [], ◌∷◌, ◌++◌, ◌+◌, ◌-◌, ◌^◌, ◌<◌, Some, length, map, min, take, drop, get_or, slice_get, sum_by, count_by, ◌∙◌, ap, sym, arith, append_assoc}
use Rattle.std.proofs.lemmas.List.{drop_more}
use Rattle.std.proofs.lemmas.List.Sums.{sum_by_more}
use Rattle.std.proofs.lemmas.Option.{slice_get_within, get_or_from_slice_get}
use Rattle.journal_types.specs.declared.Row.{Row}
use Rattle.journal_types.specs.declared.StackHead.{StackHead}
use Rattle.journal_types.specs.declared.Turn.{Turn}
use Rattle.journal_lines.specs.Counted.{turn_rows_of, rows_of}
use Rattle.journal_lines.specs.Text.{turn_lines, turn_line, row_line, end_line}

-- the turns from one on are it and those behind it
pub turns_next : (turns : List Turn) (i : ℕ) (turn : Turn) → slice_get turns i ≡ Some turn → drop i turns ≡ turn ∷ drop (i + 1) turns
turns_next turns i turn read =
    drop_more turns i turn (slice_get_within turns i turn read)
    ∙ ap (λ (first : Turn). first ∷ drop (i + 1) turns) (get_or_from_slice_get turns i turn turn read)

-- the lines of the turns from one on are its line, those of its rows and those behind them
pub lines_next : (head : StackHead) (turns : List Turn) (i : ℕ) (turn : Turn) → slice_get turns i ≡ Some turn → turn_lines (i + 1) (drop i turns) ++ end_line head turns ∷ [] ≡ turn_line (i + 1) turn ∷ (map row_line turn.rows ++ (turn_lines (i + 1 + 1) (drop (i + 1) turns) ++ end_line head turns ∷ []))
lines_next head turns i turn read =
    ap (λ (others : List Turn). turn_lines (i + 1) others ++ end_line head turns ∷ []) (turns_next turns i turn read)
    ∙ ap (λ (others : List (List ℕ)). turn_line (i + 1) turn ∷ others) (append_assoc (map row_line turn.rows) (turn_lines (i + 1 + 1) (drop (i + 1) turns)) (end_line head turns ∷ []))

capped : (sum more most : ℕ) → min (min sum most + more) most ≡ min (sum + more) most
capped sum more most = omega arith

-- the rows of one more turn are counted
pub counted_next : (test : Row → Bool) (turns : List Turn) (i : ℕ) (turn : Turn) (old more new : ℕ) → slice_get turns i ≡ Some turn → old ≡ rows_of test (take i turns) → more ≡ count_by test turn.rows → new ≡ min (old + more) (2 ^ 64 - 1) → new ≡ rows_of test (take (i + 1) turns)
counted_next test turns i turn old more new read so_far here both =
    let before : ℕ = sum_by (turn_rows_of test) (take i turns) in
    let most : ℕ = 2 ^ 64 - 1 in
    let next : sum_by (turn_rows_of test) (take (i + 1) turns) ≡ before + turn_rows_of test (get_or turns i turn) = sum_by_more (turn_rows_of test) turns i turn (slice_get_within turns i turn read) in
    let last : turn_rows_of test (get_or turns i turn) ≡ more = ap (turn_rows_of test) (get_or_from_slice_get turns i turn turn read) ∙ sym here in
    both
    ∙ ap (λ (n : ℕ). min (n + more) most) so_far
    ∙ capped before more most
    ∙ ap (λ (n : ℕ). min n most) (sym (next ∙ ap (λ (n : ℕ). before + n) last))
