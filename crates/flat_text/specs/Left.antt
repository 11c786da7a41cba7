-- The lines of a journal that are left to be written.
use Rattle.std.specs.Prelude.{ℕ, ◌≡◌, ◌+◌, ◌≤◌, ◌++◌, List, [], ◌∷◌, map, drop, length, All}
use Rattle.ndis_base.specs.declared.ProtocolKind.{ProtocolKind}
use Rattle.flat_journal.specs.declared.types.FlatRow.{FlatRow}
use Rattle.flat_journal.specs.Flat.{FlatView}
use Rattle.flat_journal.specs.Shown.{row_of}
use Rattle.flat_journal.specs.Within.{RowWithin}
use Rattle.journal_lines.specs.Text.{binding_lines, turn_lines, row_line, end_line}
use Rattle.flat_text.specs.Text.{lines}
use Rattle.flat_text.specs.declared.lines.Stage.{Stage}
use Rattle.flat_text.specs.declared.lines.Stage.TheVariants.{Head, Bindings, Rows, Done}

-- the lines of the turns behind so many, and the last line
abbrev pub turns_left : FlatView → ℕ → List (List ℕ)
turns_left journal before = turn_lines (before + 1) (drop before journal.turns) ++ end_line journal.head journal.turns ∷ []

-- the lines of the rows that are left of a turn, and those behind it
abbrev pub rows_left : FlatView → List FlatRow → ℕ → List (List ℕ)
rows_left journal rows before = map row_line (map (row_of journal.payloads) rows) ++ turns_left journal before

-- the lines of the bindings from a number on, and those behind them
abbrev pub bindings_left : FlatView → ℕ → List (ProtocolKind × ℕ) → List (List ℕ)
bindings_left journal number bindings = binding_lines number bindings ++ turns_left journal 0

abbrev pub lines_left : FlatView → Stage → List (List ℕ)
lines_left journal Head = lines journal
lines_left journal (Bindings number bindings) = bindings_left journal number bindings.now
lines_left journal (Rows rows before) = rows_left journal rows.now before
lines_left journal Done = []

-- those that are left and those before them are all, and what the rows refer to is there
abbrev pub IsWithin : FlatView → Stage → Type 0
IsWithin journal Head = Unit {0}
IsWithin journal (Bindings number bindings) = number + length bindings.now ≡ length journal.head.bindings
IsWithin journal (Rows rows before) = All (RowWithin journal.payloads) rows.now × (before ≤ length journal.turns)
IsWithin journal Done = Unit {0}

-- these lines are one line, which was added to a text, and those that are left at a stage behind it
pub record Follows (journal : FlatView) (old : List (List ℕ)) (before after : List ℕ) (stage : Stage) : Type 0 where
  pub line : List ℕ
  pub is : old ≡ line ∷ lines_left journal stage
  pub added : after ≡ before ++ line
  pub within : IsWithin journal stage
