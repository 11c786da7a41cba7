-- The lines of a journal that are left to be written.
use Rattle.std.specs.Prelude.{ℕ, ◌≡◌, ◌+◌, ◌++◌, List, [], ◌∷◌, map, length}
use Rattle.ndis_base.specs.declared.ProtocolKind.{ProtocolKind}
use Rattle.journal_store.specs.Written.{Written}
use Rattle.journal_types.specs.declared.Turn.{Turn}
use Rattle.journal_types.specs.declared.Row.{Row}
use Rattle.journal_lines.specs.Text.{binding_lines, turn_lines, row_line, end_line}
use Rattle.ndis_journal.specs.Text.{lines}
use Rattle.ndis_journal.specs.declared.lines.Stage.{Stage}
use Rattle.ndis_journal.specs.declared.lines.Stage.TheVariants.{Head, Bindings, Rows, Done}

-- the lines of the turns behind so many, and the last line
abbrev pub turns_left : Written → ℕ → List Turn → List (List ℕ)
turns_left journal before turns = turn_lines (before + 1) turns ++ end_line journal.head journal.turns ∷ []

-- the lines of the rows that are left of a turn, and those behind it
abbrev pub rows_left : Written → List Row → ℕ → List Turn → List (List ℕ)
rows_left journal rows before turns = map row_line rows ++ turns_left journal before turns

-- the lines of the bindings from a number on, and those behind them
abbrev pub bindings_left : Written → ℕ → List (ProtocolKind × ℕ) → List (List ℕ)
bindings_left journal number bindings = binding_lines number bindings ++ turns_left journal 0 journal.turns

abbrev pub lines_left : Written → Stage → List (List ℕ)
lines_left journal Head = lines journal
lines_left journal (Bindings number bindings) = bindings_left journal number bindings.now
lines_left journal (Rows rows before turns) = rows_left journal rows.now before turns.now
lines_left journal Done = []

-- those that are left and those before them are all
abbrev pub IsWithin : Written → Stage → Type 0
IsWithin journal Head = Unit {0}
IsWithin journal (Bindings number bindings) = number + length bindings.now ≡ length journal.head.bindings
IsWithin journal (Rows rows before turns) = before + length turns.now ≡ length journal.turns
IsWithin journal Done = Unit {0}

-- these lines are one line, which was added to a text, and those that are left at a stage behind it
pub record Follows (journal : Written) (old : List (List ℕ)) (before after : List ℕ) (stage : Stage) : Type 0 where
  pub line : List ℕ
  pub is : old ≡ line ∷ lines_left journal stage
  pub added : after ≡ before ++ line
  pub within : IsWithin journal stage
