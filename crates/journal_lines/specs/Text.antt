-- The text of a journal: its lines, each with a line feed at its end.
use Rattle.std.specs.Prelude.{ℕ, ◌+◌, ◌++◌, List, [], ◌∷◌, Option, Some, None, codes, decimal, map, length}
use Rattle.std.specs.List.{concat}
use Rattle.ndis_base.specs.Names.{miniport_kind_text, protocol_kind_text}
use Rattle.ndis_base.specs.declared.ProtocolKind.{ProtocolKind}
use Rattle.journal_types.specs.declared.PortSetup.{PortSetup}
use Rattle.journal_types.specs.declared.StackHead.{StackHead}
use Rattle.journal_types.specs.declared.Turn.{Turn}
use Rattle.journal_types.specs.declared.Row.{Row}
use Rattle.journal_words.specs.Words.{spaced, hex_text, binding_text}
use Rattle.journal_events.specs.Events.{who_words, event_words, reply_words}
use Rattle.journal_rows.specs.Rows.{row_words}
use Rattle.journal_lines.specs.Counted.{is_issue, is_home, is_wire, is_deliver, rows_of}

-- for a virtual miniport the stack below, the binding there and the VLAN
abbrev pub link_words : Option (ℕ × ℕ) → List (List ℕ)
link_words None = []
link_words (Some link) = codes "lower" ∷ decimal link.0 ∷ binding_text link.1 ∷ []

abbrev pub vlan_words : Option ℕ → List (List ℕ)
vlan_words None = []
vlan_words (Some vlan) = codes "vlan" ∷ decimal vlan ∷ []

abbrev pub port_words : PortSetup → List (List ℕ)
port_words port = codes "address" ∷ hex_text port.address ∷ codes "ring" ∷ decimal port.ring ∷ codes "pool" ∷ decimal port.pool ∷ []

abbrev pub stack_words : StackHead → List (List ℕ)
stack_words head = decimal head.stack ∷ codes "miniport" ∷ miniport_kind_text head.kind ∷ []

unfoldable pub head_line : StackHead → List ℕ
head_line head = spaced (spaced (spaced (spaced (codes "stack") (stack_words head)) (port_words head.port)) (link_words head.link)) (vlan_words head.port.vlan) ++ codes "\n"

unfoldable pub binding_line : ℕ → ProtocolKind × ℕ → List ℕ
binding_line number setup = spaced (codes "binding") (binding_text number ∷ protocol_kind_text setup.0 ∷ codes "pool" ∷ decimal setup.1 ∷ []) ++ codes "\n"

-- the lines of bindings, of which the first has this number
abbrev pub binding_lines : ℕ → List (ProtocolKind × ℕ) → List (List ℕ)
binding_lines number [] = []
binding_lines number (setup ∷ setups) = binding_line number setup ∷ binding_lines (number + 1) setups

-- the line of the turn of this number
unfoldable pub turn_line : ℕ → Turn → List ℕ
turn_line number turn = spaced (spaced (spaced (spaced (codes "turn") (decimal number ∷ [])) (who_words turn.who)) (event_words turn.event)) (codes "=" ∷ reply_words turn.reply) ++ codes "\n"

unfoldable pub row_line : Row → List ℕ
row_line row = spaced [] (row_words row) ++ codes "\n"

-- the lines of turns and of their rows, of which the first turn has this number
abbrev pub turn_lines : ℕ → List Turn → List (List ℕ)
turn_lines number [] = []
turn_lines number (turn ∷ turns) = turn_line number turn ∷ (map row_line turn.rows ++ turn_lines (number + 1) turns)

-- how many turns a journal has, and how many rows of the kinds that are counted
abbrev pub count_words : List Turn → List (List ℕ)
count_words turns = codes "turns" ∷ decimal (length turns) ∷ codes "lists" ∷ decimal (rows_of is_issue turns) ∷ codes "homes" ∷ decimal (rows_of is_home turns) ∷ codes "wires" ∷ decimal (rows_of is_wire turns) ∷ codes "delivers" ∷ decimal (rows_of is_deliver turns) ∷ []

unfoldable pub end_line : StackHead → List Turn → List ℕ
end_line head turns = spaced (codes "end") (codes "stack" ∷ decimal head.stack ∷ count_words turns) ++ codes "\n"

-- the lines of a journal
abbrev pub lines_of : StackHead → List Turn → List (List ℕ)
lines_of head turns = head_line head ∷ (binding_lines 0 head.bindings ++ (turn_lines 1 turns ++ end_line head turns ∷ []))

-- the text of a journal
abbrev pub text_of : StackHead → List Turn → List ℕ
text_of head turns = concat (lines_of head turns)
