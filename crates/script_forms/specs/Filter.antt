-- A filter of a script: its kind, its handlers, its pool and its two programs.
use Rattle.std.specs.Prelude.{ℕ, ◌++◌, Bool, List, [], ◌∷◌, codes, length, drop, slice_index, nat_lt, ◌==◌, ◌&&◌, true, false, Option, Some, None, Result, Ok, Err, if◌then◌else◌}
use Rattle.ndis_base.specs.Names.{filter_kind_text}
use Rattle.ndis_base.specs.declared.FilterKind.{FilterKind}
use Rattle.ndis_base.specs.declared.FilterKind.TheVariants as kind
use Rattle.ndis_base.specs.declared.Handlers.{Handlers}
use Rattle.program_types.specs.declared.Rule.{Rule}
use Rattle.program_forms.specs.Form.{program_in}
use Rattle.program_forms.specs.declared.reading.RuleFault.{RuleFault}
use Rattle.program_forms.specs.declared.reading.RuleFault.TheVariants.{BadRule, TooMany, Memory}
use Rattle.serde_json.specs.Data.{Data}
use Rattle.serde_json.specs.Find.{get}
use Rattle.script_types.specs.declared.FilterSetup.{FilterSetup}
use Rattle.script_types.specs.declared.ScriptCause.{ScriptCause}
use Rattle.script_types.specs.declared.ScriptCause.TheVariants as cause
use Rattle.script_forms.specs.Results.{◌>>=◌}
use Rattle.script_forms.specs.Values.{members_in, at, number_in, text_in, named}

abbrev pub filter_kinds : List FilterKind
filter_kinds = kind.Pass ∷ kind.Rule ∷ kind.Hold ∷ kind.Tag ∷ kind.Count ∷ kind.Classify ∷ []

abbrev pub filter_kind_in : Data → Result FilterKind ScriptCause
filter_kind_in d = do
  text ← text_in d
  named filter_kind_text filter_kinds text

abbrev pub letter_if : Bool → List ℕ → List ℕ
letter_if there letter = if there then letter else []

-- the letters of the handlers, in this order
abbrev pub handlers_text : Handlers → List ℕ
handlers_text h = letter_if h.send (codes "s") ++ (letter_if h.receive (codes "r") ++ (letter_if h.oid (codes "o") ++ letter_if h.status (codes "t")))

-- whether a letter stands in front of a text, and the text without it
abbrev pub letter_off : ℕ → List ℕ → Bool × List ℕ
letter_off letter text =
    if nat_lt 0 (length text) && (slice_index text 0 == letter) then (true, drop 1 text) else (false, text)

-- the letters are taken off in this order, s (115), r (114), o (111) and t (116); none is left
abbrev pub handlers_of_text : List ℕ → Result Handlers ScriptCause
handlers_of_text text =
    let send = letter_off 115 text in
    let receive = letter_off 114 send.1 in
    let oid = letter_off 111 receive.1 in
    let status = letter_off 116 oid.1 in
    if length status.1 == 0
    then Ok (record { send = send.0; receive = receive.0; oid = oid.0; status = status.0 })
    else Err cause.Range

abbrev pub handlers_in : Data → Result Handlers ScriptCause
handlers_in d = do
  text ← text_in d
  handlers_of_text text

-- nothing is told of a faulty program but that
abbrev pub program_or_fault : Result (List Rule) RuleFault → Result (List Rule) ScriptCause
program_or_fault (Ok rules) = Ok rules
program_or_fault (Err (BadRule place)) = Err cause.BadRule
program_or_fault (Err TooMany) = Err cause.TooMany
program_or_fault (Err Memory) = Err cause.BadRule

-- a program, or the empty one where it is left out
abbrev pub program_or_empty : Option Data → Result (List Rule) ScriptCause
program_or_empty None = Ok []
program_or_empty (Some d) = program_or_fault (program_in d)

abbrev pub filter_in : Data → Result FilterSetup ScriptCause
filter_in d = do
  _ ← members_in (codes "kind" ∷ codes "handlers" ∷ codes "pool" ∷ []) (codes "send" ∷ codes "receive" ∷ []) d
  filter_kind ← at (codes "kind") filter_kind_in d
  handlers ← at (codes "handlers") handlers_in d
  pool ← at (codes "pool") (number_in 1 256) d
  send ← program_or_empty (get (codes "send") d)
  receive ← program_or_empty (get (codes "receive") d)
  Ok (record { kind = filter_kind; setup = record { handlers = handlers; pool = pool; send = send; receive = receive } })
