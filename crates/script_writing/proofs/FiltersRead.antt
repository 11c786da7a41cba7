-- A filter is read as it was written.
use Rattle.std.proofs.Common.{◌≡◌, ℕ, Bool, true, false, List, Result, Ok, refl, ap}
use Rattle.std.specs.Prelude.{◌&&◌}
use Rattle.ndis_base.specs.Names.{filter_kind_text}
use Rattle.ndis_base.specs.declared.FilterKind.{FilterKind}
use Rattle.ndis_base.specs.declared.FilterKind.TheVariants as kind
use Rattle.ndis_base.specs.declared.Handlers.{Handlers}
use Rattle.journal_types.specs.declared.Setup.{Setup}
use Rattle.program_types.specs.declared.Rule.{Rule}
use Rattle.serde_json.specs.Data.{string}
use Rattle.program_forms.specs.Form.{program_in}
use Rattle.program_forms.specs.Written.{program_data, is_program}
use Rattle.program_forms.proofs.RoundTrip.{and-left, and-right, program_in-program_data}
use Rattle.script_types.specs.declared.FilterSetup.{FilterSetup}
use Rattle.script_types.specs.declared.ScriptCause.{ScriptCause}
use Rattle.script_forms.specs.Filter.{filter_kind_in, handlers_text, handlers_of_text, handlers_in, program_or_fault, filter_in}
use Rattle.script_forms.specs.Results.{◌>>=◌}
use Rattle.script_writing.specs.Limits.{is_within, is_setup}
use Rattle.script_writing.specs.Written.{filter_data}
use Rattle.script_writing.proofs.ValuesRead.{number_in-number_data}

filter_kind_in-written : (k : FilterKind) → filter_kind_in (string (filter_kind_text k)) ≡ Ok k
filter_kind_in-written kind.Pass = refl
filter_kind_in-written kind.Rule = refl
filter_kind_in-written kind.Hold = refl
filter_kind_in-written kind.Tag = refl
filter_kind_in-written kind.Count = refl
filter_kind_in-written kind.Classify = refl

abbrev letters : Bool → Bool → Bool → Bool → Handlers
letters s r o t = record { send = s; receive = r; oid = o; status = t }

letters-back : (s r o t : Bool) → handlers_of_text (handlers_text (letters s r o t)) ≡ Ok (letters s r o t)
letters-back true true true true = refl
letters-back true true true false = refl
letters-back true true false true = refl
letters-back true true false false = refl
letters-back true false true true = refl
letters-back true false true false = refl
letters-back true false false true = refl
letters-back true false false false = refl
letters-back false true true true = refl
letters-back false true true false = refl
letters-back false true false true = refl
letters-back false true false false = refl
letters-back false false true true = refl
letters-back false false true false = refl
letters-back false false false true = refl
letters-back false false false false = refl

handlers_in-written : (h : Handlers) → handlers_in (string (handlers_text h)) ≡ Ok h
handlers_in-written h = letters-back h.send h.receive h.oid h.status

program-back : (rules : List Rule) → is_program rules ≡ true → program_or_fault (program_in (program_data rules)) ≡ Ok rules
program-back rules h = ap program_or_fault (program_in-program_data rules h)

-- a filter from its parts
abbrev filter_from : Result FilterKind ScriptCause → Result Handlers ScriptCause → Result ℕ ScriptCause → Result (List Rule) ScriptCause → Result (List Rule) ScriptCause → Result FilterSetup ScriptCause
filter_from told_kind told_handlers told_pool told_send told_receive = do
  kind ← told_kind
  handlers ← told_handlers
  pool ← told_pool
  send ← told_send
  receive ← told_receive
  Ok (record { kind = kind; setup = record { handlers = handlers; pool = pool; send = send; receive = receive } })

filter_from-good : (k : Result FilterKind ScriptCause) (h : Result Handlers ScriptCause) (p : Result ℕ ScriptCause) (s r : Result (List Rule) ScriptCause) (kind : FilterKind) (setup : Setup)
    → k ≡ Ok kind → h ≡ Ok setup.handlers → p ≡ Ok setup.pool → s ≡ Ok setup.send → r ≡ Ok setup.receive
    → filter_from k h p s r ≡ Ok (record { kind = kind; setup = setup })
filter_from-good k h p s r kind setup ek eh ep es er = rw (ek, eh, ep, es, er)

pub filter_in-filter_data : (kind : FilterKind) (setup : Setup) → is_setup setup ≡ true → filter_in (filter_data kind setup) ≡ Ok (record { kind = kind; setup = setup })
filter_in-filter_data kind setup h =
    let programs : (is_program setup.send && is_program setup.receive) ≡ true = and-right (is_within 1 256 setup.pool) _ h in
    filter_from-good _ _ _ _ _ kind setup (filter_kind_in-written kind) (handlers_in-written setup.handlers)
    (number_in-number_data 1 256 setup.pool (and-left _ _ h)) (program-back setup.send (and-left _ _ programs)) (program-back setup.receive (and-right (is_program setup.send) _ programs))
