-- A call of a script: the lane that makes it, what it asks, of which stack, and whether its tail follows.
use Rattle.std.specs.Prelude.{ℕ, ◌-◌, ◌^◌, Bool, true, List, [], ◌∷◌, ◌++◌, length, codes, slice_get, Option, Some, None, Result, Ok, Err}
use Rattle.ndis_base.specs.Names.{oid_kind_text, status_name_text}
use Rattle.ndis_base.specs.declared.OidKind.{OidKind}
use Rattle.ndis_base.specs.declared.OidKind.TheVariants as oid_kind
use Rattle.ndis_base.specs.declared.StatusName.{StatusName}
use Rattle.ndis_base.specs.declared.StatusName.TheVariants as status_name
use Rattle.ndis_base.specs.declared.MiniportKind.{MiniportKind}
use Rattle.ndis_base.specs.declared.MiniportKind.TheVariants as miniport_kind
use Rattle.journal_types.specs.declared.Way.{Way}
use Rattle.journal_types.specs.declared.Way.TheVariants as way
use Rattle.serde_json.specs.Data.{Data}
use Rattle.serde_json.specs.Find.{get}
use Rattle.script_types.specs.declared.Call.{Call}
use Rattle.script_types.specs.declared.CallKind.{CallKind}
use Rattle.script_types.specs.declared.CallKind.TheVariants as ask
use Rattle.script_types.specs.declared.StackSetup.{StackSetup}
use Rattle.script_types.specs.declared.ScriptCause.{ScriptCause}
use Rattle.script_types.specs.declared.ScriptCause.TheVariants as cause
use Rattle.script_forms.specs.declared.words.CallWord.{CallWord}
use Rattle.script_forms.specs.declared.words.CallWord.TheVariants as word
use Rattle.script_forms.specs.Filter.{filter_in}
use Rattle.script_forms.specs.Results.{◌>>=◌, or_else}
use Rattle.script_forms.specs.Stack.{bindings_at}
use Rattle.script_forms.specs.Values.{members_in, at, number_in, place_in, text_in, truth_in, named, frames_in, code_in, value_in, filter_name_in}

abbrev pub word_text : CallWord → List ℕ
word_text word.Send = codes "send"
word_text word.Indicate = codes "indicate"
word_text word.Lend = codes "lend"
word_text word.GiveBack = codes "giveback"
word_text word.Cancel = codes "cancel"
word_text word.Ask = codes "ask"
word_text word.Status = codes "status"
word_text word.Transmit = codes "transmit"
word_text word.Pump = codes "pump"
word_text word.Drain = codes "drain"
word_text word.BeginPause = codes "begin_pause"
word_text word.PauseNext = codes "pause_next"
word_text word.RestartNext = codes "restart_next"
word_text word.Insert = codes "insert"
word_text word.Remove = codes "remove"
word_text word.Replace = codes "replace"
word_text word.Relay = codes "relay"

abbrev pub call_words : List CallWord
call_words = word.Send ∷ word.Indicate ∷ word.Lend ∷ word.GiveBack ∷ word.Cancel ∷ word.Ask ∷ word.Status ∷ word.Transmit ∷ word.Pump ∷ word.Drain
    ∷ word.BeginPause ∷ word.PauseNext ∷ word.RestartNext ∷ word.Insert ∷ word.Remove ∷ word.Replace ∷ word.Relay ∷ []

abbrev pub word_in : Data → Result CallWord ScriptCause
word_in d = do
  text ← text_in d
  named word_text call_words text

-- the members that a call must have
abbrev pub call_members : CallWord → List (List ℕ)
call_members word.Send = codes "lane" ∷ codes "call" ∷ codes "stack" ∷ codes "binding" ∷ codes "frames" ∷ []
call_members word.Indicate = codes "lane" ∷ codes "call" ∷ codes "stack" ∷ codes "frames" ∷ []
call_members word.Lend = codes "lane" ∷ codes "call" ∷ codes "stack" ∷ codes "frames" ∷ []
call_members word.GiveBack = codes "lane" ∷ codes "call" ∷ codes "stack" ∷ codes "binding" ∷ codes "list" ∷ []
call_members word.Cancel = codes "lane" ∷ codes "call" ∷ codes "stack" ∷ codes "id" ∷ []
call_members word.Ask = codes "lane" ∷ codes "call" ∷ codes "stack" ∷ codes "binding" ∷ codes "kind" ∷ codes "code" ∷ []
call_members word.Status = codes "lane" ∷ codes "call" ∷ codes "stack" ∷ codes "name" ∷ []
call_members word.Insert = codes "lane" ∷ codes "call" ∷ codes "stack" ∷ codes "position" ∷ codes "filter" ∷ []
call_members word.Remove = codes "lane" ∷ codes "call" ∷ codes "stack" ∷ codes "module" ∷ []
call_members word.Replace = codes "lane" ∷ codes "call" ∷ codes "stack" ∷ codes "module" ∷ codes "filter" ∷ []
call_members word.Relay = codes "lane" ∷ codes "call" ∷ codes "stack" ∷ codes "way" ∷ []
call_members _ = codes "lane" ∷ codes "call" ∷ codes "stack" ∷ []

-- the members that it may leave out
abbrev pub call_options : CallWord → List (List ℕ)
call_options word.Send = codes "pump" ∷ codes "cancel" ∷ []
call_options word.Ask = codes "pump" ∷ codes "value" ∷ []
call_options _ = codes "pump" ∷ []

abbrev pub linked_or_fault : ℕ → MiniportKind → Result ℕ ScriptCause
linked_or_fault place miniport_kind.Virtual = Ok place
linked_or_fault place miniport_kind.Ring = Err cause.BadLink
linked_or_fault place miniport_kind.Loop = Err cause.BadLink

abbrev pub is_virtual_or_fault : ℕ → Option StackSetup → Result ℕ ScriptCause
is_virtual_or_fault place None = Err cause.Range
is_virtual_or_fault place (Some stack) = linked_or_fault place stack.miniport.kind

-- a relay's stack has a virtual miniport
abbrev pub stack_for : CallWord → List StackSetup → ℕ → Result ℕ ScriptCause
stack_for word.Relay stacks place = is_virtual_or_fault place (slice_get stacks place)
stack_for _ stacks place = Ok place

abbrev pub pump_in : Option Data → Result Bool ScriptCause
pump_in None = Ok true
pump_in (Some d) = truth_in d

-- a binding of a stack of so many
abbrev pub binding_number_in : ℕ → Data → Result ℕ ScriptCause
binding_number_in count d = at (codes "binding") (place_in 7 count) d

abbrev pub cancel_in : Option Data → Result (Option ℕ) ScriptCause
cancel_in None = Ok None
cancel_in (Some d) = do
  id ← number_in 1 4294967295 d
  Ok (Some id)

abbrev pub send_in : ℕ → Data → Result CallKind ScriptCause
send_in count d = do
  binding ← binding_number_in count d
  cancel ← cancel_in (get (codes "cancel") d)
  frames ← at (codes "frames") frames_in d
  Ok (ask.Send binding cancel frames)

abbrev pub indicate_in : Data → Result CallKind ScriptCause
indicate_in d = do
  frames ← at (codes "frames") frames_in d
  Ok (ask.Indicate frames)

abbrev pub lend_in : Data → Result CallKind ScriptCause
lend_in d = do
  frames ← at (codes "frames") frames_in d
  Ok (ask.Lend frames)

abbrev pub give_back_in : ℕ → Data → Result CallKind ScriptCause
give_back_in count d = do
  binding ← binding_number_in count d
  list ← at (codes "list") (number_in 1 1152921504606846976) d
  Ok (ask.GiveBack binding (record { 0 = list }))

abbrev pub cancel_call_in : Data → Result CallKind ScriptCause
cancel_call_in d = do
  id ← at (codes "id") (number_in 1 4294967295) d
  Ok (ask.Cancel id)

abbrev pub oid_kind_in : Data → Result OidKind ScriptCause
oid_kind_in d = do
  text ← text_in d
  named oid_kind_text (oid_kind.Query ∷ oid_kind.Set ∷ []) text

abbrev pub value_or_empty : Option Data → Result (List ℕ) ScriptCause
value_or_empty None = Ok []
value_or_empty (Some d) = value_in d

abbrev pub ask_in : ℕ → Data → Result CallKind ScriptCause
ask_in count d = do
  binding ← binding_number_in count d
  kind ← at (codes "kind") oid_kind_in d
  code ← at (codes "code") code_in d
  value ← value_or_empty (get (codes "value") d)
  Ok (ask.Ask binding kind code value)

abbrev pub status_in : Data → Result CallKind ScriptCause
status_in d = do
  text ← at (codes "name") text_in d
  name ← named status_name_text (status_name.LinkUp ∷ status_name.LinkDown ∷ status_name.Notice ∷ []) text
  Ok (ask.Status name)

abbrev pub insert_in : Data → Result CallKind ScriptCause
insert_in d = do
  position ← at (codes "position") (number_in 0 255) d
  filter ← at (codes "filter") filter_in d
  Ok (ask.Insert position filter.kind filter.setup)

abbrev pub remove_in : Data → Result CallKind ScriptCause
remove_in d = do
  name ← at (codes "module") filter_name_in d
  Ok (ask.Remove name)

abbrev pub replace_in : Data → Result CallKind ScriptCause
replace_in d = do
  name ← at (codes "module") filter_name_in d
  filter ← at (codes "filter") filter_in d
  Ok (ask.Replace name filter.kind filter.setup)

abbrev pub way_text : Way → List ℕ
way_text way.Down = codes "down"
way_text way.Up = codes "up"

abbrev pub relay_in : Data → Result CallKind ScriptCause
relay_in d = do
  text ← at (codes "way") text_in d
  way ← named way_text (way.Down ∷ way.Up ∷ []) text
  Ok (ask.Relay way)

-- the members of a call's own, on a stack of so many bindings
abbrev pub kind_in : CallWord → ℕ → Data → Result CallKind ScriptCause
kind_in word.Send count d = send_in count d
kind_in word.Indicate count d = indicate_in d
kind_in word.Lend count d = lend_in d
kind_in word.GiveBack count d = give_back_in count d
kind_in word.Cancel count d = cancel_call_in d
kind_in word.Ask count d = ask_in count d
kind_in word.Status count d = status_in d
kind_in word.Transmit count d = Ok ask.Transmit
kind_in word.Pump count d = Ok ask.Pump
kind_in word.Drain count d = Ok ask.Drain
kind_in word.BeginPause count d = Ok ask.BeginPause
kind_in word.PauseNext count d = Ok ask.PauseNext
kind_in word.RestartNext count d = Ok ask.RestartNext
kind_in word.Insert count d = insert_in d
kind_in word.Remove count d = remove_in d
kind_in word.Replace count d = replace_in d
kind_in word.Relay count d = relay_in d

-- a call of a script of so many lanes and of these stacks
abbrev pub call_in : ℕ → List StackSetup → Data → Result Call ScriptCause
call_in lanes stacks d = do
  word ← at (codes "call") word_in d
  _ ← members_in (call_members word) (call_options word) d
  lane ← at (codes "lane") (place_in 7 lanes) d
  place ← at (codes "stack") (place_in 3 (length stacks)) d
  stack ← stack_for word stacks place
  pump ← pump_in (get (codes "pump") d)
  kind ← kind_in word (length (bindings_at stacks stack)) d
  Ok (record { lane = record { 0 = lane }; stack = stack; pump = pump; kind = kind })
