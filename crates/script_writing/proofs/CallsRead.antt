-- A call is read as it was written.
use Rattle.std.proofs.Common.{◌≡◌, ℕ, zero, suc, ◌<◌, ◌≤◌, Bool, true, List, [], ◌∷◌, length, Option, Some, None, Result, Ok, refl, ap, ◌∙◌, codes, arith}
use Rattle.std.specs.Prelude.{nat_lt, nat_le, slice_get}
use Rattle.std.specs.List.{list_all}
use Rattle.std.proofs.lemmas.Bool.{false≢true}
use Rattle.ndis_base.specs.Names.{oid_kind_text}
use Rattle.ndis_base.specs.declared.MiniportKind.{MiniportKind}
use Rattle.ndis_base.specs.declared.MiniportKind.TheVariants as miniport_kind
use Rattle.ndis_base.specs.declared.OidKind.{OidKind}
use Rattle.ndis_base.specs.declared.OidKind.TheVariants as oid_kind
use Rattle.ndis_base.specs.declared.StatusName.TheVariants as status_name
use Rattle.journal_types.specs.declared.Way.{Way}
use Rattle.journal_types.specs.declared.Way.TheVariants as way
use Rattle.serde_json.specs.Data.{Data, boolean, string}
use Rattle.serde_json.specs.Find.{get}
use Rattle.program_forms.specs.Written.{number_data}
use Rattle.program_forms.proofs.RoundTrip.{and-left, and-right}
use Rattle.script_types.specs.declared.Call.{Call}
use Rattle.script_types.specs.declared.CallKind.{CallKind}
use Rattle.script_types.specs.declared.CallKind.TheVariants as ask
use Rattle.script_types.specs.declared.FilterSetup.{FilterSetup}
use Rattle.script_types.specs.declared.StackSetup.{StackSetup}
use Rattle.script_types.specs.declared.ScriptCause.{ScriptCause}
use Rattle.script_types.specs.declared.ScriptCause.TheVariants as cause
use Rattle.script_forms.specs.declared.words.CallWord.{CallWord}
use Rattle.script_forms.specs.declared.words.CallWord.TheVariants as word
use Rattle.script_forms.specs.Call.{word_in, call_members, call_options, linked_or_fault, is_virtual_or_fault, stack_for, pump_in, oid_kind_in, kind_in, call_in}
use Rattle.script_forms.specs.Results.{◌>>=◌, or_else}
use Rattle.script_forms.specs.Stack.{bindings_of, bindings_at}
use Rattle.script_forms.specs.Values.{members_in, at, number_in, place_in}
use Rattle.script_writing.specs.Limits.{is_within, is_stack, is_virtual, is_cancel, may_ask, may_ask_of, is_binding_of, is_call}
use Rattle.script_writing.specs.Written.{kind_data, call_data}
use Rattle.script_writing.proofs.FiltersRead.{filter_in-filter_data}
use Rattle.script_writing.proofs.StacksRead.{bindings_at-few}
use Rattle.script_writing.proofs.ValuesRead.{up_to, le-from_test, lt-from_test, lt-test, number_in-number_data, place_in-number_data, frames_in-frames_data, code_in-code_data, value_in-hex_data, filter_name_in-filter_name_data}

abbrev word_of : CallKind → CallWord
word_of (ask.Send binding cancel frames) = word.Send
word_of (ask.Indicate frames) = word.Indicate
word_of (ask.Lend frames) = word.Lend
word_of (ask.GiveBack binding list) = word.GiveBack
word_of (ask.Cancel id) = word.Cancel
word_of (ask.Ask binding kind code value) = word.Ask
word_of (ask.Status name) = word.Status
word_of ask.Transmit = word.Transmit
word_of ask.Pump = word.Pump
word_of ask.Drain = word.Drain
word_of ask.BeginPause = word.BeginPause
word_of ask.PauseNext = word.PauseNext
word_of ask.RestartNext = word.RestartNext
word_of (ask.Insert position kind setup) = word.Insert
word_of (ask.Remove filter) = word.Remove
word_of (ask.Replace filter kind setup) = word.Replace
word_of (ask.Relay way) = word.Relay

-- ---- what each call has

record HasShared (call : Call) (w : CallWord) (d : Data) : Type 0 where
  word_is : at (codes "call") word_in d ≡ Ok w
  members_are : members_in (call_members w) (call_options w) d ≡ Ok tt
  lane_is : get (codes "lane") d ≡ Some (number_data call.lane.0)
  stack_is : get (codes "stack") d ≡ Some (number_data call.stack)
  pump_is : get (codes "pump") d ≡ Some (boolean call.pump)

shared : (call : Call) (kind : CallKind) → HasShared call (word_of kind) (kind_data call kind)
shared call (ask.Send binding None frames) = record { word_is = refl; members_are = refl; lane_is = refl; stack_is = refl; pump_is = refl }
shared call (ask.Send binding (Some id) frames) = record { word_is = refl; members_are = refl; lane_is = refl; stack_is = refl; pump_is = refl }
shared call (ask.Indicate frames) = record { word_is = refl; members_are = refl; lane_is = refl; stack_is = refl; pump_is = refl }
shared call (ask.Lend frames) = record { word_is = refl; members_are = refl; lane_is = refl; stack_is = refl; pump_is = refl }
shared call (ask.GiveBack binding list) = record { word_is = refl; members_are = refl; lane_is = refl; stack_is = refl; pump_is = refl }
shared call (ask.Cancel id) = record { word_is = refl; members_are = refl; lane_is = refl; stack_is = refl; pump_is = refl }
shared call (ask.Ask binding kind code value) = record { word_is = refl; members_are = refl; lane_is = refl; stack_is = refl; pump_is = refl }
shared call (ask.Status name) = record { word_is = refl; members_are = refl; lane_is = refl; stack_is = refl; pump_is = refl }
shared call ask.Transmit = record { word_is = refl; members_are = refl; lane_is = refl; stack_is = refl; pump_is = refl }
shared call ask.Pump = record { word_is = refl; members_are = refl; lane_is = refl; stack_is = refl; pump_is = refl }
shared call ask.Drain = record { word_is = refl; members_are = refl; lane_is = refl; stack_is = refl; pump_is = refl }
shared call ask.BeginPause = record { word_is = refl; members_are = refl; lane_is = refl; stack_is = refl; pump_is = refl }
shared call ask.PauseNext = record { word_is = refl; members_are = refl; lane_is = refl; stack_is = refl; pump_is = refl }
shared call ask.RestartNext = record { word_is = refl; members_are = refl; lane_is = refl; stack_is = refl; pump_is = refl }
shared call (ask.Insert position kind setup) = record { word_is = refl; members_are = refl; lane_is = refl; stack_is = refl; pump_is = refl }
shared call (ask.Remove filter) = record { word_is = refl; members_are = refl; lane_is = refl; stack_is = refl; pump_is = refl }
shared call (ask.Replace filter kind setup) = record { word_is = refl; members_are = refl; lane_is = refl; stack_is = refl; pump_is = refl }
shared call (ask.Relay way) = record { word_is = refl; members_are = refl; lane_is = refl; stack_is = refl; pump_is = refl }

-- ---- what a call has of its own

abbrev one_from : {A : Type 0} → Result A ScriptCause → (A → CallKind) → Result CallKind ScriptCause
one_from told kind = told >>= (λ a. Ok (kind a))

one-good : {A : Type 0} (told : Result A ScriptCause) (kind : A → CallKind) (a : A) → told ≡ Ok a → one_from told kind ≡ Ok (kind a)
one-good told kind a e = ap (λ r. r >>= (λ x. Ok (kind x))) e

abbrev two_from : {A B : Type 0} → Result A ScriptCause → Result B ScriptCause → (A → B → CallKind) → Result CallKind ScriptCause
two_from first second kind = first >>= (λ a. second >>= (λ b. Ok (kind a b)))

two-good : {A B : Type 0} (first : Result A ScriptCause) (second : Result B ScriptCause) (kind : A → B → CallKind) (a : A) (b : B) → first ≡ Ok a → second ≡ Ok b → two_from first second kind ≡ Ok (kind a b)
two-good first second kind a b ea eb = rw (ea, eb)

abbrev three_from : {A B C : Type 0} → Result A ScriptCause → Result B ScriptCause → Result C ScriptCause → (A → B → C → CallKind) → Result CallKind ScriptCause
three_from first second third kind = first >>= (λ a. second >>= (λ b. third >>= (λ c. Ok (kind a b c))))

three-good : {A B C : Type 0} (first : Result A ScriptCause) (second : Result B ScriptCause) (third : Result C ScriptCause) (kind : A → B → C → CallKind) (a : A) (b : B) (c : C)
    → first ≡ Ok a → second ≡ Ok b → third ≡ Ok c → three_from first second third kind ≡ Ok (kind a b c)
three-good first second third kind a b c ea eb ec = rw (ea, eb, ec)

oid_kind_in-written : (k : OidKind) → oid_kind_in (string (oid_kind_text k)) ≡ Ok k
oid_kind_in-written oid_kind.Query = refl
oid_kind_in-written oid_kind.Set = refl

cancel-back : (id : ℕ) → is_within 1 4294967295 id ≡ true → (number_in 1 4294967295 (number_data id) >>= (λ n. Ok (Some n))) ≡ Ok (Some id)
cancel-back id h = ap (λ r. r >>= (λ n. Ok (Some n))) (number_in-number_data 1 4294967295 id h)

binding-back : (stack : StackSetup) (binding : ℕ) → length stack.bindings ≤ 8 → is_binding_of stack binding ≡ true → place_in 7 (length stack.bindings) (number_data binding) ≡ Ok binding
binding-back stack binding few h =
    let there : binding < length stack.bindings = lt-from_test binding (length stack.bindings) h in
    place_in-number_data 7 (length stack.bindings) binding (omega arith) h

abbrev ask_from : Result ℕ ScriptCause → Result OidKind ScriptCause → Result ℕ ScriptCause → Result (List ℕ) ScriptCause → Result CallKind ScriptCause
ask_from told_binding told_kind told_code told_value = do
  binding ← told_binding
  kind ← told_kind
  code ← told_code
  value ← told_value
  Ok (ask.Ask binding kind code value)

ask-good : (b : Result ℕ ScriptCause) (k : Result OidKind ScriptCause) (c : Result ℕ ScriptCause) (v : Result (List ℕ) ScriptCause) (binding : ℕ) (kind : OidKind) (code : ℕ) (value : List ℕ)
    → b ≡ Ok binding → k ≡ Ok kind → c ≡ Ok code → v ≡ Ok value → ask_from b k c v ≡ Ok (ask.Ask binding kind code value)
ask-good b k c v binding kind code value eb ek ec ev = rw (eb, ek, ec, ev)

own : (stack : StackSetup) (call : Call) (kind : CallKind) → length stack.bindings ≤ 8 → may_ask stack kind ≡ true
    → kind_in (word_of kind) (length stack.bindings) (kind_data call kind) ≡ Ok kind
own stack call (ask.Send binding None frames) few h =
    three-good _ (Ok None) _ ask.Send binding None frames (binding-back stack binding few (and-left _ _ h)) refl (frames_in-frames_data frames (and-right (is_binding_of stack binding) _ h))
own stack call (ask.Send binding (Some id) frames) few h =
    let rest = and-right (is_binding_of stack binding) _ h in
    three-good _ _ _ ask.Send binding (Some id) frames (binding-back stack binding few (and-left _ _ h)) (cancel-back id (and-left _ _ rest)) (frames_in-frames_data frames (and-right (is_cancel (Some id)) _ rest))
own stack call (ask.Indicate frames) few h = one-good _ ask.Indicate frames (frames_in-frames_data frames h)
own stack call (ask.Lend frames) few h = one-good _ ask.Lend frames (frames_in-frames_data frames h)
own stack call (ask.GiveBack binding list) few h =
    two-good _ _ (λ (b n : ℕ). ask.GiveBack b (record { 0 = n })) binding list.0 (binding-back stack binding few (and-left _ _ h)) (number_in-number_data 1 1152921504606846976 list.0 (and-right (is_binding_of stack binding) _ h))
own stack call (ask.Cancel id) few h = one-good _ ask.Cancel id (number_in-number_data 1 4294967295 id h)
own stack call (ask.Ask binding kind code value) few h =
    let rest = and-right (is_binding_of stack binding) _ h in
    ask-good _ _ _ _ binding kind code value (binding-back stack binding few (and-left _ _ h)) (oid_kind_in-written kind) (code_in-code_data code (and-left _ _ rest)) (value_in-hex_data value (and-right (nat_lt code 4294967296) _ rest))
own stack call (ask.Status status_name.LinkUp) few h = refl
own stack call (ask.Status status_name.LinkDown) few h = refl
own stack call (ask.Status status_name.Notice) few h = refl
own stack call ask.Transmit few h = refl
own stack call ask.Pump few h = refl
own stack call ask.Drain few h = refl
own stack call ask.BeginPause few h = refl
own stack call ask.PauseNext few h = refl
own stack call ask.RestartNext few h = refl
own stack call (ask.Insert position kind setup) few h =
    two-good _ _ (λ (p : ℕ) (filter : FilterSetup). ask.Insert p filter.kind filter.setup) position (record { kind = kind; setup = setup })
    (number_in-number_data 0 255 position (up_to 255 position (le-from_test position 255 (and-left _ _ h)))) (filter_in-filter_data kind setup (and-right (nat_le position 255) _ h))
own stack call (ask.Remove filter) few h = one-good _ ask.Remove filter (filter_name_in-filter_name_data filter h)
own stack call (ask.Replace filter kind setup) few h =
    two-good _ _ (λ (n : ℕ) (replacement : FilterSetup). ask.Replace n replacement.kind replacement.setup) filter (record { kind = kind; setup = setup })
    (filter_name_in-filter_name_data filter (and-left _ _ h)) (filter_in-filter_data kind setup (and-right (nat_le filter 999999999) _ h))
own stack call (ask.Relay way.Down) few h = refl
own stack call (ask.Relay way.Up) few h = refl

own-of : (o : Option StackSetup) (call : Call) (kind : CallKind) → length (bindings_of o) ≤ 8 → may_ask_of o kind ≡ true
    → kind_in (word_of kind) (length (bindings_of o)) (kind_data call kind) ≡ Ok kind
own-of None call kind few h = absurd (false≢true h)
own-of (Some stack) call kind few h = own stack call kind few h

-- a relay's stack has a virtual miniport
virtual-good : (place : ℕ) (k : MiniportKind) → is_virtual k ≡ true → linked_or_fault place k ≡ Ok place
virtual-good place miniport_kind.Virtual h = refl
virtual-good place miniport_kind.Ring h = absurd (false≢true h)
virtual-good place miniport_kind.Loop h = absurd (false≢true h)

relay-good : (place : ℕ) (o : Option StackSetup) (way : Way) → may_ask_of o (ask.Relay way) ≡ true → is_virtual_or_fault place o ≡ Ok place
relay-good place None way h = absurd (false≢true h)
relay-good place (Some stack) way h = virtual-good place stack.miniport.kind h

stack-good : (stacks : List StackSetup) (place : ℕ) (kind : CallKind) → may_ask_of (slice_get stacks place) kind ≡ true → stack_for (word_of kind) stacks place ≡ Ok place
stack-good stacks place (ask.Send binding cancel frames) h = refl
stack-good stacks place (ask.Indicate frames) h = refl
stack-good stacks place (ask.Lend frames) h = refl
stack-good stacks place (ask.GiveBack binding list) h = refl
stack-good stacks place (ask.Cancel id) h = refl
stack-good stacks place (ask.Ask binding kind code value) h = refl
stack-good stacks place (ask.Status name) h = refl
stack-good stacks place ask.Transmit h = refl
stack-good stacks place ask.Pump h = refl
stack-good stacks place ask.Drain h = refl
stack-good stacks place ask.BeginPause h = refl
stack-good stacks place ask.PauseNext h = refl
stack-good stacks place ask.RestartNext h = refl
stack-good stacks place (ask.Insert position kind setup) h = refl
stack-good stacks place (ask.Remove filter) h = refl
stack-good stacks place (ask.Replace filter kind setup) h = refl
stack-good stacks place (ask.Relay way) h = relay-good place (slice_get stacks place) way h

-- ---- the whole call

-- a call is made of a stack that is there
asked-within : (stacks : List StackSetup) (place : ℕ) (kind : CallKind) → may_ask_of (slice_get stacks place) kind ≡ true → nat_lt place (length stacks) ≡ true
asked-within stacks place kind h = lt-test place (length stacks) (below stacks place h)
  where
    below : (those : List StackSetup) (i : ℕ) → may_ask_of (slice_get those i) kind ≡ true → i < length those
    below [] i k = absurd (false≢true k)
    below (s ∷ ss) zero k = omega arith
    below (s ∷ ss) (suc i) k = let more : i < length ss = below ss i k in omega arith

abbrev call_from : Result CallWord ScriptCause → (CallWord → Result (Unit {0}) ScriptCause) → Result ℕ ScriptCause → Result ℕ ScriptCause → (CallWord → ℕ → Result ℕ ScriptCause) → Result Bool ScriptCause → (CallWord → ℕ → Result CallKind ScriptCause) → Result Call ScriptCause
call_from told_word told_members told_lane told_place told_stack told_pump told_kind = do
  w ← told_word
  _ ← told_members w
  lane ← told_lane
  place ← told_place
  stack ← told_stack w place
  pump ← told_pump
  kind ← told_kind w stack
  Ok (record { lane = record { 0 = lane }; stack = stack; pump = pump; kind = kind })

call-good : (w : Result CallWord ScriptCause) (m : CallWord → Result (Unit {0}) ScriptCause) (l p : Result ℕ ScriptCause) (s : CallWord → ℕ → Result ℕ ScriptCause) (u : Result Bool ScriptCause) (k : CallWord → ℕ → Result CallKind ScriptCause)
    (call : Call) (told : CallWord) → w ≡ Ok told → m told ≡ Ok tt → l ≡ Ok call.lane.0 → p ≡ Ok call.stack → s told call.stack ≡ Ok call.stack → u ≡ Ok call.pump → k told call.stack ≡ Ok call.kind
    → call_from w m l p s u k ≡ Ok call
call-good w m l p s u k call told ew em el ep es eu ek = rw (ew, em, el, ep, es, eu, ek)

pub call_in-call_data : (lanes : ℕ) (stacks : List StackSetup) (call : Call) → lanes ≤ 8 → length stacks ≤ 4 → list_all is_stack stacks ≡ true → is_call lanes stacks call ≡ true → call_in lanes stacks (call_data call) ≡ Ok call
call_in-call_data lanes stacks call few_lanes few_stacks good h =
    let d : Data = call_data call in
    let has : HasShared call (word_of call.kind) d = shared call call.kind in
    let asked : may_ask_of (slice_get stacks call.stack) call.kind ≡ true = and-right (nat_lt call.lane.0 lanes) _ h in
    let lane_there : nat_lt call.lane.0 lanes ≡ true = and-left _ _ h in
    let stack_there : nat_lt call.stack (length stacks) ≡ true = asked-within stacks call.stack call.kind asked in
    let lane_below : call.lane.0 < lanes = lt-from_test call.lane.0 lanes lane_there in
    let stack_below : call.stack < length stacks = lt-from_test call.stack (length stacks) stack_there in
    call-good (at (codes "call") word_in d) (λ w. members_in (call_members w) (call_options w) d) (at (codes "lane") (place_in 7 lanes) d) (at (codes "stack") (place_in 3 (length stacks)) d)
    (λ w place. stack_for w stacks place) (pump_in (get (codes "pump") d)) (λ w stack. kind_in w (length (bindings_at stacks stack)) d) call (word_of call.kind)
    has.word_is has.members_are
    (ap (λ o. or_else cause.Shape o >>= place_in 7 lanes) has.lane_is ∙ place_in-number_data 7 lanes call.lane.0 (omega arith) lane_there)
    (ap (λ o. or_else cause.Shape o >>= place_in 3 (length stacks)) has.stack_is ∙ place_in-number_data 3 (length stacks) call.stack (omega arith) stack_there)
    (stack-good stacks call.stack call.kind asked) (ap pump_in has.pump_is)
    (own-of (slice_get stacks call.stack) call call.kind (bindings_at-few stacks call.stack good) asked)
