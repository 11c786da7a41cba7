-- A script is read as it was written.
use Rattle.std.proofs.Common.{◌≡◌, ℕ, ◌+◌, suc, ◌<◌, ◌≤◌, Bool, true, List, [], ◌∷◌, ◌++◌, length, map, Result, Ok, Err, sym, ap, ◌∙◌, arith}
use Rattle.std.specs.Prelude.{nat_le, ◌&&◌, ◌==◌}
use Rattle.std.specs.List.{list_all}
use Rattle.std.proofs.lemmas.Bool.Decides.{nat_tests}
use Rattle.std.proofs.lemmas.List.{length-append, length-map}
use Rattle.std.proofs.lemmas.List.Folds.{list_all-append}
use Rattle.serde_json.specs.Data.{Data}
use Rattle.json_forms.specs.Lists.{read_all}
use Rattle.json_forms.proofs.Reading.{read_all-written}
use Rattle.program_forms.proofs.RoundTrip.{and-left, and-right, list_all-at}
use Rattle.script_types.specs.declared.Call.{Call}
use Rattle.script_types.specs.declared.Script.{Script}
use Rattle.script_types.specs.declared.StackSetup.{StackSetup}
use Rattle.script_types.specs.declared.ScriptCause.{ScriptCause}
use Rattle.script_types.specs.declared.ScriptCause.TheVariants as cause
use Rattle.script_types.specs.declared.ScriptPlace.TheVariants as place
use Rattle.script_types.specs.declared.ScriptFault.{ScriptFault}
use Rattle.script_types.specs.declared.ScriptFault.TheVariants as fault
use Rattle.script_forms.specs.Results.{◌>>=◌, placed}
use Rattle.script_forms.specs.Script.{Outline, outline_in, stack_after, call_after, one_rewirer, two_rewirers, script_in}
use Rattle.script_writing.specs.Limits.{is_within, is_stack, are_linked, are_stacks, is_call, are_calls, is_script}
use Rattle.script_writing.specs.Written.{stack_data, call_data, script_data}
use Rattle.script_writing.proofs.CallsRead.{call_in-call_data}
use Rattle.script_writing.proofs.StacksRead.{stack_in-stack_data, are_linked-at}
use Rattle.script_writing.proofs.ValuesRead.{at_most, up_to, le-from_test, unless, number_in-number_data, list_in-written}

list_all-front : {A : Type 0} (p : A → Bool) (done rest : List A) → list_all p (done ++ rest) ≡ true → list_all p done ≡ true
list_all-front p done rest h = and-left _ _ (sym (list_all-append p done rest) ∙ h)

front-shorter : {A : Type 0} (done : List A) (x : A) (rest whole : List A) → whole ≡ done ++ x ∷ rest → length done < length whole
front-shorter done x rest whole e =
    let size : length whole ≡ length done + suc (length rest) = ap length e ∙ length-append done (x ∷ rest) in
    omega arith

stacks-back : (stacks : List StackSetup) → are_stacks stacks ≡ true → read_all (stack_after (length stacks)) [] (map stack_data stacks) ≡ Ok stacks
stacks-back stacks h =
    let few : length stacks ≤ 4 = at_most 1 4 (length stacks) (and-left _ _ h) in
    let both = and-right (is_within 1 4 (length stacks)) _ h in
    let good : list_all is_stack stacks ≡ true = and-left _ _ both in
    let links : are_linked [] stacks ≡ true = and-right (list_all is_stack stacks) _ both in
    read_all-written (stack_after (length stacks)) stack_data [] stacks
    (λ done stack rest e. ap (placed (place.Stack (length done)))
    (stack_in-stack_data (length stacks) done stack (front-shorter done stack rest stacks e) few
    (list_all-front is_stack done (stack ∷ rest) (ap (list_all is_stack) (sym e) ∙ good))
    (list_all-at is_stack done stack rest (ap (list_all is_stack) (sym e) ∙ good))
    (are_linked-at [] done stack rest (ap (are_linked []) (sym e) ∙ links))))

calls-back : (lanes : ℕ) (stacks : List StackSetup) (calls : List Call) → lanes ≤ 8 → length stacks ≤ 4 → list_all is_stack stacks ≡ true → list_all (is_call lanes stacks) calls ≡ true
    → read_all (call_after lanes stacks) [] (map call_data calls) ≡ Ok calls
calls-back lanes stacks calls few_lanes few_stacks good h =
    read_all-written (call_after lanes stacks) call_data [] calls
    (λ done call rest e. ap (placed (place.Call (length done)))
    (call_in-call_data lanes stacks call few_lanes few_stacks good (list_all-at (is_call lanes stacks) done call rest (ap (list_all (is_call lanes stacks)) (sym e) ∙ h))))

abbrev outline_from : Result ℕ ScriptCause → Result ℕ ScriptCause → Result (List Data) ScriptCause → Result (List Data) ScriptCause → Result Outline ScriptCause
outline_from told_version told_lanes told_stacks told_calls = do
  version ← told_version
  lanes ← told_lanes
  stacks ← told_stacks
  calls ← told_calls
  Ok (record { version = version; lanes = lanes; stacks = stacks; calls = calls })

outline-good : (v l : Result ℕ ScriptCause) (s c : Result (List Data) ScriptCause) (outline : Outline)
    → v ≡ Ok outline.version → l ≡ Ok outline.lanes → s ≡ Ok outline.stacks → c ≡ Ok outline.calls → outline_from v l s c ≡ Ok outline
outline-good v l s c outline ev el es ec = rw (ev, el, es, ec)

abbrev outline_of : Script → Outline
outline_of script = record { version = script.version; lanes = script.lanes; stacks = map stack_data script.stacks; calls = map call_data script.calls }

one_version : (n : ℕ) → (n == 1) ≡ true → is_within 1 1 n ≡ true
one_version n h = grind (arith, nat_tests)

outline-back : (script : Script) → is_script script ≡ true → outline_in (script_data script) ≡ Ok (outline_of script)
outline-back script h =
    let head = and-left _ _ h in
    let body = and-right (script.version == 1 && is_within 1 8 script.lanes) _ h in
    let stacks = and-left _ _ body in
    let calls = and-right (are_stacks script.stacks) _ body in
    outline-good _ _ _ _ (outline_of script) (number_in-number_data 1 1 script.version (one_version script.version (and-left _ _ head)))
    (number_in-number_data 1 8 script.lanes (and-right (script.version == 1) _ head))
    (list_in-written 1 4 stack_data script.stacks (and-left _ _ stacks))
    (list_in-written 0 16384 call_data script.calls (up_to 16384 (length script.calls) (le-from_test (length script.calls) 16384 (and-left _ _ calls))))

abbrev script_from : Result Outline ScriptFault → (Outline → Result (List StackSetup) ScriptFault) → (Outline → List StackSetup → Result (List Call) ScriptFault) → (List StackSetup → List Call → Result (Unit {0}) ScriptFault) → Result Script ScriptFault
script_from told_outline told_stacks told_calls told_rewirer = do
  outline ← told_outline
  stacks ← told_stacks outline
  calls ← told_calls outline stacks
  _ ← told_rewirer stacks calls
  Ok (record { version = outline.version; lanes = outline.lanes; stacks = stacks; calls = calls })

script-good : (o : Result Outline ScriptFault) (s : Outline → Result (List StackSetup) ScriptFault) (c : Outline → List StackSetup → Result (List Call) ScriptFault) (r : List StackSetup → List Call → Result (Unit {0}) ScriptFault) (script : Script)
    → o ≡ Ok (outline_of script) → s (outline_of script) ≡ Ok script.stacks → c (outline_of script) script.stacks ≡ Ok script.calls → r script.stacks script.calls ≡ Ok tt → script_from o s c r ≡ Ok script
script-good o s c r script eo es ec er = rw (eo, es, ec, er)

-- a script within the limits is what its JSON is
pub script_in-script_data : (script : Script) → is_script script ≡ true → script_in (script_data script) ≡ Ok script
script_in-script_data script h =
    let head = and-left _ _ h in
    let body = and-right (script.version == 1 && is_within 1 8 script.lanes) _ h in
    let stacks : are_stacks script.stacks ≡ true = and-left _ _ body in
    let calls : are_calls script.lanes script.stacks script.calls ≡ true = and-right (are_stacks script.stacks) _ body in
    let rest = and-right (nat_le (length script.calls) 16384) _ calls in
    let few_stacks : length script.stacks ≤ 4 = at_most 1 4 (length script.stacks) (and-left _ _ stacks) in
    let good : list_all is_stack script.stacks ≡ true = and-left _ _ (and-right (is_within 1 4 (length script.stacks)) _ stacks) in
    script-good (placed place.Whole (outline_in (script_data script))) (λ outline. read_all (stack_after (length outline.stacks)) [] outline.stacks)
    (λ outline those. read_all (call_after outline.lanes those) [] outline.calls) (λ those made. one_rewirer (length those) made) script
    (ap (placed place.Whole) (outline-back script h))
    (ap (λ n. read_all (stack_after n) [] (map stack_data script.stacks)) (length-map script.stacks stack_data) ∙ stacks-back script.stacks stacks)
    (calls-back script.lanes script.stacks script.calls (at_most 1 8 script.lanes (and-right (script.version == 1) _ head)) few_stacks good (and-left _ _ rest))
    (unless (two_rewirers (length script.stacks) script.calls) (Err (fault.Bad place.Whole cause.TwoRewirers)) (Ok tt) (and-right (list_all (is_call script.lanes script.stacks) script.calls) _ rest))
