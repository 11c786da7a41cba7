use Rattle.std.proofs.Common.{◌≡◌, ◌≤◌, [], List, length, Ok, ap, subst, arith}
use Rattle.std.proofs.lemmas.Result.{IfOk-weaker}
use Rattle.json_forms.specs.Lists.{read_all}
use Rattle.script_types.specs.declared.Call.{Call}
use Rattle.script_types.specs.declared.StackSetup.{StackSetup}
use Rattle.script_forms.specs.Script.{call_after}
use Rattle.script_file.specs.Usual.{Joins, IsScriptAt}
use Rattle.script_file.proofs.UsualLemmas.{script-whole}
use Rattle.script_file.proofs.whole.usual_script.Goals as goal

pub returns : goal.returns
returns c =
    let version = c.in_ok-version.version in
    let lanes = c.in_ok-lanes.lanes in
    let stacks = c.in_ok-stacks.stacks in
    let calls = c.in_ok-calls.calls in
    let read_stacks = c.in_ok-stacks.ensures in
    let read_calls = c.in_ok-calls.ensures in
    let are_calls = subst (λ (setups : List StackSetup). read_all (call_after lanes setups) [] read_calls.0 ≡ Ok calls) c.items.ensures read_calls.3 in
    let size = read_calls.2 in
    let counted = ap (λ (all : List Call). length all) c.items-2.ensures in
    let bound = c.in_ok-check_number-2.ensures.0 in
    let few : length read_calls.0 ≤ 16384 = omega (arith, size, counted, bound) in
    IfOk-weaker c.join.result (λ script. Joins version lanes stacks calls script) (λ script. IsScriptAt c.args.reader.now script c.end_object.new.reader)
    (λ script joins. script-whole script version lanes stacks calls _ read_stacks.0 read_calls.0 _ _ _ _ _ _ _ _ _ c.in_ok-begin_object.ensures (c.in_ok-version.ensures 126) (c.in_ok-lanes.ensures 126)
    c.in_ok-name.ensures c.in_ok-listed.ensures c.in_ok-name-2.ensures read_calls.1 c.in_ok-end_object.ensures read_stacks.1 read_stacks.2 few are_calls joins) c.join.ensures
