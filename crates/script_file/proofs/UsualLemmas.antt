-- A script of the usual order, from its parts.
use Rattle.std.proofs.Common.{◌≡◌, ℕ, ◌≤◌, List, [], length, codes, Some, None, Ok, ap, sym, ◌∙◌, ◌∷◌, arith}
use Rattle.std.specs.Prelude.{IsUtf8}
use Rattle.json.specs.Token.{Token}
use Rattle.json.specs.Json.{read_key}
use Rattle.serde_json.specs.Data.{Data, unsigned, number, object, array, no_members}
use Rattle.serde_json.specs.Read.{read as read_text}
use Rattle.serde_json.specs.View.{items_of}
use Rattle.json_forms.specs.Lists.{read_all}
use Rattle.json_forms.proofs.Reading.{list_of-items_of}
use Rattle.json_tokens.specs.Tokens.{IsValueAt, IsMemberAt}
use Rattle.json_tokens.proofs.Steps.{object_at, no_more_members, one_more_member, member_at}
use Rattle.script_types.specs.declared.Call.{Call}
use Rattle.script_types.specs.declared.Script.{Script}
use Rattle.script_types.specs.declared.StackSetup.{StackSetup}
use Rattle.script_forms.specs.Script.{stack_after, call_after, script_in, json}
use Rattle.script_forms.specs.Values.{counted, list_in}
use Rattle.script_forms.proofs.Lists.{counted-good}
use Rattle.script_file.specs.Reads.{ReadsAs}
use Rattle.script_file.specs.Usual.{script_members, Joins, IsScriptAt}

-- a list of calls, which are few enough
pub calls-listed : (ds : List Data) → length ds ≤ 16384 → list_in 0 16384 (array (items_of ds)) ≡ Ok ds
calls-listed ds few = ap (counted 0 16384) (list_of-items_of ds) ∙ counted-good 0 16384 ds (omega arith) few

-- the tokens of the parts are the script's
pub script-whole : (script : Script) (version lanes : ℕ) (stacks : List StackSetup) (calls : List Call) (s : Data) (ss cs : List Data) (ts t1 t2 t3 t4 t5 t6 t7 rest : List Token)
    → ts ≡ Token.begin_object ∷ t1 → IsMemberAt 126 t1 (codes "version") (number (unsigned version)) t2 → IsMemberAt 126 t2 (codes "lanes") (number (unsigned lanes)) t3
    → read_key t3 ≡ Some (Some (codes "stacks"), t4) → IsValueAt 126 t4 s t5 → read_key t5 ≡ Some (Some (codes "calls"), t6) → IsValueAt 126 t6 (array (items_of cs)) t7 → read_key t7 ≡ Some (None, rest)
    → list_in 1 4 s ≡ Ok ss → read_all (stack_after (length ss)) [] ss ≡ Ok stacks → length cs ≤ 16384 → read_all (call_after lanes stacks) [] cs ≡ Ok calls → Joins version lanes stacks calls script
    → IsScriptAt ts script rest
script-whole script version lanes stacks calls s ss cs ts t1 t2 t3 t4 t5 t6 t7 rest begun at_version at_lanes stacks_named at_stacks calls_named at_calls over in_stacks are_stacks few are_calls joins =
    let c = array (items_of cs) in
    let all = script_members version lanes s c in
    let end = no_more_members 126 all t7 rest over in
    let fourth = one_more_member 126 _ t5 (codes "calls") c t7 all rest (member_at 126 t5 (codes "calls") t6 c t7 calls_named at_calls) end in
    let third = one_more_member 126 _ t3 (codes "stacks") s t5 all rest (member_at 126 t3 (codes "stacks") t4 s t5 stacks_named at_stacks) fourth in
    let second = one_more_member 126 _ t2 (codes "lanes") (number (unsigned lanes)) t3 all rest at_lanes third in
    let first = one_more_member 126 no_members t1 (codes "version") (number (unsigned version)) t2 all rest at_version second in
    (object all, object_at 127 ts t1 all rest (omega arith) begun first, joins s c ss cs in_stacks are_stacks (calls-listed cs few) are_calls)

-- the text that the tokens are of says the script
pub says-script : (bytes : List ℕ) (script : Script) (d : Data) → length bytes ≤ 4194304 → IsUtf8 bytes → read_text bytes ≡ Some d → script_in d ≡ Ok script → ReadsAs bytes (Ok script)
says-script bytes script d short utf8 is gives = json short d (record { utf8 = utf8; read = is }) (sym gives)
