-- A script whose members come in the usual order.
use Rattle.std.specs.Prelude.{◌≡◌, ℕ, List, [], length, codes, Ok}
use Rattle.json.specs.Token.{Token}
use Rattle.serde_json.specs.Data.{Data, unsigned, number, object, Members, no_members, put}
use Rattle.json_forms.specs.Lists.{read_all}
use Rattle.json_tokens.specs.Tokens.{IsValueAt}
use Rattle.script_types.specs.declared.Call.{Call}
use Rattle.script_types.specs.declared.Script.{Script}
use Rattle.script_types.specs.declared.StackSetup.{StackSetup}
use Rattle.script_forms.specs.Script.{stack_after, call_after, script_in}
use Rattle.script_forms.specs.Values.{list_in}

-- its version, its lanes, its stacks and its calls
abbrev pub script_members : ℕ → ℕ → Data → Data → Members
script_members version lanes stacks calls =
    put (codes "calls") calls (put (codes "stacks") stacks (put (codes "lanes") (number (unsigned lanes)) (put (codes "version") (number (unsigned version)) no_members)))

-- the values of these stacks and calls, in an object of the usual order, are this script
abbrev pub Joins : ℕ → ℕ → List StackSetup → List Call → Script → Type 0
Joins version lanes stacks calls script =
    (s c : Data) (ss cs : List Data) → list_in 1 4 s ≡ Ok ss → read_all (stack_after (length ss)) [] ss ≡ Ok stacks
    → list_in 0 16384 c ≡ Ok cs → read_all (call_after lanes stacks) [] cs ≡ Ok calls → script_in (object (script_members version lanes s c)) ≡ Ok script

-- the tokens begin with a value that is this script, and these are left
abbrev pub IsScriptAt : List Token → Script → List Token → Type 0
IsScriptAt ts script rest = (d : Data) × IsValueAt 127 ts d rest × (script_in d ≡ Ok script)
