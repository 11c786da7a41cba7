-- The members of a call of the usual form, which come in this order.
use Rattle.std.specs.Prelude.{◌≡◌, ℕ, List, codes, Bool, Option, Some, None, Ok}
use Rattle.json.specs.Token.{Token}
use Rattle.json.specs.Json.{read_key}
use Rattle.serde_json.specs.Data.{Data, unsigned, boolean, number, string, object, Members, no_members, put}
use Rattle.json_tokens.specs.Tokens.{AreMembersAt}
use Rattle.script_types.specs.declared.Call.{Call}
use Rattle.script_types.specs.declared.StackSetup.{StackSetup}
use Rattle.script_forms.specs.Call.{call_in}

-- its lane
abbrev pub laned_members : ℕ → Members
laned_members lane = put (codes "lane") (number (unsigned lane)) no_members

-- its name too
abbrev pub named_members : ℕ → List ℕ → Members
named_members lane word = put (codes "call") (string word) (laned_members lane)

-- its stack too
abbrev pub placed_members : ℕ → List ℕ → ℕ → Members
placed_members lane word stack = put (codes "stack") (number (unsigned stack)) (named_members lane word)

-- a send's binding and frames too
abbrev pub send_members : ℕ → ℕ → ℕ → Data → Members
send_members lane stack binding frames =
    put (codes "frames") frames (put (codes "binding") (number (unsigned binding)) (placed_members lane (codes "send") stack))

-- whether the call is pumped too, where that is told
abbrev pub pumped_members : Option Bool → Members → Members
pumped_members None ms = ms
pumped_members (Some pump) ms = put (codes "pump") (boolean pump) ms

-- the members that stand first, up to the object's end, make the members before them this call
abbrev pub EndsCall : ℕ → List StackSetup → Members → List Token → List Token → Call → Type 0
EndsCall lanes stacks before ts rest call =
    (ms : Members) × AreMembersAt 124 before ts ms rest × (call_in lanes stacks (object ms) ≡ Ok call)

-- the same of members of which the first one's name was passed
abbrev pub EndsCallBehind : ℕ → List StackSetup → Members → List ℕ → List Token → List Token → Call → Type 0
EndsCallBehind lanes stacks before name ts rest call =
    (from : List Token) → read_key from ≡ Some (Some name, ts) → EndsCall lanes stacks before from rest call
