-- Which JSON is a frame program: a list of at most 16 rules, each an object of a test and an action.
use Rattle.std.specs.Prelude.{ℕ, List, [], ◌∷◌, length, Option, Some, None, Result, Ok, Err, option_map, option_and_then, nat_lt, bytes_eq, codes, if◌then◌else◌}
use Rattle.std.specs.Result.{result_ok}
use Rattle.hex.specs.Hex.{decode_sized}
use Rattle.serde_json.specs.Data.{Data, null, boolean, number, string, array, object, Items, no_items, item}
use Rattle.serde_json.specs.Events.{items_len}
use Rattle.serde_json.specs.Find.{as_array, as_number, as_str, as_u64, get}
use Rattle.json_forms.specs.Forms.{has_members, lone_member}
use Rattle.json_forms.specs.Lists.{list_of, read_all}
use Rattle.program_types.specs.declared.Test.{Test}
use Rattle.program_types.specs.declared.Test.TheVariants as test
use Rattle.program_types.specs.declared.Action.{Action}
use Rattle.program_types.specs.declared.Action.TheVariants as action
use Rattle.program_types.specs.declared.Rule.{Rule}
use Rattle.program_forms.specs.declared.reading.RuleFault.{RuleFault}
use Rattle.program_forms.specs.declared.reading.RuleFault.TheVariants.{BadRule, TooMany}

-- a number below a limit
abbrev pub below : ℕ → Option ℕ → Option ℕ
below limit n = option_and_then (λ n. if nat_lt n limit then Some n else None) n

-- a whole number below a limit
abbrev pub number_below : ℕ → Data → Option ℕ
number_below limit d = below limit (option_and_then as_u64 (as_number d))

-- the six bytes of a text of twelve hexadecimal digits
abbrev pub six_bytes : Data → Option (List ℕ)
six_bytes d = option_and_then (λ text. result_ok (decode_sized text 6)) (as_str d)

abbrev pub pair_of : Option ℕ → Option ℕ → Option (ℕ × ℕ)
pair_of first second = option_and_then (λ a. option_map (λ v. (a, v)) second) first

-- the two numbers of a list of two
abbrev pub two_numbers : Items → Option (ℕ × ℕ)
two_numbers no_items = None
two_numbers (item a no_items) = None
two_numbers (item a (item v no_items)) = pair_of (number_below 65536 a) (number_below 256 v)
two_numbers (item a (item v (item other more))) = None

-- an offset and a byte, as `[a,v]`
abbrev pub offset_and_byte : Data → Option (ℕ × ℕ)
offset_and_byte d = option_and_then two_numbers (as_array d)

-- a test that is a word
abbrev pub test_of_word : List ℕ → Option Test
test_of_word word =
    if bytes_eq word (codes "any") then Some test.Any
    else if bytes_eq word (codes "tagged") then Some test.Tagged
    else if bytes_eq word (codes "untagged") then Some test.Untagged
    else None

-- a test with a value
abbrev pub test_of_member : List ℕ → Data → Option Test
test_of_member name d =
    if bytes_eq name (codes "dst") then option_map test.Dst (six_bytes d)
    else if bytes_eq name (codes "src") then option_map test.Src (six_bytes d)
    else if bytes_eq name (codes "ethertype") then option_map test.EtherType (number_below 65536 d)
    else if bytes_eq name (codes "vlan") then option_map test.Vlan (number_below 4096 d)
    else if bytes_eq name (codes "longer") then option_map test.Longer (number_below 65536 d)
    else if bytes_eq name (codes "byte") then option_map (λ p. test.Byte p.0 p.1) (offset_and_byte d)
    else None

-- a word, or an object with one member
abbrev pub word_or_member : {A : Type 0} → (List ℕ → Option A) → (List ℕ → Data → Option A) → Option (List ℕ) → Option (List ℕ × Data) → Option A
word_or_member of_word of_member (Some word) single = of_word word
word_or_member of_word of_member None single = option_and_then (λ m. of_member m.0 m.1) single

abbrev pub test_in : Data → Option Test
test_in d = word_or_member test_of_word test_of_member (as_str d) (lone_member d)

-- an action that is a word
abbrev pub action_of_word : List ℕ → Option Action
action_of_word word =
    if bytes_eq word (codes "drop") then Some action.Drop
    else if bytes_eq word (codes "pop") then Some action.Pop
    else None

-- an action with a value
abbrev pub action_of_member : List ℕ → Data → Option Action
action_of_member name d =
    if bytes_eq name (codes "push") then option_map action.Push (number_below 65536 d)
    else if bytes_eq name (codes "set_dst") then option_map action.SetDst (six_bytes d)
    else if bytes_eq name (codes "set_src") then option_map action.SetSrc (six_bytes d)
    else if bytes_eq name (codes "set_byte") then option_map (λ p. action.SetByte p.0 p.1) (offset_and_byte d)
    else None

abbrev pub action_in : Data → Option Action
action_in d = word_or_member action_of_word action_of_member (as_str d) (lone_member d)

abbrev pub rule_of : Option Test → Option Action → Option Rule
rule_of test action = option_and_then (λ t. option_map (λ a. record { test = t; action = a }) action) test

-- an object of a test and an action
abbrev pub rule_in : Data → Option Rule
rule_in d =
    if has_members (codes "test" ∷ codes "action" ∷ []) [] d
    then rule_of (option_and_then test_in (get (codes "test") d)) (option_and_then action_in (get (codes "action") d))
    else None

-- a rule, with the fault of its place where it is none; the place is the number of the rules before it
abbrev pub rule_or_fault : ℕ → Option Rule → Result Rule RuleFault
rule_or_fault place None = Err (BadRule place)
rule_or_fault place (Some rule) = Ok rule

abbrev pub rule_after : List Rule → Data → Result Rule RuleFault
rule_after before d = rule_or_fault (length before) (rule_in d)

abbrev pub program_of : Option Items → Result (List Rule) RuleFault
program_of None = Err (BadRule 0)
program_of (Some ds) = if nat_lt 16 (items_len ds) then Err TooMany else read_all rule_after [] (list_of ds)

-- the program that the JSON is, or its first fault
abbrev pub program_in : Data → Result (List Rule) RuleFault
program_in d = program_of (as_array d)
