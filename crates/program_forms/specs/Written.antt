-- How a program is written as JSON, and which programs have that form.
use Rattle.std.specs.Prelude.{ℕ, ◌==◌, ◌&&◌, Bool, true, List, [], ◌∷◌, length, map, nat_lt, nat_le, codes}
use Rattle.std.specs.List.{list_all}
use Rattle.hex.specs.Hex.{encode_lower}
use Rattle.serde_json.specs.Data.{Data, number, unsigned, string, array, object, Items, no_items, item, no_members, member}
use Rattle.serde_json.specs.View.{items_of}
use Rattle.program_types.specs.declared.Test.{Test}
use Rattle.program_types.specs.declared.Test.TheVariants as test
use Rattle.program_types.specs.declared.Action.{Action}
use Rattle.program_types.specs.declared.Action.TheVariants as action
use Rattle.program_types.specs.declared.Rule.{Rule}

abbrev pub number_data : ℕ → Data
number_data n = number (unsigned n)

-- bytes as hexadecimal digits in lower case
abbrev pub hex_data : List ℕ → Data
hex_data bytes = string (encode_lower bytes)

-- an offset and a byte, as `[a,v]`
abbrev pub offset_and_byte_data : ℕ → ℕ → Data
offset_and_byte_data at value = array (item (number_data at) (item (number_data value) no_items))

-- an object of one member
abbrev pub member_data : List ℕ → Data → Data
member_data name d = object (member name d no_members)

abbrev pub test_data : Test → Data
test_data test.Any = string (codes "any")
test_data test.Tagged = string (codes "tagged")
test_data test.Untagged = string (codes "untagged")
test_data (test.Dst address) = member_data (codes "dst") (hex_data address)
test_data (test.Src address) = member_data (codes "src") (hex_data address)
test_data (test.EtherType n) = member_data (codes "ethertype") (number_data n)
test_data (test.Vlan n) = member_data (codes "vlan") (number_data n)
test_data (test.Longer n) = member_data (codes "longer") (number_data n)
test_data (test.Byte at value) = member_data (codes "byte") (offset_and_byte_data at value)

abbrev pub action_data : Action → Data
action_data action.Drop = string (codes "drop")
action_data action.Pop = string (codes "pop")
action_data (action.Push t) = member_data (codes "push") (number_data t)
action_data (action.SetDst address) = member_data (codes "set_dst") (hex_data address)
action_data (action.SetSrc address) = member_data (codes "set_src") (hex_data address)
action_data (action.SetByte at value) = member_data (codes "set_byte") (offset_and_byte_data at value)

abbrev pub rule_data : Rule → Data
rule_data rule = object (member (codes "action") (action_data rule.action) (member (codes "test") (test_data rule.test) no_members))

abbrev pub program_data : List Rule → Data
program_data rules = array (items_of (map rule_data rules))

abbrev pub is_byte : ℕ → Bool
is_byte n = nat_lt n 256

-- six bytes
abbrev pub is_address : List ℕ → Bool
is_address address = length address == 6 && list_all is_byte address

abbrev pub is_test : Test → Bool
is_test test.Any = true
is_test test.Tagged = true
is_test test.Untagged = true
is_test (test.Dst address) = is_address address
is_test (test.Src address) = is_address address
is_test (test.EtherType n) = nat_lt n 65536
is_test (test.Vlan n) = nat_lt n 4096
is_test (test.Longer n) = nat_lt n 65536
is_test (test.Byte at value) = nat_lt at 65536 && is_byte value

abbrev pub is_action : Action → Bool
is_action action.Drop = true
is_action action.Pop = true
is_action (action.Push t) = nat_lt t 65536
is_action (action.SetDst address) = is_address address
is_action (action.SetSrc address) = is_address address
is_action (action.SetByte at value) = nat_lt at 65536 && is_byte value

abbrev pub is_rule : Rule → Bool
is_rule rule = is_test rule.test && is_action rule.action

-- at most 16 rules whose numbers are in their ranges: the types of the numbers leave only two of these
-- open, the number of rules and that a VLAN is below 4,096
abbrev pub is_program : List Rule → Bool
is_program rules = nat_le (length rules) 16 && list_all is_rule rules
