-- Frame programs as compact JSON: a list of rules, each an object with the members action and test.
use Rattle.std.specs.Prelude.{ℕ, ◌++◌, List, [], ◌∷◌, codes, decimal, flat_map}
use Rattle.program_types.specs.declared.Test.{Test}
use Rattle.program_types.specs.declared.Test.TheVariants as test
use Rattle.program_types.specs.declared.Action.{Action}
use Rattle.program_types.specs.declared.Action.TheVariants as action
use Rattle.program_types.specs.declared.Rule.{Rule}
use Rattle.journal_words.specs.Words.{hex_text}

-- an object with one member
abbrev pub member_text : List ℕ → List ℕ → List ℕ
member_text name value = codes "{\"" ++ (name ++ (codes "\":" ++ (value ++ codes "}")))

abbrev pub quoted_text : List ℕ → List ℕ
quoted_text text = codes "\"" ++ (text ++ codes "\"")

abbrev pub pair_text : ℕ → ℕ → List ℕ
pair_text first second = codes "[" ++ (decimal first ++ (codes "," ++ (decimal second ++ codes "]")))

abbrev pub test_text : Test → List ℕ
test_text test.Any = codes "\"any\""
test_text test.Tagged = codes "\"tagged\""
test_text test.Untagged = codes "\"untagged\""
test_text (test.Dst address) = member_text (codes "dst") (quoted_text (hex_text address))
test_text (test.Src address) = member_text (codes "src") (quoted_text (hex_text address))
test_text (test.EtherType number) = member_text (codes "ethertype") (decimal number)
test_text (test.Vlan number) = member_text (codes "vlan") (decimal number)
test_text (test.Longer number) = member_text (codes "longer") (decimal number)
test_text (test.Byte at value) = member_text (codes "byte") (pair_text at value)

abbrev pub action_text : Action → List ℕ
action_text action.Drop = codes "\"drop\""
action_text action.Pop = codes "\"pop\""
action_text (action.Push number) = member_text (codes "push") (decimal number)
action_text (action.SetDst address) = member_text (codes "set_dst") (quoted_text (hex_text address))
action_text (action.SetSrc address) = member_text (codes "set_src") (quoted_text (hex_text address))
action_text (action.SetByte at value) = member_text (codes "set_byte") (pair_text at value)

unfoldable pub rule_text : Rule → List ℕ
rule_text rule = codes "{\"action\":" ++ (action_text rule.action ++ (codes ",\"test\":" ++ (test_text rule.test ++ codes "}")))

-- rules behind others, each after a comma
abbrev pub more_rules_text : List Rule → List ℕ
more_rules_text rules = flat_map (λ rule. codes "," ++ rule_text rule) rules

-- the rules of a program, with a comma between two
abbrev pub rules_text : List Rule → List ℕ
rules_text [] = []
rules_text (rule ∷ rules) = rule_text rule ++ more_rules_text rules

abbrev pub program_text : List Rule → List ℕ
program_text rules = codes "[" ++ (rules_text rules ++ codes "]")
