-- What is written of a program is read as the program.
use Rattle.std.proofs.Common.{◌≡◌, ℕ, zero, suc, ◌<◌, ◌≤◌, Bool, true, false, cond, List, [], ◌∷◌, ◌++◌, length, map, Option, Some, None, option_map, Result, Ok, Err, refl, sym, ap, ap₂, ◌∙◌, arith, eqb-true}
use Rattle.std.specs.Prelude.{nat_lt, nat_le, slice_index, ◌&&◌, ◌==◌}
use Rattle.std.specs.List.{list_all}
use Rattle.std.specs.Result.{result_ok}
use Rattle.std.proofs.lemmas.Bool.Decides.{nat_tests}
use Rattle.std.proofs.lemmas.List.{length-map}
use Rattle.hex.specs.Hex.{IsBytes}
use Rattle.hex.proofs.HexLemmas.{decode_sized-encode_lower}
use Rattle.serde_json.specs.Data.{Data, array}
use Rattle.serde_json.specs.Events.{items_len}
use Rattle.serde_json.specs.View.{view, items_of}
use Rattle.json_forms.specs.Lists.{list_of, read_all}
use Rattle.json_forms.proofs.Reading.{list_of-items_of, read_all-written}
use Rattle.program_types.specs.declared.Test.{Test}
use Rattle.program_types.specs.declared.Test.TheVariants as test
use Rattle.program_types.specs.declared.Action.{Action}
use Rattle.program_types.specs.declared.Action.TheVariants as action
use Rattle.program_types.specs.declared.Rule.{Rule}
use Rattle.program_forms.specs.Form.{number_below, six_bytes, offset_and_byte, pair_of, test_in, action_in, rule_in, rule_of, rule_or_fault, rule_after, program_in}
use Rattle.program_forms.specs.Written.{number_data, hex_data, offset_and_byte_data, test_data, action_data, rule_data, program_data, is_byte, is_address, is_test, is_action, is_rule, is_program}
use Rattle.program_forms.proofs.Lists.{within}

pub and-left : (a b : Bool) → (a && b) ≡ true → a ≡ true
and-left true b h = refl
and-left false b h = h

pub and-right : (a b : Bool) → (a && b) ≡ true → b ≡ true
and-right true b h = h
and-right false b h = cc

pub list_all-at : {A : Type 0} (p : A → Bool) (done : List A) (x : A) (rest : List A) → list_all p (done ++ x ∷ rest) ≡ true → p x ≡ true
list_all-at p [] x rest h = and-left (p x) _ h
list_all-at p (y ∷ done) x rest h = list_all-at p done x rest (and-right (p y) _ h)

byte-below : (n : ℕ) → is_byte n ≡ true → n < 256
byte-below n h = grind (arith, nat_tests)

IsBytes-list_all : (xs : List ℕ) → list_all is_byte xs ≡ true → IsBytes xs
IsBytes-list_all [] h i = omega arith
IsBytes-list_all (x ∷ xs) h zero = byte-below x (and-left (is_byte x) _ h)
IsBytes-list_all (x ∷ xs) h (suc i) = IsBytes-list_all xs (and-right (is_byte x) _ h) i

pub six_bytes-hex_data : (a : List ℕ) → is_address a ≡ true → six_bytes (hex_data a) ≡ Some a
six_bytes-hex_data a h =
    ap result_ok (decode_sized-encode_lower a 6 (eqb-true (length a) 6 (and-left _ _ h)) (IsBytes-list_all a (and-right (length a == 6) _ h)))

number_below-number_data : (limit n : ℕ) → nat_lt n limit ≡ true → number_below limit (number_data n) ≡ Some n
number_below-number_data limit n h = ap (λ b. cond b (Some n) None) h

offset_and_byte-written : (at value : ℕ) → (nat_lt at 65536 && is_byte value) ≡ true → offset_and_byte (offset_and_byte_data at value) ≡ Some (at, value)
offset_and_byte-written at value h =
    ap₂ pair_of (number_below-number_data 65536 at (and-left _ _ h)) (number_below-number_data 256 value (and-right (nat_lt at 65536) _ h))

test_in-test_data : (t : Test) → is_test t ≡ true → test_in (test_data t) ≡ Some t
test_in-test_data test.Any h = refl
test_in-test_data test.Tagged h = refl
test_in-test_data test.Untagged h = refl
test_in-test_data (test.Dst address) h = ap (option_map test.Dst) (six_bytes-hex_data address h)
test_in-test_data (test.Src address) h = ap (option_map test.Src) (six_bytes-hex_data address h)
test_in-test_data (test.EtherType n) h = ap (option_map test.EtherType) (number_below-number_data 65536 n h)
test_in-test_data (test.Vlan n) h = ap (option_map test.Vlan) (number_below-number_data 4096 n h)
test_in-test_data (test.Longer n) h = ap (option_map test.Longer) (number_below-number_data 65536 n h)
test_in-test_data (test.Byte at value) h = ap (option_map (λ p. test.Byte p.0 p.1)) (offset_and_byte-written at value h)

action_in-action_data : (a : Action) → is_action a ≡ true → action_in (action_data a) ≡ Some a
action_in-action_data action.Drop h = refl
action_in-action_data action.Pop h = refl
action_in-action_data (action.Push t) h = ap (option_map action.Push) (number_below-number_data 65536 t h)
action_in-action_data (action.SetDst address) h = ap (option_map action.SetDst) (six_bytes-hex_data address h)
action_in-action_data (action.SetSrc address) h = ap (option_map action.SetSrc) (six_bytes-hex_data address h)
action_in-action_data (action.SetByte at value) h = ap (option_map (λ p. action.SetByte p.0 p.1)) (offset_and_byte-written at value h)

pub rule_in-rule_data : (rule : Rule) → is_rule rule ≡ true → rule_in (rule_data rule) ≡ Some rule
rule_in-rule_data rule h =
    ap₂ rule_of (test_in-test_data rule.test (and-left _ _ h)) (action_in-action_data rule.action (and-right (is_test rule.test) _ h))

items_len-items_of : (ds : List Data) → items_len (items_of ds) ≡ length ds
items_len-items_of [] = refl
items_len-items_of (d ∷ ds) = ap suc (items_len-items_of ds)

le-sixteen : (n : ℕ) → nat_le n 16 ≡ true → n ≤ 16
le-sixteen n h = grind (arith, nat_tests)

pub program_in-program_data : (rules : List Rule) → is_program rules ≡ true → program_in (program_data rules) ≡ Ok rules
program_in-program_data rules h =
    let ds : List Data = map rule_data rules in
    let few : length rules ≤ 16 = le-sixteen (length rules) (and-left _ _ h) in
    let good : list_all is_rule rules ≡ true = and-right (nat_le (length rules) 16) _ h in
    let size : items_len (items_of ds) ≡ length rules = items_len-items_of ds ∙ length-map rules rule_data in
    rw size (within (length rules) _ _ few) ∙ ap (read_all rule_after []) (list_of-items_of ds)
    ∙ read_all-written rule_after rule_data [] rules
    (λ done x rest e. ap (rule_or_fault (length done)) (rule_in-rule_data x (list_all-at is_rule done x rest (ap (list_all is_rule) (sym e) ∙ good))))
