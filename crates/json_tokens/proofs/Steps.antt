-- Values, arrays and objects from their tokens, a token or a part at a time.
use Rattle.std.proofs.Common.{◌≡◌, ℕ, ◌-◌, ◌<◌, Bool, List, [], ◌∷◌, ◌++◌, length, map, Some, None, option_map, refl, ap, subst, ◌∙◌, arith}
use Rattle.json.specs.Token.{Token}
use Rattle.json.specs.Lex.{tokens}
use Rattle.json.specs.Json.{parse_map, after_end_array, read_key, items, members, value}
use Rattle.json.proofs.Grammar.{value_is, value-begin_array, value-begin_object, after_end_array-shorter, read_key-shorter}
use Rattle.serde_json.specs.Data.{Data, unsigned, null, boolean, number, string, array, object, Members, no_members, put}
use Rattle.serde_json.specs.Read.{of_json, converted, number_of, read as read_text}
use Rattle.serde_json.specs.View.{view, items_of}
use Rattle.serde_json.specs.declared.value.Value.{Value}
use Rattle.json_tokens.proofs.Turns.{converted-array, converted-object, item_read, items_over, member_read, members_over, whole_read}
use Rattle.json_tokens.specs.Tokens.{IsValueAt, IsMemberAt, AreItemsAt, AreMembersAt}

pub string_at : (depth : ℕ) (ts : List Token) (s : List ℕ) (rest : List Token) → ts ≡ Token.string s ∷ rest → IsValueAt depth ts (string s) rest
string_at depth ts s rest e =
    record { is = ap (converted of_json) (ap (value depth) e ∙ value_is depth _); shorter = rw e (omega arith) }

pub number_at : (depth : ℕ) (ts : List Token) (s : List ℕ) (n : ℕ) (rest : List Token) → ts ≡ Token.number s ∷ rest → number_of s ≡ Some (unsigned n) → IsValueAt depth ts (number (unsigned n)) rest
number_at depth ts s n rest e is =
    record {
      is = ap (converted of_json) (ap (value depth) e ∙ value_is depth _) ∙ ap (λ o. option_map {U = Data × List Token} (λ d. (d, rest)) (option_map number o)) is;
      shorter = rw e (omega arith);
    }

pub boolean_at : (depth : ℕ) (ts : List Token) (b : Bool) (rest : List Token) → ts ≡ Token.boolean b ∷ rest → IsValueAt depth ts (boolean b) rest
boolean_at depth ts b rest e =
    record { is = ap (converted of_json) (ap (value depth) e ∙ value_is depth _); shorter = rw e (omega arith) }

pub null_at : (depth : ℕ) (ts rest : List Token) → ts ≡ Token.null ∷ rest → IsValueAt depth ts null rest
null_at depth ts rest e =
    record { is = ap (converted of_json) (ap (value depth) e ∙ value_is depth _); shorter = rw e (omega arith) }

-- ---- arrays

pub array_at : (depth : ℕ) (ts inner : List Token) (ds : List Data) (rest : List Token) → 0 < depth → ts ≡ Token.begin_array ∷ inner → AreItemsAt (depth - 1) inner ds rest → IsValueAt depth ts (array (items_of ds)) rest
array_at depth ts inner ds rest deep e within =
    let opened = ap (converted of_json) (ap (value depth) e ∙ value-begin_array depth inner deep) ∙ converted-array (items (value (depth - 1)) (length inner) inner) in
    let fewer = within.shorter in
    record { is = opened ∙ ap (parse_map array) (within.are (length inner) (omega arith)); shorter = rw e (omega (arith, fewer)) }

pub no_more_items : (depth : ℕ) (ts rest : List Token) → after_end_array ts ≡ Some rest → AreItemsAt depth ts [] rest
no_more_items depth ts rest e =
    record { are = λ turns enough. items_over (value depth) turns ts rest enough e; shorter = after_end_array-shorter ts rest e }

pub one_more_item : (depth : ℕ) (ts : List Token) (d : Data) (next : List Token) (ds : List Data) (rest : List Token) → after_end_array ts ≡ None → IsValueAt depth ts d next → AreItemsAt depth next ds rest → AreItemsAt depth ts (d ∷ ds) rest
one_more_item depth ts d next ds rest going here later =
    let fewer = here.shorter in
    let still = later.shorter in
    record {
      are = λ turns enough.
          item_read (value depth) turns ts next d (omega (arith, enough, fewer)) going here.is ∙ ap (parse_map _) (later.are (turns - 1) (omega (arith, enough, fewer)));
      shorter = omega (arith, fewer, still);
    }

-- ---- objects

pub object_at : (depth : ℕ) (ts inner : List Token) (ms : Members) (rest : List Token) → 0 < depth → ts ≡ Token.begin_object ∷ inner → AreMembersAt (depth - 1) no_members inner ms rest → IsValueAt depth ts (object ms) rest
object_at depth ts inner ms rest deep e within =
    let opened = ap (converted of_json) (ap (value depth) e ∙ value-begin_object depth inner deep) ∙ converted-object (members (value (depth - 1)) (length inner) inner) in
    let fewer = within.shorter in
    record { is = opened ∙ ap (parse_map object) (within.are (length inner) (omega arith)); shorter = rw e (omega (arith, fewer)) }

pub no_more_members : (depth : ℕ) (found : Members) (ts rest : List Token) → read_key ts ≡ Some (None, rest) → AreMembersAt depth found ts found rest
no_more_members depth found ts rest e =
    record { are = λ turns enough. members_over (value depth) found turns ts rest enough e; shorter = read_key-shorter ts None rest e }

pub member_at : (depth : ℕ) (ts : List Token) (name : List ℕ) (inner : List Token) (d : Data) (rest : List Token) → read_key ts ≡ Some (Some name, inner) → IsValueAt depth inner d rest → IsMemberAt depth ts name d rest
member_at depth ts name inner d rest e here = record { after_name = inner; named = e; holds = here }

pub one_more_member : (depth : ℕ) (found : Members) (ts : List Token) (name : List ℕ) (d : Data) (next : List Token) (all : Members) (rest : List Token)
    → IsMemberAt depth ts name d next → AreMembersAt depth (put name d found) next all rest → AreMembersAt depth found ts all rest
one_more_member depth found ts name d next all rest here later =
    let passed = read_key-shorter ts (Some name) here.after_name here.named in
    let fewer = here.holds.shorter in
    let still = later.shorter in
    record {
      are = λ turns enough.
          member_read (value depth) found turns name ts here.after_name next d (omega (arith, enough, passed)) here.named here.holds.is ∙ later.are (turns - 1) (omega (arith, enough, passed, fewer));
      shorter = omega (arith, passed, fewer, still);
    }

-- ---- what a loop has read

pub pushed : (vs : List Value) (v : Value) (ds : List Data) → map view vs ++ (view v ∷ ds) ≡ map view (vs ++ v ∷ []) ++ ds
pushed [] v ds = refl
pushed (w ∷ vs) v ds = ap (λ es. view w ∷ es) (pushed vs v ds)

-- ---- a whole text

pub whole_text : (text : List ℕ) (d : Data) (rest : List Token) → IsValueAt 127 (tokens text) d rest → rest ≡ [] → read_text text ≡ Some d
whole_text text d rest here over = whole_read (value 127 (tokens text)) d (subst (λ (r : List Token). converted of_json (value 127 (tokens text)) ≡ Some (d, r)) over here.is)
