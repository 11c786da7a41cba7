use Rattle.std.proofs.Common.{◌≡◌, ◌-◌, List, [], ◌∷◌, ◌++◌, map, Some, None, string_bytes, sym, ap, subst, ◌∙◌, arith, rules, append-nil}
use Rattle.json.specs.Token.{Token}
use Rattle.json.specs.Json.{after_end_array, read_key}
use Rattle.json.specs.Reads.{token_of}
use Rattle.serde_json.specs.Data.{Data, Members, null, boolean, string, put}
use Rattle.serde_json.specs.View.{view, members_view}
use Rattle.serde_json.specs.declared.value.Value.{String, Bool, Null, the_lemmas}
use Rattle.serde_json.proofs.Views.{view-Array, view-Object, members_view-insert_entry}
use Rattle.json_tokens.specs.Tokens.{IsValueAt, AreItemsAt, AreMembersAt}
use Rattle.json_tokens.proofs.Steps.{string_at, number_at, boolean_at, null_at, array_at, object_at, no_more_items, one_more_item, no_more_members, one_more_member, member_at, pushed}
use Rattle.json_tokens.proofs.tree.+read.Goals as goal

pub read_value-returns-in_ok-from_str-in-String : goal.read_value-returns-in_ok-from_str-in-String
read_value-returns-in_ok-from_str-in-String t c =
    let first : c.args.reader.now ≡ token_of c.in_ok-token.token ∷ c.next.new.self = grind arith in
    let is : c.args.reader.now ≡ Token.string c.in-String.text.now ∷ c.next.new.self = grind (arith, first) in
    let seen : view (String c.in_ok-from_str-in-String.field-0) ≡ string c.in-String.text.now = search (rules, the_lemmas) in
    subst (λ (d : Data). IsValueAt c.args.depth c.args.reader.now d c.next.new.self) (sym seen) (string_at _ _ _ _ is)

pub read_value-returns-in-Bool : goal.read_value-returns-in-Bool
read_value-returns-in-Bool t c =
    let first : c.args.reader.now ≡ token_of c.in_ok-token.token ∷ c.next.new.self = grind arith in
    let is : c.args.reader.now ≡ Token.boolean c.in-Bool.truth ∷ c.next.new.self = grind (arith, first) in
    let seen : view (Bool c.in-Bool.truth) ≡ boolean c.in-Bool.truth = search (rules, the_lemmas) in
    subst (λ (d : Data). IsValueAt c.args.depth c.args.reader.now d c.next.new.self) (sym seen) (boolean_at _ _ _ _ is)

pub read_value-returns-in-Null : goal.read_value-returns-in-Null
read_value-returns-in-Null t c =
    let first : c.args.reader.now ≡ token_of c.in_ok-token.token ∷ c.next.new.self = grind arith in
    let is : c.args.reader.now ≡ Token.null ∷ c.next.new.self = grind (arith, first) in
    let seen : view (Null) ≡ null = search (rules, the_lemmas) in
    subst (λ (d : Data). IsValueAt c.args.depth c.args.reader.now d c.next.new.self) (sym seen) (null_at _ _ _ is)

pub read_items-items-init : goal.read_items-items-init
read_items-items-init t c ds rest later =
    subst (λ (vs : List _). AreItemsAt c.args.depth c.args.reader.now (map view vs ++ ds) rest) (sym c.new-found.ensures.items) later

pub read_value-returns-in_ok-whole_number-in-Number : goal.read_value-returns-in_ok-whole_number-in-Number
read_value-returns-in_ok-whole_number-in-Number t c =
    let first : c.args.reader.now ≡ token_of c.in_ok-token.token ∷ c.next.new.self = grind arith in
    let is : c.args.reader.now ≡ Token.number c.in-Number.text.now ∷ c.next.new.self = grind (arith, first) in
    subst (λ (d : Data). IsValueAt c.args.depth c.args.reader.now d c.next.new.self) (sym c.from.ensures) (number_at _ _ _ _ _ is c.in_ok-whole_number-in-Number.ensures)

pub read_value-returns-in_ok-read_items-in-BeginArray : goal.read_value-returns-in_ok-read_items-in-BeginArray
read_value-returns-in_ok-read_items-in-BeginArray t c =
    let first : c.args.reader.now ≡ token_of c.in_ok-token.token ∷ c.next.new.self = grind arith in
    let is : c.args.reader.now ≡ Token.begin_array ∷ c.next.new.self = first ∙ ap (λ k. token_of k ∷ c.next.new.self) c.in-BeginArray.is in
    let found = c.in_ok-read_items-in-BeginArray in
    subst (λ (d : Data). IsValueAt c.args.depth c.args.reader.now d c.read_items.new.reader) (sym (view-Array found.field-0)) (array_at _ _ _ _ _ (omega arith) is found.ensures)

pub read_value-returns-in_ok-read_members-in-BeginObject : goal.read_value-returns-in_ok-read_members-in-BeginObject
read_value-returns-in_ok-read_members-in-BeginObject t c =
    let first : c.args.reader.now ≡ token_of c.in_ok-token.token ∷ c.next.new.self = grind arith in
    let is : c.args.reader.now ≡ Token.begin_object ∷ c.next.new.self = first ∙ ap (λ k. token_of k ∷ c.next.new.self) c.in-BeginObject.is in
    let found = c.in_ok-read_members-in-BeginObject in
    let within = subst (λ es. AreMembersAt (c.args.depth - 1) (members_view es) c.next.new.self (members_view found.field-0.entries) c.read_members.new.reader) c.new.ensures.empty found.ensures in
    subst (λ (d : Data). IsValueAt c.args.depth c.args.reader.now d c.read_members.new.reader) (sym (view-Object found.field-0)) (object_at _ _ _ _ _ (omega arith) is within)

pub read_items-items-preserved : goal.read_items-items-preserved
read_items-items-preserved t c ds rest later =
    let l = c.items in
    let going : (after_end_array l.reader ≡ None) × (c.take_end_array.new.self ≡ l.reader) = grind arith in
    let v = c.in_ok-item.item in
    let here = subst (λ (ts : List Token). IsValueAt c.args.depth ts (view v) c.read_value.new.reader) going.1 c.in_ok-item.ensures in
    let more = l.invariant (view v ∷ ds) rest (one_more_item _ _ _ _ _ _ going.0 here later) in
    let grown : map view l.found.items ++ (view v ∷ ds) ≡ map view c.push.new.self.items ++ ds = pushed l.found.items v ds ∙ ap (λ vs. map view vs ++ ds) (sym c.in_ok-push.ensures.items) in
    subst (λ (es : List Data). AreItemsAt c.args.depth c.args.reader.now es rest) grown more

pub read_items-returns : goal.read_items-returns
read_items-returns t c =
    let l = c.items in
    let over : after_end_array l.reader ≡ Some c.take_end_array.new.self = grind arith in
    subst (λ (es : List Data). AreItemsAt c.args.depth c.args.reader.now es c.take_end_array.new.self) (append-nil _) (l.invariant [] _ (no_more_items _ _ _ over))

pub read_members-members-preserved : goal.read_members-members-preserved
read_members-members-preserved t c all rest later =
    let l = c.members in
    let k = c.in-Some.name.now in
    let named : read_key l.reader ≡ Some (Some k, c.next_key.new.self) = grind arith in
    let v = c.in_ok-member.member in
    let copied : string_bytes c.in_ok-key.key ≡ k = search rules in
    let inserted : members_view c.insert.new.self.entries ≡ put k (view v) (members_view l.found.entries) =
    ap members_view c.in_ok-insert.ensures.entries ∙ members_view-insert_entry l.found.entries c.in_ok-key.key v ∙ ap (λ name. put name (view v) (members_view l.found.entries)) copied in
    let next = subst (λ (found : Members). AreMembersAt c.args.depth found c.read_value.new.reader all rest) inserted later in
    l.invariant all rest (one_more_member _ _ _ _ _ _ _ _ (member_at _ _ _ _ _ _ named c.in_ok-member.ensures) next)

pub read_members-returns : goal.read_members-returns
read_members-returns t c =
    let l = c.members in
    let over : read_key l.reader ≡ Some (None, c.next_key.new.self) = grind arith in
    l.invariant _ _ (no_more_members _ _ _ _ over)
