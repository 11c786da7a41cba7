use Rattle.std.proofs.Common.{◌≡◌, Some, None, Ok, length, sym, ap, ◌∙◌, subst, arith, List}
use Rattle.json.specs.Token.{Token}
use Rattle.json.specs.Json.{after_end_array}
use Rattle.json_tokens.specs.Tokens.{IsValueAt}
use Rattle.script_forms.specs.Script.{call_after}
use Rattle.script_types.specs.declared.ScriptPlace.TheVariants as place
use Rattle.script_forms.specs.Results.{placed}
use Rattle.script_tokens.proofs.Lists.{so_far-none, so_far-more, so_far-over}
use Rattle.script_tokens.proofs.calls.each_call.Goals as goal

pub calls-init : goal.calls-init
calls-init c = so_far-none 126 (call_after c.args.lanes c.args.stacks.now) _ _ c.new-calls.ensures.items

pub calls-preserved : goal.calls-preserved
calls-preserved c =
    let going : (after_end_array c.calls.reader ≡ None) × (c.take_end_array.new.self ≡ c.calls.reader) = grind arith in
    let next = c.in_ok-next.ensures in
    let here = subst (λ (ts : List Token). IsValueAt 125 ts next.0 c.call.new.reader) going.1 next.1 in
    so_far-more 126 (call_after c.args.lanes c.args.stacks.now) _ _ _ _ _ next.0 _ c.calls.invariant going.0 here (ap (placed (place.Call _)) next.2) c.in_ok-push.ensures.items

pub returns : goal.returns
returns c =
    let over : after_end_array c.calls.reader ≡ Some c.take_end_array.new.self = grind arith in
    let all = so_far-over 126 (call_after c.args.lanes c.args.stacks.now) _ _ _ _ _ c.calls.invariant (omega arith) c.in_ok-begin_array.ensures over in
    let same = sym c.of.ensures in
    (all.0, all.1, all.2 ∙ ap (λ xs. length xs) same, all.3 ∙ ap Ok same)
