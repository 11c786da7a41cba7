use Rattle.std.proofs.Common.{◌≡◌, Some, None, length, ap, subst, arith, List}
use Rattle.json.specs.Token.{Token}
use Rattle.json.specs.Json.{after_end_array}
use Rattle.json_tokens.specs.Tokens.{IsValueAt}
use Rattle.script_forms.specs.Values.{frame_in}
use Rattle.script_tokens.proofs.Lists.{so_far-none, so_far-more, so_far-over}
use Rattle.script_tokens.proofs.calls.each_frame.Goals as goal

pub frames-init : goal.frames-init
frames-init c = so_far-none 124 (λ before. frame_in) _ _ c.new-frames.ensures.items

pub frames-smaller : goal.frames-smaller
frames-smaller c =
    let going : (after_end_array c.frames.reader ≡ None) × (c.take_end_array.new.self ≡ c.frames.reader) = grind arith in
    let here = c.in_ok-next.ensures.1 123 in
    let fewer = here.shorter in
    omega (arith, fewer, ap (λ (ts : List Token). length ts) going.1)

pub frames-preserved : goal.frames-preserved
frames-preserved c =
    let going : (after_end_array c.frames.reader ≡ None) × (c.take_end_array.new.self ≡ c.frames.reader) = grind arith in
    let next = c.in_ok-next.ensures in
    let here = subst (λ (ts : List Token). IsValueAt 123 ts next.0 c.frame.new.reader) going.1 (next.1 123) in
    so_far-more 124 (λ before. frame_in) _ _ _ _ _ next.0 _ c.frames.invariant going.0 here next.2 c.in_ok-push.ensures.items

pub returns : goal.returns
returns c =
    let over : after_end_array c.frames.reader ≡ Some c.take_end_array.new.self = grind arith in
    so_far-over 124 (λ before. frame_in) _ _ _ _ _ c.frames.invariant (omega arith) c.in_ok-begin_array.ensures over
