-- Each way in which a walk goes on, or ends, is one of those in which the journals follow a lane's calls.
use Rattle.std.proofs.Common.{rules, ◌≡◌, ◌-◌, List, ◌∷◌, length, take, drop, map, sym, subst, refl, arith}
use Rattle.std.proofs.lemmas.List.{take_rest}
use Rattle.journal_types.specs.declared.Turn.{Turn}
use Rattle.script_types.specs.declared.Call.{Call}
use Rattle.promise_rules.specs.Followed.{Follows}
use Rattle.plain_followed.proofs.FollowedLemmas.{passed_on, ends_here, passes_over, calls_next, helps_next, from_first, no_items}
use Rattle.plain_followed.proofs.followed.+follow.Goals as goal

pub returns-in-empty : goal.returns-in-empty
returns-in-empty t c =
    let P : List Call → Type 0 = λ l. Follows c.args.stacks.now c.args.lane l c.args.tail.now (map (λ r. r.now) c.args.rests.now) in
    λ is. subst P (sym (no_items c.args.calls.now (omega (arith, c.in-empty.len_below))))
    (ends_here c.args.stacks.now c.args.lane c.args.tail.now (map (λ r. r.now) c.args.rests.now) (search rules) (c.are_done.ensures is))

pub returns-then-call-lane : goal.returns-then-call-lane
returns-then-call-lane t c =
    let others : List Call = take (length c.args.calls.now - 1) (drop 1 c.args.calls.now) in
    let P : List Call → Type 0 = λ l. Follows c.args.stacks.now c.args.lane l c.args.tail.now (map (λ r. r.now) c.args.rests.now) in
    let whole : c.args.calls.now ≡ c.call-item.result ∷ others = from_first c.args.calls.now others c.call-item.result (take_rest c.args.calls.now 1) c.in-len1-up.len_at_least c.call-item.is in
    passed_on (P others) (P c.args.calls.now) c.follow-then-call-lane.result
    (λ more. subst P (sym whole) (passes_over c.args.stacks.now c.args.lane c.call-item.result others c.args.tail.now (map (λ r. r.now) c.args.rests.now) (search rules) (search rules) more))
    c.follow-then-call-lane.ensures

pub returns-in_ok-left-in-Some-next_turn_on : goal.returns-in_ok-left-in-Some-next_turn_on
returns-in_ok-left-in-Some-next_turn_on t c =
    let stacks = c.args.stacks.now in
    let rests : List (List Turn) = map (λ r. r.now) c.args.rests.now in
    let left : List (List Turn) = map (λ r. r.now) c.as_slice.result.now in
    passed_on (Follows stacks c.args.lane c.args.calls.now c.tail_after-more.result left) (Follows stacks c.args.lane c.args.calls.now c.args.tail.now rests) c.follow.result
    (helps_next stacks c.args.lane c.args.calls.now c.args.tail.now c.tail_after-more.result rests left c.in-Some.s c.in-Some-next_turn_on.turn.now
    (search rules) (search rules) (c.if-not-is_help_turn.ensures.by refl) (c.if-not-is_help_turn.ensures.what refl) c.tail_after-more.ensures (search rules))
    c.follow.ensures

pub returns-in_ok-more-in-Some-next_turn_on-2 : goal.returns-in_ok-more-in-Some-next_turn_on-2
returns-in_ok-more-in-Some-next_turn_on-2 t c =
    let others : List Call = take (length c.args.calls.now - 1) (drop 1 c.args.calls.now) in
    let stacks = c.args.stacks.now in
    let rests : List (List Turn) = map (λ r. r.now) c.args.rests.now in
    let left : List (List Turn) = map (λ r. r.now) c.as_slice-in-Some-next_turn_on-2.result.now in
    let P : List Call → Type 0 = λ l. Follows stacks c.args.lane l c.args.tail.now rests in
    let whole : c.args.calls.now ≡ c.call-item.result ∷ others = from_first c.args.calls.now others c.call-item.result (take_rest c.args.calls.now 1) c.in-len1-up.len_at_least c.call-item.is in
    passed_on (Follows stacks c.args.lane others c.in_ok-more-in-Some-next_turn_on-2.more left) (P c.args.calls.now) c.follow-in-Some-next_turn_on-2.result
    (λ more. subst P (sym whole)
    (calls_next stacks c.args.lane c.call-item.result others c.args.tail.now c.in_ok-more-in-Some-next_turn_on-2.more rests left c.in-Some-next_turn_on-2.turn.now
    (search rules) (search rules) (c.if-not-is_call_turn.ensures.by refl) (c.if-not-is_call_turn.ensures.what refl) (search rules) (search rules) (search rules) more))
    c.follow-in-Some-next_turn_on-2.ensures
