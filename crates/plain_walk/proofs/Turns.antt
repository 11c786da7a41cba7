-- One turn more of a journal that the rules write.
use Rattle.std.proofs.Common.{◌≡◌, List, [], ◌∷◌, ◌++◌, Option, Some, None, IfSome, refl, sym, ap, subst, ◌∙◌}
use Rattle.ndis_base.specs.declared.Who.{Who}
use Rattle.journal_types.specs.declared.StackHead.{StackHead}
use Rattle.journal_types.specs.declared.Event.{Event}
use Rattle.journal_types.specs.declared.Turn.{Turn}
use Rattle.stack_rules.specs.Net.{Net, start, seen, after_turn, after_turns}
use Rattle.plain_walk.specs.Walked.{turn_of, ByRules}
use Rattle.plain_walk.specs.Stands.{IsWalked}

-- the state after the turns and one more
turns_more : (net : Net) (turns : List Turn) (turn : Turn) → after_turns net (turns ++ turn ∷ []) ≡ after_turn (after_turns net turns) turn
turns_more net [] turn = refl
turns_more net (t ∷ turns) turn = turns_more (after_turn net t) turns turn

-- the turn that an event makes after turns by the rules is by the rules
rules_more : (net : Net) (turns : List Turn) (who : Who) (event : Event) → ByRules net turns → ByRules net (turns ++ turn_of (after_turns net turns) who event ∷ [])
unfolding turn_of
rules_more net [] who event by = (refl, tt)
rules_more net (turn ∷ turns) who event by = (by.0, rules_more (after_turn net turn) turns who event by.1)

stands_next : (head : StackHead) (turns : List Turn) (who : Who) (event : Event) → ByRules (start head) turns
    → IsWalked head (turns ++ turn_of (seen head turns) who event ∷ []) (Some (after_turn (seen head turns) (turn_of (seen head turns) who event)))
stands_next head turns who event by = record {
  by_rules = rules_more (start head) turns who event by;
  now = sym (turns_more (start head) turns (turn_of (seen head turns) who event));
}

-- a stack stands without a state
pub stands_without : (head head' : StackHead) (turns turns' : List Turn) (net : Option Net) → IsWalked head turns net → head' ≡ head → turns' ≡ turns → IsWalked head' turns' None
stands_without head head' turns turns' net s same_head same_turns =
    let S : StackHead → List Turn → Type 0 = λ h ts. IsWalked h ts None in
    let here : IsWalked head turns None = record { by_rules = s.by_rules; now = tt } in
    subst (λ h. S h turns') (sym same_head) (subst (λ ts. S head ts) (sym same_turns) here)

-- the state of a stack that has one
pub state_of : (head : StackHead) (turns : List Turn) (net : Option Net) (n : Net) → IsWalked head turns net → net ≡ Some n → n ≡ seen head turns
state_of head turns net n s is =
    let P : Option Net → Type 0 = λ o. IfSome o (λ m. m ≡ seen head turns) in
    subst P is s.now

-- a stack stands after the turn that an event makes
pub stands_more : (head head' : StackHead) (turns turns' : List Turn) (net : Option Net) (before after : Net) (turn : Turn) (who : Who) (event : Event)
    → IsWalked head turns net → net ≡ Some before → turn ≡ turn_of before who event → after ≡ after_turn before (turn_of before who event)
    → head' ≡ head → turns' ≡ turns ++ turn ∷ [] → IsWalked head' turns' (Some after)
stands_more head head' turns turns' net before after turn who event s is turn_is after_is same_head longer =
    let S : StackHead → List Turn → Net → Type 0 = λ h ts n. IsWalked h ts (Some n) in
    let now : before ≡ seen head turns = state_of head turns net before s is in
    let e : turns' ≡ turns ++ turn_of (seen head turns) who event ∷ [] = longer ∙ ap (λ t. turns ++ t ∷ []) (turn_is ∙ ap (λ n. turn_of n who event) now) in
    let f : after ≡ after_turn (seen head turns) (turn_of (seen head turns) who event) = after_is ∙ ap (λ n. after_turn n (turn_of n who event)) now in
    let next : IsWalked head (turns ++ turn_of (seen head turns) who event ∷ []) (Some (after_turn (seen head turns) (turn_of (seen head turns) who event))) = stands_next head turns who event s.by_rules in
    subst (λ h. S h turns' after) (sym same_head) (subst (λ ts. S head ts after) (sym e) (subst (λ n. S head (turns ++ turn_of (seen head turns) who event ∷ []) n) (sym f) next))
