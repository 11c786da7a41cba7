-- The opening, the turns of the lanes and the ending, one turn more.
use Rattle.std.proofs.Common.{◌≡◌, ◌≢◌, ℕ, ◌+◌, All, List, [], ◌∷◌, ◌++◌, take, refl, sym, subst, add-one}
use Rattle.std.proofs.lemmas.List.Elements.{All-nil, All-cons}
use Rattle.ndis_base.specs.declared.Who.TheVariants as who
use Rattle.journal_types.specs.declared.Turn.{Turn}
use Rattle.script_types.specs.declared.FilterSetup.{FilterSetup}
use Rattle.promise_rules.specs.declared.Opening.{Opening}
use Rattle.promise_rules.specs.declared.Opening.TheVariants.{Opened}
use Rattle.stack_rules.specs.Net.{Net, after_turn, after_turns}
use Rattle.promise_rules.specs.Own.{opening_event, opening_after, filters_after}
use Rattle.promise_rules.specs.Followed.{IsOwnTurn, Opens}

pub take_one_more : (n : ℕ) (turn : Turn) (turns : List Turn) → take (n + 1) (turn ∷ turns) ≡ turn ∷ take n turns
take_one_more n turn turns = rw (add-one n) refl

pub opens_none : (opening : Opening) (filters : List FilterSetup) (turns : List Turn) → opening ≡ Opened → Opens opening filters (take 0 turns)
opens_none opening filters [] opened = opened
opens_none opening filters (turn ∷ turns) opened = opened

pub opens_more : (opening : Opening) (filters : List FilterSetup) (turn : Turn) (turns : List Turn) (n : ℕ) → IsOwnTurn (opening_event opening filters) turn → Opens (opening_after opening filters turn.reply) (filters_after opening filters) (take n turns) → Opens opening filters (take (n + 1) (turn ∷ turns))
opens_more opening filters turn turns n own more =
    let P : List Turn → Type 0 = λ taken. Opens opening filters taken in
    subst P (sym (take_one_more n turn turns)) (own, more)

pub others_none : (turns : List Turn) → All (λ t. t.who ≢ who.Own) (take 0 turns)
others_none [] = All-nil (λ t. t.who ≢ who.Own)
others_none (turn ∷ turns) = All-nil (λ t. t.who ≢ who.Own)

pub others_more : (turn : Turn) (turns : List Turn) (n : ℕ) → turn.who ≢ who.Own → All (λ t. t.who ≢ who.Own) (take n turns) → All (λ t. t.who ≢ who.Own) (take (n + 1) (turn ∷ turns))
others_more turn turns n other others =
    let P : List Turn → Type 0 = λ taken. All (λ t. t.who ≢ who.Own) taken in
    subst P (sym (take_one_more n turn turns)) (All-cons (λ t. t.who ≢ who.Own) turn (take n turns) other others)

pub after_both : (net : Net) (first second : List Turn) → after_turns (after_turns net first) second ≡ after_turns net (first ++ second)
after_both net [] second = refl
after_both net (turn ∷ turns) second = after_both (after_turn net turn) turns second
