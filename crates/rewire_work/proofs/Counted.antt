-- The statuses on their way, in hand and in the state.
use Rattle.std.proofs.Common.{◌≡◌, ◌+◌, Bool, true, false, cond, List, [], ◌∷◌, filter, count_by, refl, sym, ap, ◌∙◌, arith}
use Rattle.stack_rules.specs.declared.Thing.{Thing}
use Rattle.stack_rules.specs.declared.Thing.TheVariants as thing
use Rattle.stack_rules.specs.Net.{Net}
use Rattle.stack_rules.specs.Pauses.{is_status_thing, statuses_away}
use Rattle.stack_rules.specs.Places.{is_away, is_passed}
use Rattle.rule_basics.proofs.Counts.{one_if, count_by-cons, count_by-map}
use Rattle.agenda_items.specs.declared.Carried.{Carried}
use Rattle.agenda_items.specs.declared.Carried.TheVariants.{List as a_list, Status as a_status, Answer as an_answer}
use Rattle.hand_lemmas.specs.Hands.{Hands, Agrees, Seen, see_list, see_status, see_answer, carried, seen}
use Rattle.driver_tray.specs.Tray.{is_status_away}

is_seen_status : Seen → Bool
is_seen_status (see_list l stand) = false
is_seen_status (see_status s) = true
is_seen_status (see_answer a) = false

in_queue : (c : Carried) → is_seen_status (carried c) ≡ is_status_away c
unfolding is_seen_status
in_queue (a_list l way to) = refl
in_queue (a_status s) = refl
in_queue (an_answer a) = refl

in_things : (t : Thing) → is_seen_status (seen t) ≡ is_status_thing t
unfolding is_seen_status
in_things (thing.List l) = refl
in_things (thing.Status s) = refl
in_things (thing.Answer a) = refl

same_count : {X : Type 0} (p q : X → Bool) → ((x : X) → p x ≡ q x) → (xs : List X) → count_by p xs ≡ count_by q xs
same_count p q same [] = refl
same_count p q same (x ∷ xs) =
    count_by-cons p x xs ∙ ap (λ b. one_if b + count_by p xs) (same x) ∙ ap (λ n. one_if (q x) + n) (same_count p q same xs) ∙ sym (count_by-cons q x xs)

-- a status is always on its way
away : (ts : List Thing) → count_by is_status_thing (filter is_away ts) ≡ count_by is_status_thing ts
away [] = refl
away (thing.List l ∷ ts) =
    let whole : count_by is_status_thing (thing.List l ∷ ts) ≡ 0 + count_by is_status_thing ts = count_by-cons is_status_thing (thing.List l) ts in
    let some : count_by is_status_thing (thing.List l ∷ filter is_away ts) ≡ 0 + count_by is_status_thing (filter is_away ts) = count_by-cons is_status_thing (thing.List l) (filter is_away ts) in
    let rest = away ts in
    elim (is_passed l.stand) as (λ b. count_by is_status_thing (cond b (thing.List l ∷ filter is_away ts) (filter is_away ts)) ≡ count_by is_status_thing (thing.List l ∷ ts)) [
      | true ↦ omega (arith, whole, some, rest)
      | false ↦ omega (arith, whole, rest)
    ]
away (thing.Status s ∷ ts) =
    count_by-cons is_status_thing (thing.Status s) (filter is_away ts) ∙ ap (λ n. 1 + n) (away ts) ∙ sym (count_by-cons is_status_thing (thing.Status s) ts)
away (thing.Answer a ∷ ts) =
    count_by-cons is_status_thing (thing.Answer a) (filter is_away ts) ∙ ap (λ n. 0 + n) (away ts) ∙ sym (count_by-cons is_status_thing (thing.Answer a) ts)

pub statuses_counted : (net : Net) (h : Hands) → Agrees net h → count_by is_status_away h.queue ≡ statuses_away net
statuses_counted net h a =
    sym (same_count (λ c. is_seen_status (carried c)) is_status_away in_queue h.queue)
    ∙ sym (count_by-map is_seen_status carried h.queue)
    ∙ ap (count_by is_seen_status) a.queue_is
    ∙ count_by-map is_seen_status seen (filter is_away net.things)
    ∙ same_count (λ t. is_seen_status (seen t)) is_status_thing in_things (filter is_away net.things)
    ∙ away net.things
