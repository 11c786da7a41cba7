-- The lists that a module keeps ready are those that the ledger says don't wait; and rows that pass lists leave it so.
use Rattle.std.proofs.Common.{◌≡◌, ◌||◌, not, Bool, true, false, cond, List, [], ◌∷◌, Some, map, filter, refl, ap, ◌∙◌}
use Rattle.ndis_base.specs.declared.ModuleId.{ModuleId}
use Rattle.stack_rules.specs.declared.LiveList.{LiveList}
use Rattle.stack_rules.specs.Net.{Net, lists, list_of}
use Rattle.stack_rules.specs.Places.{is_kept_by, has_clone, is_waiting, kept_lists, ready_lists}
use Rattle.rule_basics.specs.Live.{Each}
use Rattle.rule_basics.proofs.Each.{Each-implies}
use Rattle.agenda_items.specs.Waits.{crossed_at, waits_at}
use Rattle.hand_lemmas.specs.Hands.{Common, in_hand, in_state, Hands, Agrees, ready_of}
use Rattle.hand_lemmas.proofs.Filters.{filters_match}
use Rattle.hand_lemmas.proofs.Finds.{found_self}

filter_where : (p q : LiveList → Bool) (ls : List LiveList) → Each (λ l. p l ≡ q l) ls → filter p ls ≡ filter q ls
filter_where p q [] h = refl
filter_where p q (l ∷ ls) h = ap (λ b. cond b (l ∷ filter p ls) (filter p ls)) h.0 ∙ ap (λ r. cond (q l) (l ∷ r) r) (filter_where p q ls h.1)

each_filter : (P : LiveList → Type 0) (p : LiveList → Bool) (ls : List LiveList) → Each P ls → Each P (filter p ls)
each_filter P p [] h = tt
each_filter P p (l ∷ ls) h = elim (p l) as (λ b. Each P (cond b (l ∷ filter p ls) (filter p ls))) [ true ↦ (h.0, each_filter P p ls h.1) | false ↦ each_filter P p ls h.1 ]

-- a live list waits where its number does
waits_same : (net : Net) (l : LiveList) → list_of l.list.0 (lists net.things) ≡ Some l → not (waits_at net l.list.0) ≡ not (is_waiting net l)
waits_same net l e = ap (λ o. not (crossed_at o || has_clone net l.list.0)) e

pub ready_is : (net : Net) (h : Hands) (m : ModuleId) → Agrees net h → map in_hand (ready_of net h m) ≡ map in_state (ready_lists net m)
ready_is net h m a =
    let all : Each (λ l. not (waits_at net l.list.0) ≡ not (is_waiting net l)) (kept_lists net m) =
    each_filter (λ l. not (waits_at net l.list.0) ≡ not (is_waiting net l)) (λ l. is_kept_by m l.stand) (lists net.things)
    (Each-implies (λ l. list_of l.list.0 (lists net.things) ≡ Some l) (λ l. not (waits_at net l.list.0) ≡ not (is_waiting net l)) (λ l e. waits_same net l e) (lists net.things) (found_self (lists net.things) a.numbered.apart)) in
    filters_match in_state in_hand (λ (c : Common). not (waits_at net c.list.0)) (λ l. not (waits_at net l.list.0)) (λ l. not (waits_at net l.label.number.0)) (λ l. refl) (λ l. refl) (kept_lists net m) (h.kept m) (a.kept_is m)
    ∙ ap (map in_state) (filter_where (λ l. not (waits_at net l.list.0)) (λ l. not (is_waiting net l)) (kept_lists net m) all)
