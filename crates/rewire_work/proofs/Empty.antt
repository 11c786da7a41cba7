-- While no list is live, what is in hand agrees with the state whatever the pools and the drivers, where these are empty.
use Rattle.std.proofs.Common.{◌≡◌, List, [], ◌∷◌, map, filter, count_by, refl, sym, ap, ◌∙◌, subst, All}
use Rattle.std.proofs.lemmas.List.Elements.{All-nil, All-cons}
use Rattle.ndis_base.specs.declared.ModuleId.{ModuleId}
use Rattle.buffer_pools.specs.Views.{ListView, PoolView, live_count}
use Rattle.stack_rules.specs.declared.LiveList.{LiveList}
use Rattle.stack_rules.specs.declared.Thing.{Thing}
use Rattle.stack_rules.specs.declared.Thing.TheVariants as thing
use Rattle.stack_rules.specs.Net.{Net, lists}
use Rattle.stack_rules.specs.Places.{is_away, agenda, is_kept_by}
use Rattle.stack_rules.specs.Tests.{same_module}
use Rattle.rule_basics.specs.Numbers.{IsNumbered}
use Rattle.agenda_items.specs.declared.Carried.{Carried}
use Rattle.agenda_items.specs.declared.Carried.TheVariants.{List as a_list, Status as a_status, Answer as an_answer}
use Rattle.hand_lemmas.specs.Hands.{Hands, Agrees, IsHoused, IsCarriedHome, in_hand, in_state, carried, seen, loose_lists, is_loose}
use Rattle.hand_lemmas.proofs.Rows.{same_things}

no_away : (ts : List Thing) → lists ts ≡ [] → lists (filter is_away ts) ≡ []
no_away [] h = refl
no_away (thing.List l ∷ ts) h = cc
no_away (thing.Status s ∷ ts) h = no_away ts h
no_away (thing.Answer a ∷ ts) h = no_away ts h

-- nothing on its way is a list
housed : (pools : ModuleId → PoolView) (qs : List Carried) (ts : List Thing) → map carried qs ≡ map seen ts → lists ts ≡ [] → All (IsCarriedHome pools) qs
housed pools [] ts e none = All-nil (IsCarriedHome pools)
housed pools (q ∷ qs) [] e none = cc
housed pools (q ∷ qs) (thing.List x ∷ ts) e none = cc
housed pools (a_list l way to ∷ qs) (thing.Status s ∷ ts) e none = cc
housed pools (a_list l way to ∷ qs) (thing.Answer x ∷ ts) e none = cc
housed pools (a_status s ∷ qs) (thing.Status x ∷ ts) e none = let rest : map carried qs ≡ map seen ts = cc in All-cons (IsCarriedHome pools) (a_status s) qs tt (housed pools qs ts rest none)
housed pools (a_status s ∷ qs) (thing.Answer x ∷ ts) e none = cc
housed pools (an_answer a ∷ qs) (thing.Status x ∷ ts) e none = cc
housed pools (an_answer a ∷ qs) (thing.Answer x ∷ ts) e none = let rest : map carried qs ≡ map seen ts = cc in All-cons (IsCarriedHome pools) (an_answer a) qs tt (housed pools qs ts rest none)

none_shown : (ls : List ListView) (ks : List LiveList) → map in_hand ls ≡ map in_state ks → ks ≡ [] → ls ≡ []
none_shown [] ks e none = refl
none_shown (l ∷ ls) [] e none = cc
none_shown (l ∷ ls) (k ∷ ks) e none = cc

-- nothing is kept, and no pool has a live list
pub kept_none : (net : Net) (h : Hands) → Agrees net h → lists net.things ≡ [] → (m : ModuleId) → h.kept m ≡ []
kept_none net h a none m = none_shown (h.kept m) (filter (λ l. is_kept_by m l.stand) (lists net.things)) (a.kept_is m) (ap (filter (λ l. is_kept_by m l.stand)) none)

pub live_none : (net : Net) (h : Hands) → Agrees net h → lists net.things ≡ [] → (m : ModuleId) → live_count (h.pools m) ≡ 0
live_none net h a none m = a.counts m ∙ ap (count_by (λ l. same_module l.owner m)) none

shown_none : (ls : List ListView) → ls ≡ [] → (ks : List LiveList) → ks ≡ [] → map in_hand ls ≡ map in_state ks
shown_none ls e ks f = ap (map in_hand) e ∙ ap (map in_state) (sym f)

loose_nothing : (ls : List LiveList) → ls ≡ [] → filter (λ l. is_loose l.stand) ls ≡ []
loose_nothing ls e = ap (filter (λ l. is_loose l.stand)) e

-- so hands with the same queue agree too
pub agrees_empty : (net now : Net) (h : Hands) (kept : ModuleId → List ListView) (pools : ModuleId → PoolView) → Agrees net h → lists net.things ≡ [] → now.things ≡ net.things → IsNumbered now
    → ((m : ModuleId) → kept m ≡ []) → ((m : ModuleId) → live_count (pools m) ≡ 0) → Agrees now (record { queue = h.queue; loose = []; kept = kept; pools = pools })
agrees_empty net now h kept pools a none same numbered rest empty = same_things net now (record { queue = h.queue; loose = []; kept = kept; pools = pools }) here same numbered
  where
    here : Agrees net (record { queue = h.queue; loose = []; kept = kept; pools = pools })
    here = record {
      queue_is = a.queue_is;
      loose_is = shown_none [] refl (loose_lists net) (loose_nothing (lists net.things) none);
      kept_is = λ m. shown_none (kept m) (rest m) (filter (λ l. is_kept_by m l.stand) (lists net.things)) (ap (filter (λ l. is_kept_by m l.stand)) none);
      numbered = a.numbered;
      queue_housed = housed pools h.queue (agenda net) a.queue_is (no_away net.things none);
      loose_housed = All-nil (IsHoused pools);
      kept_housed = λ m. subst (All (IsHoused pools)) (sym (rest m)) (All-nil (IsHoused pools));
      counts = λ m. empty m ∙ sym (ap (count_by (λ l. same_module l.owner m)) none);
    }
