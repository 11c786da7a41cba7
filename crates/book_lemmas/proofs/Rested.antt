-- Between turns no list is in the hands of an event's function: each is on its way, or a module keeps it that has a
-- reason to. So a filter that isn't a hold filter keeps a list only while a clone of it is live.
use Rattle.std.proofs.Common.{◌≡◌, Bool, false, cond, List, [], ◌∷◌, map, filter, refl, sym, ap, ◌∙◌, subst}
use Rattle.journal_types.specs.declared.StackHead.{StackHead}
use Rattle.journal_types.specs.declared.Turn.{Turn}
use Rattle.buffer_pools.specs.Views.{ListView}
use Rattle.stack_rules.specs.declared.Stand.{Stand}
use Rattle.stack_rules.specs.declared.Stand.TheVariants as stand
use Rattle.stack_rules.specs.declared.LiveList.{LiveList}
use Rattle.stack_rules.specs.Net.{Net, lists}
use Rattle.stack_rules.specs.Places.{has_clone}
use Rattle.rule_basics.specs.Live.{Each}
use Rattle.drain_laws.specs.Resting.{IsResting, Rests}
use Rattle.drain_laws.proofs.Rests.{lists_rest}
use Rattle.hand_lemmas.specs.Hands.{in_hand, in_state, is_loose, loose_lists, Hands, Agrees}
use Rattle.book_lemmas.specs.Between.{IsBetween}

rested : {head : StackHead} {turns : List Turn} {net : Net} → IsBetween head turns net → Each (IsResting net) (lists net.things)
rested {head} {turns} {net} b = subst (λ (n : Net). Each (IsResting n) (lists n.things)) (sym b.is) (lists_rest head turns b.sound)

not_loose : (net : Net) (c : Bool) (s : Stand) → Rests net c s → is_loose s ≡ false
not_loose net c stand.Unplaced r = absurd r
not_loose net c (stand.Kept m) r = refl
not_loose net c (stand.Passed way to) r = refl

none_loose : (net : Net) (ls : List LiveList) → Each (IsResting net) ls → filter (λ l. is_loose l.stand) ls ≡ []
none_loose net [] h = refl
none_loose net (l ∷ ls) h =
    ap (λ b. cond b (l ∷ filter (λ k. is_loose k.stand) ls) (filter (λ k. is_loose k.stand) ls)) (not_loose net (has_clone net l.list.0) l.stand h.0) ∙ none_loose net ls h.1

none_shown : (ls : List ListView) (ks : List LiveList) → map in_hand ls ≡ map in_state ks → ks ≡ [] → ls ≡ []
none_shown [] ks e none = refl
none_shown (l ∷ ls) [] e none = cc
none_shown (l ∷ ls) (k ∷ ks) e none = cc

-- nothing is left in the hands of a function
pub loose_none : {head : StackHead} {turns : List Turn} {net : Net} (h : Hands) → IsBetween head turns net → Agrees net h → h.loose ≡ []
loose_none {head} {turns} {net} h b a = none_shown h.loose (loose_lists net) a.loose_is (none_loose net (lists net.things) (rested b))
