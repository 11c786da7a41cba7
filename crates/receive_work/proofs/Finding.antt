-- Whether a module keeps the list of a number, in hand and in the state.
use Rattle.std.proofs.Common.{◌≡◌, ℕ, ◌==◌, Bool, true, false, cond, List, [], ◌∷◌, ◌++◌, Option, Some, None, map, filter, find, refl, sym, ap, ◌∙◌}
use Rattle.ndis_base.specs.declared.ListStatus.TheVariants.{Success}
use Rattle.ndis_base.specs.declared.ModuleId.{ModuleId}
use Rattle.ndis_base.specs.declared.ModuleId.TheVariants.{Binding}
use Rattle.journal_types.specs.declared.Refusal.TheVariants as refusal
use Rattle.journal_types.specs.declared.Reply.TheVariants as reply
use Rattle.buffer_pools.specs.Views.{ListView}
use Rattle.stack_rules.specs.declared.LiveList.{LiveList}
use Rattle.stack_rules.specs.Net.{Net, lists, list_of}
use Rattle.stack_rules.specs.Outcome.{refused}
use Rattle.stack_rules.specs.Places.{is_kept_by, kept_lists}
use Rattle.stack_rules.specs.Receives.{give_back_of}
use Rattle.stack_rules.specs.Targets.{homeward}
use Rattle.hand_lemmas.specs.Hands.{Common, Hands, Agrees, in_hand, in_state}
use Rattle.hand_lemmas.proofs.Filters.{filters_match}
use Rattle.hand_lemmas.proofs.Finds.{placed_stand}
use Rattle.hand_lemmas.proofs.Tells.{kept_there}
use Rattle.call_lemmas.proofs.Miniports.{home_row}

-- the first that passes one test fails another where nothing passes both
none_passes : {X : Type 0} (b : Bool) (y : X) (ys : List X) → b ≡ true → cond b (y ∷ ys) ys ≡ [] → ⊥
none_passes true y ys h none = cc
none_passes false y ys h none = cc

no_later : {X : Type 0} (b : Bool) (y : X) (ys : List X) → cond b (y ∷ ys) ys ≡ [] → ys ≡ []
no_later true y ys none = absurd cc
no_later false y ys none = none

fails_here : {X : Type 0} (p q : X → Bool) (y : X) (ys : List X) (x : X) (a b : Bool) → p y ≡ a → q y ≡ b → cond a (Some y) (find p ys) ≡ Some x → filter p (cond b (y ∷ filter q ys) (filter q ys)) ≡ []
    → (find p ys ≡ Some x → filter p (filter q ys) ≡ [] → q x ≡ false) → q x ≡ false
fails_here p q y ys x true true here also e none more = absurd (none_passes (p y) y (filter p (filter q ys)) here none)
fails_here p q y ys x true false here other e none more = let same : y ≡ x = cc in ap q (sym same) ∙ other
fails_here p q y ys x false true there also e none more = more e (no_later (p y) y (filter p (filter q ys)) none)
fails_here p q y ys x false false there other e none more = more e none

first_fails : {X : Type 0} (p q : X → Bool) (xs : List X) (x : X) → find p xs ≡ Some x → filter p (filter q xs) ≡ [] → q x ≡ false
first_fails p q [] x e none = absurd cc
first_fails p q (y ∷ ys) x e none = fails_here p q y ys x (p y) (q y) refl refl e none (first_fails p q ys x)

nothing_left : (ls : List LiveList) → map in_hand [] ≡ map in_state ls → ls ≡ []
nothing_left [] e = refl
nothing_left (x ∷ xs) e = absurd cc

-- where none in hand has the number, no live list of the number is kept
none_kept : (net : Net) (h : Hands) (m : ModuleId) (n : ℕ) → Agrees net h → filter (λ l. l.label.number.0 == n) (h.kept m) ≡ [] → (x : LiveList) → list_of n (lists net.things) ≡ Some x → is_kept_by m x.stand ≡ false
none_kept net h m n a none x found =
    let has_number : LiveList → Bool = λ l. l.list.0 == n in
    let in_hand_too : ListView → Bool = λ l. l.label.number.0 == n in
    let shown : Common → Bool = λ c. c.list.0 == n in
    let same : map in_hand (filter in_hand_too (h.kept m)) ≡ map in_state (filter has_number (kept_lists net m)) =
    filters_match in_state in_hand shown has_number in_hand_too (λ x. refl) (λ l. refl) (kept_lists net m) (h.kept m) (a.kept_is m) in
    let left_out : filter has_number (kept_lists net m) ≡ [] = nothing_left (filter has_number (kept_lists net m)) (ap (map in_hand) (sym none) ∙ same) in
    first_fails has_number (λ l. is_kept_by m l.stand) (lists net.things) x found left_out

-- so the event is refused
pub lacks_list : (net : Net) (h : Hands) (binding n : ℕ) → Agrees net h → filter (λ l. l.label.number.0 == n) (h.kept (Binding binding)) ≡ [] → give_back_of net binding (list_of n (lists net.things)) ≡ refused refusal.NotHeld
lacks_list net h binding n a none = by_found (list_of n (lists net.things)) refl
  where
    by_found : (o : Option LiveList) → list_of n (lists net.things) ≡ o → give_back_of net binding o ≡ refused refusal.NotHeld
    by_found None e = refl
    by_found (Some x) e =
        ap (λ b. cond b (record { reply = reply.Ok; rows = homeward net.modules x 0 Success ∷ [] }) (refused refusal.NotHeld)) (none_kept net h (Binding binding) n a none x e)

-- a list that is kept in hand is the live list of its number, and goes homewards
pub keeps_list : (net : Net) (h : Hands) (binding n : ℕ) (front : List ListView) (l : ListView) (back : List ListView) → Agrees net h → h.kept (Binding binding) ≡ front ++ l ∷ back → l.label.number.0 ≡ n
    → give_back_of net binding (list_of n (lists net.things)) ≡ record { reply = reply.Ok; rows = home_row net.modules (Binding binding) (in_hand l) Success ∷ [] }
keeps_list net h binding n front l back a kept number =
    let k = kept_there net h (Binding binding) front l back a kept in
    let x : LiveList = k.mine.x in
    let stands : is_kept_by (Binding binding) x.stand ≡ true = placed_stand (is_kept_by (Binding binding)) (lists net.things) k.before x k.after k.is in
    ap (λ i. give_back_of net binding (list_of i (lists net.things))) (sym number)
    ∙ ap (give_back_of net binding) k.mine.live
    ∙ ap (λ b. cond b (record { reply = reply.Ok; rows = homeward net.modules x 0 Success ∷ [] }) (refused refusal.NotHeld)) stands
    ∙ ap (λ (c : Common). record { reply = reply.Ok; rows = home_row net.modules (Binding binding) c Success ∷ [] }) k.mine.same
