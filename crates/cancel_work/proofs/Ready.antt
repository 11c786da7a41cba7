-- The lists that a module turns back for a cancel, in hand and in the words of the rules.
use Rattle.std.proofs.Common.{◌≡◌, ℕ, ◌&&◌, not, Bool, true, false, cond, List, [], ◌∷◌, Some, flat_map, length, map, filter, refl, sym, ap, ◌∙◌}
use Rattle.std.proofs.lemmas.List.{length-map}
use Rattle.std.proofs.lemmas.List.Folds.{flat_map-map}
use Rattle.ndis_base.specs.declared.ListStatus.TheVariants.{Aborted}
use Rattle.ndis_base.specs.declared.ModuleId.{ModuleId}
use Rattle.buffer_pools.specs.Views.{ListView}
use Rattle.stack_rules.specs.Cancels.{is_named, cancelled_at, cancel_rows_at}
use Rattle.stack_rules.specs.Net.{Net}
use Rattle.stack_rules.specs.Places.{ready_lists}
use Rattle.stack_rules.specs.Tests.{is_down, same_number}
use Rattle.agenda_items.specs.Waits.{waits_at}
use Rattle.hand_lemmas.specs.Hands.{Common, Hands, Agrees, in_state, in_hand, ready_of}
use Rattle.hand_lemmas.proofs.Filters.{filters_match}
use Rattle.hand_lemmas.proofs.Ready.{ready_is}
use Rattle.driver_calls.specs.Filters.{is_ready, is_cancelled}
use Rattle.call_lemmas.proofs.Filters.{back_rows}

pub filter_both : {X : Type 0} (p q : X → Bool) (xs : List X) → filter (λ x. p x && q x) xs ≡ filter q (filter p xs)
filter_both p q [] = refl
filter_both p q (x ∷ xs) = here p q x xs (p x) (filter_both p q xs)
  where
    here : {X : Type 0} (p q : X → Bool) (x : X) (xs : List X) (a : Bool) → filter (λ y. p y && q y) xs ≡ filter q (filter p xs)
        → cond (a && q x) (x ∷ filter (λ y. p y && q y) xs) (filter (λ y. p y && q y) xs) ≡ filter q (cond a (x ∷ filter p xs) (filter p xs))
    here p q x xs true more = ap (λ ys. cond (q x) (x ∷ ys) ys) more
    here p q x xs false more = more

pub filter_same : {X : Type 0} (p q : X → Bool) → ((x : X) → p x ≡ q x) → (xs : List X) → filter p xs ≡ filter q xs
filter_same p q same [] = refl
filter_same p q same (x ∷ xs) = ap (λ b. cond b (x ∷ filter p xs) (filter p xs)) (same x) ∙ ap (λ ys. cond (q x) (x ∷ ys) ys) (filter_same p q same xs)

-- a send with the identifier, in hand
abbrev is_named_in : ℕ → ListView → Bool
is_named_in id l = is_down l.label.direction && same_number l.label.cancel (Some id)

cancelled_is : (net : Net) (h : Hands) (m : ModuleId) (id : ℕ) (kept : List ListView) → Agrees net h → h.kept m ≡ kept → map in_hand (filter (is_cancelled net id) kept) ≡ map in_state (cancelled_at net id m)
cancelled_is net h m id kept a is =
    ap (map in_hand) (filter_both (is_ready net) (is_named_in id) kept)
    ∙ ap (λ ls. map in_hand (filter (is_named_in id) (filter (is_ready net) ls))) (sym is)
    ∙ filters_match in_state in_hand (λ (c : Common). is_down c.direction && same_number c.cancel (Some id)) (is_named id) (is_named_in id) (λ x. refl) (λ l. refl) (ready_lists net m) (ready_of net h m) (ready_is net h m a)

-- the rows of the module, and how many lists it turns back
pub cancel_rows : (net : Net) (h : Hands) (m : ModuleId) (id : ℕ) (kept : List ListView) → Agrees net h → h.kept m ≡ kept
    → flat_map (λ l. back_rows net.modules m (in_hand l) Aborted) (filter (is_cancelled net id) kept) ≡ cancel_rows_at net id m
cancel_rows net h m id kept a is =
    sym (flat_map-map (λ c. back_rows net.modules m c Aborted) in_hand (filter (is_cancelled net id) kept))
    ∙ ap (flat_map (λ c. back_rows net.modules m c Aborted)) (cancelled_is net h m id kept a is)
    ∙ flat_map-map (λ c. back_rows net.modules m c Aborted) in_state (cancelled_at net id m)

pub cancel_count : (net : Net) (h : Hands) (m : ModuleId) (id : ℕ) (kept : List ListView) → Agrees net h → h.kept m ≡ kept → length (filter (is_cancelled net id) kept) ≡ length (cancelled_at net id m)
cancel_count net h m id kept a is =
    sym (length-map (filter (is_cancelled net id) kept) in_hand) ∙ ap length (cancelled_is net h m id kept a is) ∙ length-map (cancelled_at net id m) in_state

-- a list that is cancelled is ready
pub cancelled_ready : (net : Net) (id : ℕ) (l : ListView) → is_cancelled net id l ≡ true → waits_at net l.label.number.0 ≡ false
cancelled_ready net id l e = by (waits_at net l.label.number.0) (is_named_in id l) e
  where
    by : (w n : Bool) → (not w && n) ≡ true → w ≡ false
    by true n f = cc
    by false n f = refl

-- in another state in which the same lists wait, as long as the modules are the same
still_cancelled : (net now : Net) (id : ℕ) → ((k : ℕ) → waits_at now k ≡ waits_at net k) → (kept : List ListView) → filter (is_cancelled now id) kept ≡ filter (is_cancelled net id) kept
still_cancelled net now id waits kept = filter_same (is_cancelled now id) (is_cancelled net id) (λ l. ap (λ w. not w && is_named_in id l) (waits l.label.number.0)) kept

pub still_rows : (net now : Net) (h g : Hands) (m : ModuleId) (id : ℕ) → Agrees net h → Agrees now g → g.kept m ≡ h.kept m → ((k : ℕ) → waits_at now k ≡ waits_at net k) → now.modules ≡ net.modules
    → cancel_rows_at now id m ≡ cancel_rows_at net id m
still_rows net now h g m id a b kept waits modules =
    sym (cancel_rows now g m id (h.kept m) b kept)
    ∙ ap (λ ms. flat_map (λ l. back_rows ms m (in_hand l) Aborted) (filter (is_cancelled now id) (h.kept m))) modules
    ∙ ap (flat_map (λ l. back_rows net.modules m (in_hand l) Aborted)) (still_cancelled net now id waits (h.kept m))
    ∙ cancel_rows net h m id (h.kept m) a refl

pub still_count : (net now : Net) (h g : Hands) (m : ModuleId) (id : ℕ) → Agrees net h → Agrees now g → g.kept m ≡ h.kept m → ((k : ℕ) → waits_at now k ≡ waits_at net k)
    → length (cancelled_at now id m) ≡ length (cancelled_at net id m)
still_count net now h g m id a b kept waits =
    sym (cancel_count now g m id (h.kept m) b kept) ∙ ap length (still_cancelled net now id waits (h.kept m)) ∙ cancel_count net h m id (h.kept m) a refl
