-- The lists in hand stay live lists of their owners' pools as one is issued or goes home.
use Rattle.std.proofs.Common.{◌≡◌, ◌≢◌, ℕ, ◌==◌, not, Bool, true, false, List, Some, filter, slice_index_or, refl, sym, ap, ◌∙◌, subst, All, eq-eqb}
use Rattle.std.proofs.lemmas.List.Elements.{All-weaker, filter_passes}
use Rattle.ndis_base.specs.declared.ModuleId.{ModuleId}
use Rattle.buffer_pools.specs.Views.{ListView, PoolView, Live, IsOf, Issues, Frees, live_at}
use Rattle.buffer_pools.proofs.Lives.{is_of-issued, is_of-freed}
use Rattle.stack_rules.specs.declared.Thing.{Thing}
use Rattle.agenda_items.specs.declared.Carried.{Carried}
use Rattle.hand_lemmas.specs.Hands.{Hands, IsHoused, IsCarriedHome, out, carries, taken, put_at, pooled}
use Rattle.agenda_items.specs.declared.Carried.TheVariants.{List as a_list, Status as a_status, Answer as an_answer}
use Rattle.hand_lemmas.proofs.Modules.{put_here, at_each}
use Rattle.hand_lemmas.proofs.Shows.{Shows}

-- a list is housed after one pool changed, where the lists of this pool stay in it
pub housed_still : (pools : ModuleId → PoolView) (m : ModuleId) (p : PoolView) (o : ListView) → (IsOf (pools m) o → IsOf p o) → IsHoused pools o → IsHoused (put_at m p pools) o
housed_still pools m p o keeps housed =
    at_each (λ k q. o.label.owner ≡ k → IsOf q o) m p pools
    (λ e. keeps (subst (λ k. IsOf (pools k) o) e housed))
    (λ k other e. subst (λ j. IsOf (pools j) o) e housed)
    o.label.owner refl

-- one more list
pub housed_issued : (pools : ModuleId → PoolView) (m : ModuleId) (p : PoolView) (l o : ListView) → Issues (pools m) l p → IsHoused pools o → IsHoused (put_at m p pools) o
housed_issued pools m p l o issues housed = housed_still pools m p o (λ of. is_of-issued (pools m) p l o issues of) housed

pub housed_new : (pools : ModuleId → PoolView) (p : PoolView) (l : ListView) → Issues (pools l.label.owner) l p → IsHoused (put_at l.label.owner p pools) l
housed_new pools p l issues = subst (λ q. IsOf q l) (sym (put_here l.label.owner p pools)) issues.is

-- one list fewer
slot_apart : (pool : PoolView) (l o : ListView) → IsOf pool l → IsOf pool o → (o.label.number.0 ≡ l.label.number.0 → ⊥) → o.slot ≢ l.slot
slot_apart pool l o mine its apart same =
    let here : Live = record { label = l.label; frames = l.frames } in
    let there : Live = record { label = o.label; frames = o.frames } in
    let some : Some there ≡ Some here = sym its.live ∙ ap (live_at pool) same ∙ mine.live in
    let equal : there ≡ here = cc in
    apart (ap (λ (v : Live). v.label.number.0) equal)

housed_freed : (pools : ModuleId → PoolView) (p : PoolView) (l o : ListView) → Frees (pools l.label.owner) l p → IsHoused pools l → (o.label.number.0 ≡ l.label.number.0 → ⊥)
    → IsHoused pools o → IsHoused (put_at l.label.owner p pools) o
housed_freed pools p l o frees mine apart housed =
    housed_still pools l.label.owner p o (λ of. is_of-freed (pools l.label.owner) p l o frees (slot_apart (pools l.label.owner) l o mine of apart) of) housed

all_both : {X : Type 0} (P Q R : X → Type 0) (xs : List X) → ((x : X) → P x → Q x → R x) → All P xs → All Q xs → All R xs
all_both P Q R xs f ps qs = λ k d within. f (slice_index_or xs k d) (ps k d within) (qs k d within)

other_number : (a n : ℕ) → not (a == n) ≡ true → a ≡ n → ⊥
other_number a n e same = let here : (a == n) ≡ true = eq-eqb a n same in clash (a == n) e here
  where
    clash : (b : Bool) → not b ≡ true → b ≡ true → ⊥
    clash true e f = cc
    clash false e f = cc

all_freed : (pools : ModuleId → PoolView) (p : PoolView) (l : ListView) (ls : List ListView) → Frees (pools l.label.owner) l p → IsHoused pools l
    → All (IsHoused pools) (out l.label.number.0 ls) → All (IsHoused (put_at l.label.owner p pools)) (out l.label.number.0 ls)
all_freed pools p l ls frees mine housed =
    all_both (λ o. not (o.label.number.0 == l.label.number.0) ≡ true) (IsHoused pools) (IsHoused (put_at l.label.owner p pools)) (out l.label.number.0 ls)
    (λ o other h. housed_freed pools p l o frees mine (other_number o.label.number.0 l.label.number.0 other) h)
    (filter_passes (λ o. not (o.label.number.0 == l.label.number.0)) ls) housed

carried_freed : (pools : ModuleId → PoolView) (p : PoolView) (l : ListView) → Frees (pools l.label.owner) l p → IsHoused pools l
    → (c : Carried) → not (carries l.label.number.0 c) ≡ true → IsCarriedHome pools c → IsCarriedHome (put_at l.label.owner p pools) c
carried_freed pools p l frees mine (a_list o way to) other h = housed_freed pools p l o frees mine (other_number o.label.number.0 l.label.number.0 other) h
carried_freed pools p l frees mine (a_status s) other h = tt
carried_freed pools p l frees mine (an_answer a) other h = tt

pub shows_freed : (ts : List Thing) (h : Hands) (l : ListView) (p : PoolView) → Shows ts (taken l.label.number.0 h) → IsHoused h.pools l → Frees (h.pools l.label.owner) l p
    → Shows ts (pooled l.label.owner p (taken l.label.number.0 h))
shows_freed ts h l p s mine frees =
    let n : ℕ = l.label.number.0 in
    record {
      queue_is = s.queue_is;
      loose_is = s.loose_is;
      kept_is = s.kept_is;
      queue_housed = all_both (λ c. not (carries n c) ≡ true) (IsCarriedHome h.pools) (IsCarriedHome (put_at l.label.owner p h.pools)) (filter (λ c. not (carries n c)) h.queue)
          (λ c other home. carried_freed h.pools p l frees mine c other home)
          (filter_passes (λ c. not (carries n c)) h.queue) s.queue_housed;
      loose_housed = all_freed h.pools p l h.loose frees mine s.loose_housed;
      kept_housed = λ m. all_freed h.pools p l (h.kept m) frees mine (s.kept_housed m);
    }

carried_issued : (pools : ModuleId → PoolView) (m : ModuleId) (p : PoolView) (l : ListView) → Issues (pools m) l p → (c : Carried) → IsCarriedHome pools c → IsCarriedHome (put_at m p pools) c
carried_issued pools m p l issues (a_list o way to) h = housed_issued pools m p l o issues h
carried_issued pools m p l issues (a_status s) h = tt
carried_issued pools m p l issues (an_answer a) h = tt

pub shows_issued : (ts : List Thing) (h : Hands) (l : ListView) (p : PoolView) → Shows ts h → Issues (h.pools l.label.owner) l p → Shows ts (pooled l.label.owner p h)
shows_issued ts h l p s issues =
    let new : ModuleId → PoolView = put_at l.label.owner p h.pools in
    record {
      queue_is = s.queue_is;
      loose_is = s.loose_is;
      kept_is = s.kept_is;
      queue_housed = All-weaker (IsCarriedHome h.pools) (IsCarriedHome new) (λ c home. carried_issued h.pools l.label.owner p l issues c home) h.queue s.queue_housed;
      loose_housed = All-weaker (IsHoused h.pools) (IsHoused new) (λ o home. housed_issued h.pools l.label.owner p l o issues home) h.loose s.loose_housed;
      kept_housed = λ m. All-weaker (IsHoused h.pools) (IsHoused new) (λ o home. housed_issued h.pools l.label.owner p l o issues home) (h.kept m) (s.kept_housed m);
    }
