use Rattle.std.proofs.Common.{◌≡◌, ◌≢◌, ℕ, List, [], ◌∷◌, Option, Some, None, map, option_map, slice_index_or, refl, sym, ◌∙◌, ap, arith, ◌<◌, ◌-◌, length, All, subst}
use Rattle.std.specs.Prelude.{is_some, count_by, ◌+◌, cond, vec_len}
use Rattle.std.proofs.Math.ListN.{get_or-map}
use Rattle.std.proofs.lemmas.List.Sums.{sum_by-cons}
use Rattle.slab.specs.Slab.{slab_len, Updates}
use Rattle.buffer_pools.specs.Views.{PoolView, SpaceView, ListView, live_count, Issues, Frees}
use Rattle.buffer_pools.specs.Inside.{live_of, pool_view, Enters}
use Rattle.buffer_pools.specs.declared.slot.Slot.{Slot}
use Rattle.buffer_pools.specs.declared.pool.ListPool.TheInside.{Inside}

pub live-mapped : (slots : List (Option Slot)) (i : ℕ) → slice_index_or (map (option_map live_of) slots) i None ≡ option_map live_of (slice_index_or slots i None)
live-mapped slots i = get_or-map (option_map live_of) slots i None

pub count-mapped : (slots : List (Option Slot)) → count_by is_some (map (option_map live_of) slots) ≡ count_by is_some slots
count-mapped [] = refl
count-mapped (None ∷ rest) = omega (arith, count-mapped rest, sum_by-cons (λ o. cond (is_some o) 1 0) None rest, sum_by-cons (λ o. cond (is_some o) 1 0) None (map (option_map live_of) rest))
count-mapped (Some s ∷ rest) = omega (arith, count-mapped rest, sum_by-cons (λ o. cond (is_some o) 1 0) (Some s) rest, sum_by-cons (λ o. cond (is_some o) 1 0) (Some (live_of s)) (map (option_map live_of) rest))

pub issues : (old after : Inside) (l : ListView)
    → after.size ≡ old.size → after.bytes ≡ old.bytes
    → Enters old.live l after.live → l.bytes ≡ old.bytes
    → Issues (pool_view old) l (pool_view after)
issues old after l size bytes enters room =
    record {
      size = size;
      bytes = bytes;
      vacant = live-mapped old.live.slots l.slot ∙ ap (option_map live_of) enters.vacant;
      is = record {
        live = live-mapped after.live.slots l.slot ∙ ap (option_map live_of) enters.updates.changed ∙ ap Some enters.is;
        bytes = room ∙ sym bytes;
      };
      others = λ slot ne. live-mapped after.live.slots slot ∙ ap (option_map live_of) (enters.updates.others slot ne) ∙ sym (live-mapped old.live.slots slot);
      count = omega (arith, enters.len, count-mapped after.live.slots, count-mapped old.live.slots);
    }

pub frees : (old after : Inside) (l : ListView)
    → after.size ≡ old.size → after.bytes ≡ old.bytes
    → Updates old.live after.live l.slot None
    → slab_len after.live + 1 ≡ slab_len old.live
    → Frees (pool_view old) l (pool_view after)
frees old after l size bytes updates len =
    record {
      size = size;
      bytes = bytes;
      vacant = live-mapped after.live.slots l.slot ∙ ap (option_map live_of) updates.changed;
      others = λ slot ne. live-mapped after.live.slots slot ∙ ap (option_map live_of) (updates.others slot ne) ∙ sym (live-mapped old.live.slots slot);
      count = omega (arith, len, count-mapped after.live.slots, count-mapped old.live.slots);
    }

pub popped-bytes : (xs : List SpaceView) (n : ℕ) (x : SpaceView) (b : ℕ) → n ≡ length xs → All (λ s. s.bytes ≡ b) xs → 0 < n → Some x ≡ Some (slice_index_or xs (n - 1) x) → x.bytes ≡ b
popped-bytes xs n x b is all some e =
    let k : x ≡ slice_index_or xs (n - 1) x = cc in
    let h : (slice_index_or xs (n - 1) x).bytes ≡ b = all (n - 1) x (omega arith) in
    ap (λ s. s.bytes) k ∙ h

-- where a list is spare, not all are live
pub not_full : (p : Inside) (v : PoolView) → pool_view p ≡ v → vec_len p.spare + slab_len p.live ≡ p.size → 0 < vec_len p.spare → live_count v ≢ v.size
not_full p v is all some full =
    let P : PoolView → Type 0 = λ w. live_count w ≡ w.size in
    let h : live_count (pool_view p) ≡ p.size = subst P (sym is) full in
    omega (arith, h, all, some, count-mapped p.live.slots)
