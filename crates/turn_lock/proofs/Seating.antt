-- The first seat, a seat that is split off, and a seat that is joined.
use Rattle.std.proofs.Common.{◌≡◌, ◌≢◌, ℕ, zero, suc, ◌<◌, ◌≤◌, ◌⊎◌, nat_lt, lt_of_not-le, eqb, eq-eqb, ne_eqb, Bool, true, false, true≢false, List, [], ◌∷◌, ◌++◌, length, slice_index, set, sym, refl, ap, ◌∙◌, subst, ⊎_elim, inl, inr, arith, Option, Some, length-set, length-append, get_or-set_other, get_or-set_same, if◌then◌else◌}
use mathlib.Core.Logic.{dite}
use mathlib.Core.Option.{some, some-injective, some-ne-none}
use native.Mathlib.Decide.{ℕ_discrete, dec_le}
use lib.ListN.{get_elem?}
use Rattle.atomic_table.specs.Table.{State, Me, Step, keeps, Allows, Splits, Joins}
use Rattle.atomic_table.specs.Table as Table
use Rattle.atomic_table.proofs.Lists.{set_else, at_longer}
use Rattle.ndis_base.specs.declared.Phase.{Phase}
use Rattle.turn_lock.specs.declared.view.Entry.{Entry}
use Rattle.turn_lock.specs.declared.view.Role.{Role}
use Rattle.turn_lock.specs.declared.view.Role.TheVariants.{Idle, Waits, Serves}
use Rattle.turn_lock.specs.declared.view.View.{View}
use Rattle.turn_lock.specs.declared.view.Ended.{Ended}
use Rattle.turn_lock.specs.History.{StartsWith, front_word, entries_by, Runs, longer, shorter}
use Rattle.turn_lock.specs.Orderly.{out, tickets_of, parts_of, total, keeps_number, times, IsQuiet, Knows, Gone, IsKept, Orderly, first_view, parent, newcomer, both, spent, ended_seat, AllKnown, note, told}
use Rattle.turn_lock.specs.Plays.{no_step, has_number, NoneTwice, settled}
use Rattle.std.specs.List.{Contains}
use Rattle.turn_lock.specs.Account.{Closes, account, numbers_of}
use Rattle.turn_lock.proofs.Histories.{times-append, each_by, apart_numbers}
use Rattle.turn_lock.proofs.Lists.{set_at, at_below, at_end, all_set, total_set, total_snoc, quiet_back, gone_stays, kept_stays, all_kept, all_made, once_stays, total_none, found_after, all_cons, all_append, some_below, one_le, all_at, number_kept}
use Rattle.turn_lock.proofs.Keeps.{same_history}

pub longer_prefix : {C R : Type 0} (h a b : List (Entry C R)) → StartsWith h a → StartsWith h b → StartsWith h (longer a b)
longer_prefix h a b p q = go (nat_lt (length a) (length b))
  where
    go : (c : _) → StartsWith h (if c then b else a)
    go true = q
    go false = p

shorter_prefix : {C R : Type 0} (h a b : List (Entry C R)) → StartsWith h a → StartsWith h b → StartsWith h (shorter a b)
shorter_prefix h a b p q = go (nat_lt (length a) (length b))
  where
    go : (c : _) → StartsWith h (if c then a else b)
    go true = p
    go false = q

quiet_if_none : {O : Type 0} (role : Role O) → tickets_of role ≡ 0 → IsQuiet role ≡ true
quiet_if_none Idle h = refl
quiet_if_none (Waits t) h = refl
quiet_if_none (Serves t o) h = absurd (omega arith)

module _ {O C R : Type 0} (Stands : O → Entry C R → O → Type 0) (phase_of : O → Phase) (opening : O) (seats : ℕ) where
  abbrev D : Type 0
  D = View O C R

  abbrev S : Type 0
  S = Option O

  abbrev St : Type 0
  St = State S D

  abbrev Rule : St → Type 0
  Rule = Orderly Stands phase_of opening seats

  abbrev Log : Type 0
  Log = List (Entry C R)

  abbrev Now : Log → O → Type 0
  Now h o = Runs Stands opening h o

  abbrev first_views : List D
  first_views = first_view opening seats ∷ []

  pub opens : (front : ℕ) (h : O) → 0 < seats → seats ≤ 65536 → h ≡ opening → front ≡ front_word 0 (phase_of opening) → Rule (Table.opening (0 ∷ front ∷ []) (Some h ∷ []) (first_view opening seats))
  opens front h some_seat few is front_is = let v : D = first_view opening seats in record {
    history = [];
    holder = λ _. 0;
    two = refl;
    one = refl;
    few = omega arith;
    front = front_is;
    tickets = refl;
    whole = omega arith;
    seats_few = few;
    each = all_set (Knows (Now []) opening [] 0 (λ _. 0) (Gone first_views)) first_views 0 v
        (record {
          part = omega arith;
          prefix = ([], refl);
          fell_behind = ([], refl);
          role = tt;
          now = λ h. absurd (true≢false h);
          opens = λ _. refl;
          alive = λ _. some_seat;
          own = λ _. refl;
          named = λ _ _. refl;
          unnamed = λ _ h. absurd (true≢false h);
          ended = λ i e h. absurd (some-ne-none e (sym h));
        })
        (λ j u other e. only j u other e);
    kept = λ j u e dead. absurd (true≢false (sym (ap (λ (z : D). z.live) (one_view j u e)) ∙ dead));
    once = λ n. omega arith;
    made = λ j u e i n h. absurd (some-ne-none n (sym (ap (λ (l : List ℕ). get_elem? l i) (sym (ap (λ (z : D). z.known) (one_view j u e))) ∙ h)));
    legal = (opening, refl);
    home = λ _. (h, refl, sym is);
    unmade = λ by le. refl;
  }
    where
      only : (j : ℕ) (u : D) → j ≢ 0 → get_elem? first_views j ≡ some u → Knows (Now []) opening [] 0 (λ _. 0) (Gone first_views) j u
      only zero u other e = absurd (other refl)
      only (suc j) u other e = absurd (some-ne-none u (sym e))

      one_view : (j : ℕ) (u : D) → get_elem? first_views j ≡ some u → u ≡ first_view opening seats
      one_view zero u e = sym (some-injective (first_view opening seats) u e)
      one_view (suc j) u e = absurd (some-ne-none u (sym e))

  gone_longer : (vs : List D) (w : D) (n : ℕ) → Gone vs n → Gone (vs ++ w ∷ []) n
  gone_longer vs w n g = (g.0, at_longer vs (w ∷ []) n g.0 g.1, g.2)

  kept_longer : (vs : List D) (w : D) (j : ℕ) → IsKept vs j → IsKept (vs ++ w ∷ []) j
  kept_longer vs w j h = (h.0, h.1, h.2, h.3, at_longer vs (w ∷ []) h.0 h.1 h.4, h.5, h.6, h.7)

  -- what a seat knows does not depend on which numbers are gone, but that they stay so
  regone : (log : Log) (next : ℕ) (holder : ℕ → ℕ) (G H : ℕ → Type 0) (j : ℕ) (v : D) → ((n : ℕ) → G n → H n) → Knows (Now log) opening log next holder G j v → Knows (Now log) opening log next holder H j v
  regone log next holder G H j v go k = record {
    part = k.part;
    prefix = k.prefix;
    fell_behind = k.fell_behind;
    role = k.role;
    now = k.now;
    opens = k.opens;
    alive = k.alive;
    own = k.own;
    named = k.named;
    unnamed = k.unnamed;
    ended = λ i e h. let x = k.ended i e h in (go e.number x.0, x.1);
  }

  pub splits : (id : ℕ) (v : D) → v.live ≡ true → v.named ≡ true → v.role ≡ Idle → 1 < v.parts → Splits Rule id v (parent v) (newcomer v)
  splits id v live named idle parts s r at =
      let left : D = parent v in let right : D = newcomer v in let vs : List D = set s.views id left in let log : Log = r.history in let k = r.each id v at in
      let none_out : out v ≡ 0 = ap tickets_of idle in let long : length vs ≡ length s.views = length-set s.views id left in let below = at_below s.views id v at in
      let go : (n : ℕ) → Gone s.views n → Gone (vs ++ right ∷ []) n = λ n g. gone_longer vs right n (gone_stays s.views id v left n at live g) in
      let F : ℕ → D → Type 0 = Knows (Now log) opening log (slice_index s.words 0) r.holder (Gone (vs ++ right ∷ [])) in record {
        history = log;
        holder = r.holder;
        two = r.two;
        one = r.one;
        few = r.few;
        front = r.front;
        tickets = let a = total_set out s.views id v left at in let b = total_snoc out vs right in omega (arith, a, b, r.tickets);
        whole = let a = total_set parts_of s.views id v left at in let b = total_snoc parts_of vs right in omega (arith, a, b, r.whole, parts);
        seats_few = r.seats_few;
        each = λ j u e. ⊎_elim
            (λ (old : get_elem? vs j ≡ some u). all_set F s.views id left
            (record {
              part = omega (arith, none_out, parts);
              prefix = k.prefix;
              fell_behind = k.fell_behind;
              role = k.role;
              now = k.now;
              opens = k.opens;
              alive = λ _. omega (arith, parts);
              own = k.own;
              named = k.named;
              unnamed = k.unnamed;
              ended = λ i q h. let x = k.ended i q h in (go q.number x.0, x.1);
            })
            (λ i w other b. regone log (slice_index s.words 0) r.holder (Gone s.views) (Gone (vs ++ right ∷ [])) i w go (r.each i w b)) j u old)
            (λ (new : (j ≡ length vs) × (right ≡ u)). subst (λ (z : ℕ × D). F z.0 z.1) (λ i. (sym new.0 i, new.1 i))
            (record {
              part = omega arith;
              prefix = k.prefix;
              fell_behind = (log, refl);
              role = tt;
              now = λ h. absurd (true≢false h);
              opens = λ _. k.opens live;
              alive = λ _. omega arith;
              own = λ _. ap (λ (n : ℕ). entries_by n log) long ∙ r.unmade (length s.views) (omega arith);
              named = λ _ h. absurd (true≢false (sym h));
              unnamed = λ _ _. all_cons (λ n. n < length vs) v.number v.known (let is = k.named live named in omega (arith, is, below, long)) (λ i n h. let lt = r.made id v at i n h in omega (arith, lt, long));
              ended = λ i q h. absurd (some-ne-none q (sym h));
            }))
            (at_end vs right u j e);
        kept = λ j u e dead. ⊎_elim (λ (old : get_elem? vs j ≡ some u). ⊎_elim (λ (h : IsKept vs j). inl (kept_longer vs right j h)) (λ (h : entries_by j log ≡ []). inr h) (all_kept (λ n. entries_by n log ≡ []) (λ n. entries_by n log ≡ []) s.views id v left at live refl (λ j u other e dead h. h) r.kept j u old dead))
            (λ (new : (j ≡ length vs) × (right ≡ u)). absurd (true≢false (ap (λ (z : D). z.live) new.1 ∙ dead))) (at_end vs right u j e);
        once = λ n. let a = once_stays s.views id v left at refl r.once n in let b = total_snoc (keeps_number n) vs right in omega (arith, a, b);
        made = λ j u e. ⊎_elim
            (λ (old : get_elem? vs j ≡ some u) (i n : ℕ) (h : get_elem? u.known i ≡ some n). let lt = all_made s.views id v left at refl r.made j u old i n h in let more = length-append vs (right ∷ []) in omega (arith, lt, more))
            (λ (new : (j ≡ length vs) × (right ≡ u)) (i n : ℕ) (h : get_elem? u.known i ≡ some n). let more = length-append vs (right ∷ []) in
            let lt : n < length vs = all_cons (λ m. m < length vs) v.number v.known (let is = k.named live named in omega (arith, is, below, long)) (λ q m z. let lt = r.made id v at q m z in omega (arith, lt, long)) i n
            (ap (λ (y : D). get_elem? y.known i) new.1 ∙ h) in
            omega (arith, lt, more))
            (at_end vs right u j e);
        legal = r.legal;
        home = λ all. r.home (quiet_back s.views id v left at (ap IsQuiet idle) (λ j u e. all j u (at_longer vs (right ∷ []) j u e)));
        unmade = λ by le. r.unmade by (let more = length-append vs (right ∷ []) in omega (arith, le, long, more));
      }

  pub names : (slots id : ℕ) (me : Me S D) → me.0.live ≡ true → me.0.named ≡ false → me.0.role ≡ Idle → Allows Rule slots id me 0 (λ n. n) (has_number no_step me)
  names slots id me live unnamed idle s r deep at fits =
      let v : D = me.0 in let w : D = record v { number = id; named = true } in let k = r.each id v at in (
        w,
        keeps,
        tt,
        same_history Stands phase_of opening seats s r id v w (slice_index s.words 0) (set s.words 0 (slice_index s.words 0)) s.homes r.holder at (length-set s.words 0 (slice_index s.words 0) ∙ r.two) r.one
            (get_or-set_same s.words 0 (slice_index s.words 0) 0 (omega (arith, r.two))) (get_or-set_other s.words 0 1 (slice_index s.words 0) 0 (λ h. omega arith)) live live refl refl refl refl
            (record {
              part = k.part;
              prefix = k.prefix;
              fell_behind = k.fell_behind;
              role = k.role;
              now = k.now;
              opens = k.opens;
              alive = k.alive;
              own = k.own;
              named = λ _ _. refl;
              unnamed = λ _ h. absurd (true≢false h);
              ended = k.ended;
            })
            (λ j t other lt is. (lt, is)) (λ all. r.home (quiet_back s.views id v w at (ap IsQuiet idle) all)),
        (id, (λ i n h is. let lt = k.unnamed live unnamed i n h in omega (arith, lt, is)), refl),
      )

  -- no seat keeps the number of a live one
  live_unkept : (s : St) (r : Rule s) (id : ℕ) (v : D) → get_elem? s.views id ≡ some v → v.live ≡ true → total (keeps_number id) s.views ≡ 0
  live_unkept s r id v at live = total_none id s.views (λ j u b i e h is. let gone = ((r.each j u b).ended i e h).0 in
      true≢false (sym live ∙ (ap (λ (y : D). y.live) (some-injective v gone.0 (sym at ∙ (ap (get_elem? s.views) (sym is) ∙ gone.1))) ∙ gone.2)))

  none_twice : (s : St) (r : Rule s) (id : ℕ) (v : D) → get_elem? s.views id ≡ some v → v.live ≡ true → v.named ≡ true → NoneTwice v
  none_twice s r id v at live named =
      let number : v.number ≡ id = (r.each id v at).named live named in
      let here = one_le (keeps_number id) s.views id v at in
      let none = live_unkept s r id v at live in
      (ap (λ (n : ℕ). times n v.ended) number ∙ omega (arith, here, none), λ n. let all = r.once n in let mine = one_le (keeps_number n) s.views id v at in omega (arith, all, mine))

  -- the load after a join
  pub settles : (slots id : ℕ) (me : Me S D) → me.0.live ≡ true → me.0.named ≡ true → IsQuiet me.0.role ≡ true → Allows Rule slots id me 0 (λ n. n) (settled no_step me)
  settles slots id me live named quiet s r deep at fits =
      let v : D = me.0 in let k = r.each id v at in (
        v,
        keeps,
        tt,
        same_history Stands phase_of opening seats s r id v v (slice_index s.words 0) (set s.words 0 (slice_index s.words 0)) s.homes r.holder at (length-set s.words 0 (slice_index s.words 0) ∙ r.two) r.one
            (get_or-set_same s.words 0 (slice_index s.words 0) 0 (omega (arith, r.two))) (get_or-set_other s.words 0 1 (slice_index s.words 0) 0 (λ h. omega arith)) live live refl refl refl refl k
            (λ j t other lt is. (lt, is)) (λ all. r.home (quiet_back s.views id v v at quiet all)),
        (r.history, k.prefix, k.fell_behind, none_twice s r id v at live named, refl),
      )

  pub joins : (id : ℕ) (v : D) (other : ℕ) (w : D) → v.live ≡ true → v.named ≡ true → v.role ≡ Idle → w.live ≡ true → w.named ≡ true → w.role ≡ Idle → Joins Rule id v other w (both v w) spent
  joins id v other w lv nv iv lw nw iw s r at apart at' =
      let log : Log = r.history in let b : D = both v w in let z : D = spent in let vs1 : List D = set s.views id b in let vs2 : List D = set vs1 other z in
      let at_w : get_elem? s.views other ≡ some w = sym (set_else s.views id other b apart) ∙ at' in let kv = r.each id v at in let kw = r.each other w at_w in
      let go : (n : ℕ) → Gone s.views n → Gone vs2 n = λ n g. gone_stays vs1 other w z n at' lw (gone_stays s.views id v b n at lv g) in
      let here_b : get_elem? vs2 id ≡ some b = set_else vs1 other id z (λ e. apart (sym e)) ∙ set_at s.views id v b at in let here_z : get_elem? vs2 other ≡ some z = set_at vs1 other w z at' in
      let number : w.number ≡ other = kw.named lw nw in let e : Ended C R = ended_seat w.number w.own in
      let out_v : out v ≡ 0 = ap tickets_of iv in let out_w : out w ≡ 0 = ap tickets_of iw in
      let long : length vs2 ≡ length s.views = length-set vs1 other z ∙ length-set s.views id b in
      let F : ℕ → D → Type 0 = Knows (Now log) opening log (slice_index s.words 0) r.holder (Gone vs2) in
      let P : Ended C R → Type 0 = λ q. Gone vs2 q.number × (entries_by q.number log ≡ q.calls) in
      let moves : (j : ℕ) → IsKept s.views j → IsKept vs2 j = λ j k. dite (ℕ_discrete k.0 id)
      (λ (is : k.0 ≡ id). let same : k.1 ≡ v = some-injective k.1 v (sym k.4 ∙ (ap (get_elem? s.views) is ∙ at)) in
      (id, b, k.2, k.3, here_b, lv, at_longer v.ended (e ∷ w.ended) k.2 k.3 (ap (λ (y : D). get_elem? y.ended k.2) (sym same) ∙ k.6), k.7))
      (λ (not_id : k.0 ≢ id). dite (ℕ_discrete k.0 other)
      (λ (is : k.0 ≡ other). let same : k.1 ≡ w = some-injective k.1 w (sym k.4 ∙ (ap (get_elem? s.views) is ∙ at_w)) in
      let f = found_after v.ended (e ∷ w.ended) (suc k.2) k.3 (ap (λ (y : D). get_elem? y.ended k.2) (sym same) ∙ k.6) in (id, b, f.0, k.3, here_b, lv, f.1, k.7))
      (λ (not_other : k.0 ≢ other). (k.0, k.1, k.2, k.3, set_else vs1 other k.0 z not_other ∙ (set_else s.views id k.0 b not_id ∙ k.4), k.5, k.6, k.7))) in record {
        history = log;
        holder = r.holder;
        two = r.two;
        one = r.one;
        few = r.few;
        front = r.front;
        tickets = let a = total_set out s.views id v b at in let c = total_set out vs1 other w z at' in omega (arith, a, c, r.tickets, out_v, out_w);
        whole = let a = total_set parts_of s.views id v b at in let c = total_set parts_of vs1 other w z at' in omega (arith, a, c, r.whole);
        seats_few = r.seats_few;
        each = all_set F vs1 other z
            (record {
              part = omega arith;
              prefix = (log, refl);
              fell_behind = (log, refl);
              role = tt;
              now = λ h. absurd (true≢false h);
              opens = λ h. absurd (true≢false (sym h));
              alive = λ h. absurd (true≢false (sym h));
              own = λ h. absurd (true≢false (sym h));
              named = λ h. absurd (true≢false (sym h));
              unnamed = λ h. absurd (true≢false (sym h));
              ended = λ i q h. absurd (some-ne-none q (sym h));
            })
            (λ j u _ h. all_set F s.views id b
            (record {
              part = omega (arith, out_v);
              prefix = longer_prefix log v.seen w.seen kv.prefix kw.prefix;
              fell_behind = shorter_prefix log v.seen w.seen kv.prefix kw.prefix;
              role = kv.role;
              now = λ busy. absurd (true≢false (sym (ap IsQuiet iv) ∙ busy));
              opens = kv.opens;
              alive = λ l. let some_part = kv.alive l in omega (arith, some_part);
              own = kv.own;
              named = kv.named;
              unnamed = λ _ un. absurd (true≢false (sym nv ∙ un));
              ended = all_append P v.ended (e ∷ w.ended) (λ i q h. let x = kv.ended i q h in (go q.number x.0, x.1))
                  (all_cons P e w.ended (subst (Gone vs2) (sym number) (z, here_z, refl), ap (λ (n : ℕ). entries_by n log) number ∙ kw.own lw) (λ i q h. let x = kw.ended i q h in (go q.number x.0, x.1)));
            })
            (λ i y _ g. regone log (slice_index s.words 0) r.holder (Gone s.views) (Gone vs2) i y go (r.each i y g)) j u h);
        kept = λ j u h dead. dite (ℕ_discrete j other)
            (λ (is : j ≡ other). let f = found_after v.ended (e ∷ w.ended) 0 e refl in inl (id, b, f.0, e, here_b, lv, f.1, number ∙ sym is))
            (λ (not_other : j ≢ other). let h1 : get_elem? vs1 j ≡ some u = sym (set_else vs1 other j z not_other) ∙ h in dite (ℕ_discrete j id)
            (λ (is : j ≡ id). absurd (true≢false (sym lv ∙ (ap (λ (y : D). y.live) (some-injective b u (sym (set_at s.views id v b at) ∙ (ap (get_elem? vs1) (sym is) ∙ h1))) ∙ dead))))
            (λ (not_id : j ≢ id). ⊎_elim (λ (y : IsKept s.views j). inl (moves j y)) (λ (y : entries_by j log ≡ []). inr y) (r.kept j u (sym (set_else s.views id j b not_id) ∙ h1) dead)));
        once = λ n.
            let a = total_set (keeps_number n) s.views id v b at in
            let c = total_set (keeps_number n) vs1 other w z at' in
            let sums = times-append n v.ended (e ∷ w.ended) in
            let before = r.once n in
            dite (ℕ_discrete w.number n)
            (λ (is : w.number ≡ n).
            let none : total (keeps_number n) s.views ≡ 0 = subst (λ (m : ℕ). total (keeps_number m) s.views ≡ 0) (sym number ∙ is) (live_unkept s r other w at_w lw) in
            let one : (if eqb w.number n then 1 else 0) ≡ 1 = ap (λ b. let m : ℕ = if b then 1 else 0 in m) (eq-eqb w.number n is) in
            omega (arith, a, c, sums, none, one))
            (λ (not : w.number ≢ n).
            let zero : (if eqb w.number n then 1 else 0) ≡ 0 = ap (λ b. let m : ℕ = if b then 1 else 0 in m) (ne_eqb w.number n not) in
            omega (arith, a, c, sums, before, zero));
        made = all_set (λ j (u : D). AllKnown u (λ n. n < length vs2)) vs1 other z (λ i n h. absurd (some-ne-none n (sym h)))
            (λ j u _ h. all_set (λ j (u : D). AllKnown u (λ n. n < length vs2)) s.views id b
            (all_append (λ n. n < length vs2) v.known (w.number ∷ w.known) (λ i n y. let lt = r.made id v at i n y in omega (arith, lt, long))
            (all_cons (λ n. n < length vs2) w.number w.known (let below = at_below s.views other w at_w in omega (arith, below, number, long)) (λ i n y. let lt = r.made other w at_w i n y in omega (arith, lt, long))))
            (λ i y _ q m n x. let lt = r.made i y q m n x in omega (arith, lt, long)) j u h);
        legal = r.legal;
        home = λ all. r.home (quiet_back s.views id v b at (ap IsQuiet iv) (quiet_back vs1 other w z at' (ap IsQuiet iw) all));
        unmade = λ by le. r.unmade by (omega (arith, le, long));
      }

  pub notes : (id : ℕ) (v : D) → v.live ≡ true → v.named ≡ true → v.role ≡ Idle → Splits Rule id v v (note v)
  notes id v live named idle s r at =
      let right : D = note v in let vs : List D = set s.views id v in let log : Log = r.history in let k = r.each id v at in
      let long : length vs ≡ length s.views = length-set s.views id v in let below = at_below s.views id v at in let more = length-append vs (right ∷ []) in
      let go : (n : ℕ) → Gone s.views n → Gone (vs ++ right ∷ []) n = λ n g. gone_longer vs right n (gone_stays s.views id v v n at live g) in
      let F : ℕ → D → Type 0 = Knows (Now log) opening log (slice_index s.words 0) r.holder (Gone (vs ++ right ∷ [])) in record {
        history = log;
        holder = r.holder;
        two = r.two;
        one = r.one;
        few = r.few;
        front = r.front;
        tickets = let a = total_set out s.views id v v at in let b = total_snoc out vs right in omega (arith, a, b, r.tickets);
        whole = let a = total_set parts_of s.views id v v at in let b = total_snoc parts_of vs right in omega (arith, a, b, r.whole);
        seats_few = r.seats_few;
        each = λ j u e. ⊎_elim
            (λ (old : get_elem? vs j ≡ some u). all_set F s.views id v (regone log (slice_index s.words 0) r.holder (Gone s.views) (Gone (vs ++ right ∷ [])) id v go k)
            (λ i w other b. regone log (slice_index s.words 0) r.holder (Gone s.views) (Gone (vs ++ right ∷ [])) i w go (r.each i w b)) j u old)
            (λ (new : (j ≡ length vs) × (right ≡ u)). subst (λ (z : ℕ × D). F z.0 z.1) (λ i. (sym new.0 i, new.1 i))
            (record {
              part = omega arith;
              prefix = (log, refl);
              fell_behind = (log, refl);
              role = tt;
              now = λ h. absurd (true≢false h);
              opens = λ h. absurd (true≢false (sym h));
              alive = λ h. absurd (true≢false (sym h));
              own = λ h. absurd (true≢false (sym h));
              named = λ h. absurd (true≢false (sym h));
              unnamed = λ h. absurd (true≢false (sym h));
              ended = λ i q h. absurd (some-ne-none q (sym h));
            }))
            (at_end vs right u j e);
        kept = λ j u e dead. ⊎_elim
            (λ (old : get_elem? vs j ≡ some u). ⊎_elim (λ (h : IsKept vs j). inl (kept_longer vs right j h)) (λ (h : entries_by j log ≡ []). inr h)
            (all_kept (λ n. entries_by n log ≡ []) (λ n. entries_by n log ≡ []) s.views id v v at live refl (λ j u other e dead h. h) r.kept j u old dead))
            (λ (new : (j ≡ length vs) × (right ≡ u)). inr (ap (λ (n : ℕ). entries_by n log) (new.0 ∙ long) ∙ r.unmade (length s.views) (omega arith))) (at_end vs right u j e);
        once = λ n. let a = once_stays s.views id v v at refl r.once n in let b = total_snoc (keeps_number n) vs right in omega (arith, a, b);
        made = λ j u e. ⊎_elim (λ (old : get_elem? vs j ≡ some u) (i n : ℕ) (h : get_elem? u.known i ≡ some n). let lt = all_made s.views id v v at refl r.made j u old i n h in omega (arith, lt, more))
            (λ (new : (j ≡ length vs) × (right ≡ u)) (i n : ℕ) (h : get_elem? u.known i ≡ some n).
            let lt : n < length vs = all_cons (λ m. m < length vs) v.number [] (let is = k.named live named in omega (arith, is, below, long)) (λ q m z. absurd (some-ne-none m (sym z))) i n (ap (λ (y : D). get_elem? y.known i) new.1 ∙ h) in
            omega (arith, lt, more))
            (at_end vs right u j e);
        legal = r.legal;
        home = λ all. r.home (quiet_back s.views id v v at (ap IsQuiet idle) (λ j u e. all j u (at_longer vs (right ∷ []) j u e)));
        unmade = λ by le. r.unmade by (omega (arith, le, long, more));
      }

  pub learns : (id : ℕ) (v : D) (other : ℕ) (w : D) → v.live ≡ true → v.named ≡ true → v.role ≡ Idle → w.live ≡ false → w.role ≡ Idle → w.parts ≡ 0 → Joins Rule id v other w (told v w) spent
  learns id v other w lv nv iv lw iw none s r at apart at' =
      let log : Log = r.history in let b : D = told v w in let z : D = spent in let vs1 : List D = set s.views id b in let vs2 : List D = set vs1 other z in
      let at_w : get_elem? s.views other ≡ some w = sym (set_else s.views id other b apart) ∙ at' in let kv = r.each id v at in
      let here_z : get_elem? vs2 other ≡ some z = set_at vs1 other w z at' in
      let go : (n : ℕ) → Gone s.views n → Gone vs2 n = λ n g. let g1 : Gone vs1 n = gone_stays s.views id v b n at lv g in
      dite (ℕ_discrete n other) (λ (is : n ≡ other). subst (Gone vs2) (sym is) (z, here_z, refl)) (λ (not : n ≢ other). (g1.0, set_else vs1 other n z not ∙ g1.1, g1.2)) in
      let moves : (j : ℕ) → IsKept s.views j → IsKept vs2 j = λ j k. let k1 : IsKept vs1 j = kept_stays s.views id v b j at lv refl k in
      let not : k1.0 ≢ other = λ is. true≢false (sym k1.5 ∙ (ap (λ (y : D). y.live) (some-injective k1.1 w (sym k1.4 ∙ (ap (get_elem? vs1) is ∙ at'))) ∙ lw)) in
      (k1.0, k1.1, k1.2, k1.3, set_else vs1 other k1.0 z not ∙ k1.4, k1.5, k1.6, k1.7) in
      let settle : (j : ℕ) → IsKept s.views j ⊎ (entries_by j log ≡ []) → IsKept vs2 j ⊎ (entries_by j log ≡ []) = λ j h. ⊎_elim (λ (y : IsKept s.views j). inl (moves j y)) (λ (y : entries_by j log ≡ []). inr y) h in
      let out_v : out v ≡ 0 = ap tickets_of iv in let out_w : out w ≡ 0 = ap tickets_of iw in
      let long : length vs2 ≡ length s.views = length-set vs1 other z ∙ length-set s.views id b in
      let F : ℕ → D → Type 0 = Knows (Now log) opening log (slice_index s.words 0) r.holder (Gone vs2) in record {
        history = log;
        holder = r.holder;
        two = r.two;
        one = r.one;
        few = r.few;
        front = r.front;
        tickets = let a = total_set out s.views id v b at in let c = total_set out vs1 other w z at' in omega (arith, a, c, r.tickets, out_v, out_w);
        whole = let a = total_set parts_of s.views id v b at in let c = total_set parts_of vs1 other w z at' in omega (arith, a, c, r.whole, none);
        seats_few = r.seats_few;
        each = all_set F vs1 other z
            (record {
              part = omega arith;
              prefix = (log, refl);
              fell_behind = (log, refl);
              role = tt;
              now = λ h. absurd (true≢false h);
              opens = λ h. absurd (true≢false (sym h));
              alive = λ h. absurd (true≢false (sym h));
              own = λ h. absurd (true≢false (sym h));
              named = λ h. absurd (true≢false (sym h));
              unnamed = λ h. absurd (true≢false (sym h));
              ended = λ i q h. absurd (some-ne-none q (sym h));
            })
            (λ j u _ h. all_set F s.views id b
            (record {
              part = kv.part;
              prefix = kv.prefix;
              fell_behind = kv.fell_behind;
              role = kv.role;
              now = kv.now;
              opens = kv.opens;
              alive = kv.alive;
              own = kv.own;
              named = kv.named;
              unnamed = λ _ un. absurd (true≢false (sym nv ∙ un));
              ended = λ i q h. let x = kv.ended i q h in (go q.number x.0, x.1);
            })
            (λ i y _ g. regone log (slice_index s.words 0) r.holder (Gone s.views) (Gone vs2) i y go (r.each i y g)) j u h);
        kept = λ j u h dead. dite (ℕ_discrete j other) (λ (is : j ≡ other). settle j (r.kept j w (ap (get_elem? s.views) is ∙ at_w) lw))
            (λ (not_other : j ≢ other). let h1 : get_elem? vs1 j ≡ some u = sym (set_else vs1 other j z not_other) ∙ h in dite (ℕ_discrete j id)
            (λ (is : j ≡ id). absurd (true≢false (sym lv ∙ (ap (λ (y : D). y.live) (some-injective b u (sym (set_at s.views id v b at) ∙ (ap (get_elem? vs1) (sym is) ∙ h1))) ∙ dead))))
            (λ (not_id : j ≢ id). settle j (r.kept j u (sym (set_else s.views id j b not_id) ∙ h1) dead)));
        once = λ n. let a = once_stays s.views id v b at refl r.once n in let c = total_set (keeps_number n) vs1 other w z at' in omega (arith, a, c);
        made = all_set (λ j (u : D). AllKnown u (λ n. n < length vs2)) vs1 other z (λ i n h. absurd (some-ne-none n (sym h)))
            (λ j u _ h. all_set (λ j (u : D). AllKnown u (λ n. n < length vs2)) s.views id b
            (all_append (λ n. n < length vs2) v.known w.known (λ i n y. let lt = r.made id v at i n y in omega (arith, lt, long)) (λ i n y. let lt = r.made other w at_w i n y in omega (arith, lt, long)))
            (λ i y _ q m n x. let lt = r.made i y q m n x in omega (arith, lt, long)) j u h);
        legal = r.legal;
        home = λ all. r.home (quiet_back s.views id v b at (ap IsQuiet iv) (quiet_back vs1 other w z at' (ap IsQuiet iw) all));
        unmade = λ by le. r.unmade by (omega (arith, le, long));
      }

  -- where one seat has every part, no other is live
  alone : (s : St) (r : Rule s) (id : ℕ) (v : D) → get_elem? s.views id ≡ some v → v.parts ≡ seats → (j : ℕ) (u : D) → j ≢ id → get_elem? s.views j ≡ some u → u.parts ≡ 0
  alone s r id v at every j u other e =
      let z : D = spent in let a = total_set parts_of s.views id v z at in let b = one_le parts_of (set s.views id z) j u (set_else s.views id j z other ∙ e) in omega (arith, a, b, r.whole, every)

  -- the entries of a number are none, or its seat is the only live one or ended there
  whose_of : (s : St) (r : Rule s) (id : ℕ) (v : D) → get_elem? s.views id ≡ some v → v.live ≡ true → v.named ≡ true → ((j : ℕ) (u : D) → get_elem? s.views j ≡ some u → u.live ≡ true → j ≡ id)
      → (by : ℕ) (u : D) → get_elem? s.views by ≡ some u → (b : Bool) → u.live ≡ b → (entries_by by r.history ≡ []) ⊎ Contains (numbers_of (account v)) by
  whose_of s r id v at live named only by u e true l =
      let is : v.number ≡ by = (r.each id v at).named live named ∙ sym (only by u e l) in
      inr (subst (λ (n : ℕ). Contains (numbers_of (account v)) n) is (0, omega arith, refl))
  whose_of s r id v at live named only by u e false d = ⊎_elim
      (λ (k : IsKept s.views by).
      let is : k.0 ≡ id = only k.0 k.1 k.4 k.5 in let same : k.1 ≡ v = some-injective k.1 v (sym k.4 ∙ (ap (get_elem? s.views) is ∙ at)) in
      let h : get_elem? v.ended k.2 ≡ some k.3 = ap (λ (y : D). get_elem? y.ended k.2) (sym same) ∙ k.6 in
      inr (subst (λ (n : ℕ). Contains (numbers_of (account v)) n) k.7 (number_kept v.number v.ended k.2 k.3 h)))
      (λ (none : entries_by by r.history ≡ []). inl none) (r.kept by u e d)

  pub closes : (s : St) (r : Rule s) (id : ℕ) (v : D) → get_elem? s.views id ≡ some v → v.live ≡ true → v.named ≡ true → v.role ≡ Idle → v.parts ≡ seats
      → (x : O) × (get_elem? s.homes 0 ≡ some (some (Some x))) × Closes Stands opening (account v) x
  closes s r id v at live named idle every =
      let log : Log = r.history in let k = r.each id v at in
      let only : (j : ℕ) (u : D) → get_elem? s.views j ≡ some u → u.live ≡ true → j ≡ id = λ j u e l. dite (ℕ_discrete j id) (λ is. is)
      (λ other. let none = alone s r id v at every j u other e in let some_part = (r.each j u e).alive l in absurd (omega (arith, none, some_part))) in
      let home = r.home (λ j u e. dite (ℕ_discrete j id)
      (λ (is : j ≡ id). ap (λ (y : D). IsQuiet y.role) (some-injective u v (sym e ∙ (ap (get_elem? s.views) is ∙ at))) ∙ ap IsQuiet idle)
      (λ other. quiet_if_none u.role (let none = alone s r id v at every j u other e in let part = (r.each j u e).part in omega (arith, none, part)))) in
      let whose : (by : ℕ) → (entries_by by log ≡ []) ⊎ Contains (numbers_of (account v)) by = λ by. dite (dec_le (length s.views) by) (λ le. inl (r.unmade by le))
      (λ not. let u = some_below s.views by (lt_of_not-le not) in whose_of s r id v at live named only by u.0 u.1 u.0.live refl) in
      let twice = none_twice s r id v at live named in (
        home.0,
        home.1,
        record {
          history = log;
          legal = home.2;
          begins = k.prefix;
          mine = ap (λ (n : ℕ). entries_by n log) (k.named live named) ∙ k.own live;
          theirs = all_at (λ (e : Ended C R). entries_by e.number log ≡ e.calls) v.ended (λ i e h. (k.ended i e h).1);
          each = each_by (λ (n : ℕ). Contains (numbers_of (account v)) n) log whose;
          apart = apart_numbers v.number v.ended twice.0 twice.1;
        },
      )
