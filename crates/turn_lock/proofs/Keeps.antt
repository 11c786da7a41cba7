-- Each step keeps the rule of the table.
use Rattle.std.proofs.Common.{◌≡◌, ◌≢◌, ℕ, ◌+◌, ◌/◌, ◌%◌, ◌^◌, ◌<◌, ◌≤◌, true, true≢false, List, [], ◌∷◌, ◌++◌, length, slice_index, set, sym, refl, ap, ◌∙◌, subst, ⊎_elim, arith, Option, Some, None, Result, length-set, length-append, get_or-set_other, get_or-set_same, append-nil, lt_of_not-le}
use mathlib.Core.Option.{some, some-injective, some-ne-none}
use mathlib.Core.Option as maybe
use native.Mathlib.Decide.{ℕ_discrete, dec_le}
use lib.ListN.{get_elem?}
use Rattle.atomic_table.specs.Table.{State, Me, Act, keeps, takes, gives, Valid, stepped, carried_after, rest, Allows}
use Rattle.atomic_table.proofs.Lists.{set_here}
use Rattle.ndis_base.specs.declared.OutOfMemory.{OutOfMemory}
use Rattle.ndis_base.specs.declared.Phase.{Phase}
use Rattle.turn_lock.specs.declared.view.Entry.{Entry}
use Rattle.turn_lock.specs.declared.view.Role.{Role}
use Rattle.turn_lock.specs.declared.view.Role.TheVariants.{Idle, Waits, Serves}
use Rattle.turn_lock.specs.declared.view.View.{View}
use Rattle.turn_lock.specs.History.{entry, front_word, phase_after, entries_by, Runs}
use Rattle.turn_lock.specs.Orderly.{out, tickets_of, ticket_of, parts_of, IsQuiet, FitsRole, Knows, Gone, Orderly}
use Rattle.turn_lock.specs.Plays.{no_step, with_role, after_load, after_turn, drawn, looked, tried, served, Finds, Holds, Loaded, Takes, Serves_call, IsReady}
use Rattle.turn_lock.proofs.Lists.{put, put_here, put_else, set_at, at_below, all_set, total_set, total_le, quiet_back, gone_stays, all_kept, all_made, once_stays}
use Rattle.turn_lock.proofs.Histories.{turns_in, starts_self, starts_more, starts_trans, phase_snoc, by_snoc, by_other, runs_snoc}
use Rattle.std.proofs.Math.Nat.{mod-eq_of_lt}

abbrev pub some_or : {A : Type 0} → A → Option A → A
some_or d None = d
some_or d (Some a) = a

module _ {O : Type 0} (Now : O → Type 0) (turns next next' : ℕ) (holder holder' : ℕ → ℕ) (j : ℕ) where
  role_stays : (r : Role O) → ((t : ℕ) → t < next → holder t ≡ j → (t < next') × (holder' t ≡ j)) → FitsRole Now turns next holder j r → FitsRole Now turns next' holder' j r
  role_stays Idle keep h = tt
  role_stays (Waits t) keep h = let k = keep t h.1 h.2 in (h.0, k.0, k.1)
  role_stays (Serves t o) keep h = let k = keep t h.1 h.2 in (h.0, k.0, k.1, h.3)

abbrev held_or : {O : Type 0} → O → List (ℕ × Option O) → O
held_or d [] = d
held_or d (p ∷ ps) = some_or d p.1

module _ {O C R : Type 0} where
  -- the slot after it was emptied and filled
  filled : (m m1 m2 : Me (Option O) (View O C R)) (x y : O) → m.1 ≡ (0, Some x) ∷ [] → m1 ≡ (m.0, (0, None) ∷ rest m.1) → m2 ≡ (m1.0, (0, Some y) ∷ rest m1.1) → m2 ≡ (m.0, (0, Some y) ∷ [])
  filled m m1 m2 x y e e1 e2 = e2 ∙ (λ i. (ap (λ (z : Me (Option O) (View O C R)). z.0) e1 i, (0, Some y) ∷ (ap (λ (z : Me (Option O) (View O C R)). rest z.1) e1 ∙ ap rest e) i))

  same_held : (m : Me (Option O) (View O C R)) (x u : O) (got : Option O) → m.1 ≡ (0, Some x) ∷ [] → m.1 ≡ (0, got) ∷ rest m.1 → got ≡ Some u → x ≡ u
  same_held m x u got e e' is = ap (held_or x) (sym e ∙ e') ∙ ap (some_or x) is

module _ {O C R : Type 0} (Stands : O → Entry C R → O → Type 0) (phase_of : O → Phase) (opening : O) (seats : ℕ) where
  abbrev D : Type 0
  D = View O C R

  abbrev S : Type 0
  S = Option O

  abbrev St : Type 0
  St = State S D

  abbrev Rule : St → Type 0
  Rule = Orderly Stands phase_of opening seats

  abbrev Log : Type 0
  Log = List (Entry C R)

  abbrev Now : Log → O → Type 0
  Now h o = Runs Stands opening h o

  abbrev Homes : Type 0
  Homes = List (maybe.Option S)

  abbrev Home : Log → Homes → Type 0
  Home log homes = (h : O) × (get_elem? homes 0 ≡ some (some (Some h))) × Now log h

  few_tickets : (s : St) → Rule s → slice_index s.words 0 ≤ 2 ^ 60 + 65536
  few_tickets s r = let a = total_le s.views (λ j v e. (r.each j v e).part) in omega (arith, a, r.tickets, r.whole, r.seats_few, r.few)

  -- a step that leaves the history as it is
  pub same_history : (s : St) (r : Rule s) (id : ℕ) (v w : D) (next' : ℕ) (words' : List ℕ) (homes' : Homes) (holder' : ℕ → ℕ)
      → get_elem? s.views id ≡ some v → length words' ≡ 2 → length homes' ≡ 1 → slice_index words' 0 ≡ next' → slice_index words' 1 ≡ slice_index s.words 1
      → v.live ≡ true → w.live ≡ true → w.ended ≡ v.ended → w.known ≡ v.known → w.parts ≡ v.parts → out w + slice_index s.words 0 ≡ out v + next' → Knows (Now r.history) opening r.history next' holder' (Gone s.views) id w
      → ((j t : ℕ) → j ≢ id → t < slice_index s.words 0 → r.holder t ≡ j → (t < next') × (holder' t ≡ j))
      → (((j : ℕ) (u : D) → get_elem? (set s.views id w) j ≡ some u → IsQuiet u.role ≡ true) → Home r.history homes')
      → Rule record { words = words'; homes = homes'; views = set s.views id w }
  same_history s r id v w next' words' homes' holder' at two one next front live live' ended known parts tickets mine others home = record {
    history = r.history;
    holder = holder';
    two = two;
    one = one;
    few = r.few;
    front = front ∙ r.front;
    tickets = let a = total_set out s.views id v w at in omega (arith, a, r.tickets, tickets, next);
    whole = let a = total_set parts_of s.views id v w at in omega (arith, a, r.whole, parts);
    seats_few = r.seats_few;
    each = all_set (Knows (Now r.history) opening r.history (slice_index words' 0) holder' (Gone (set s.views id w))) s.views id w
        (subst (λ (n : ℕ). Knows (Now r.history) opening r.history n holder' (Gone (set s.views id w)) id w) (sym next)
        (record {
          part = mine.part;
          prefix = mine.prefix;
          fell_behind = mine.fell_behind;
          role = mine.role;
          now = mine.now;
          opens = mine.opens;
          alive = mine.alive;
          own = mine.own;
          named = mine.named;
          unnamed = mine.unnamed;
          ended = λ i e h. let x = mine.ended i e h in (gone_stays s.views id v w e.number at live x.0, x.1);
        }))
        (λ j u other e. let k = r.each j u e in record {
          part = k.part;
          prefix = k.prefix;
          fell_behind = k.fell_behind;
          opens = k.opens;
          alive = k.alive;
          own = k.own;
          unnamed = k.unnamed;
          ended = λ i e h. let x = k.ended i e h in (gone_stays s.views id v w e.number at live x.0, x.1);
          role = role_stays (Now r.history) (length r.history) (slice_index s.words 0) (slice_index words' 0) r.holder holder' j u.role
              (λ t lt is. let o = others j t other lt is in (omega (arith, o.0, next), o.1)) k.role;
          now = k.now;
          named = k.named;
        });
    kept = all_kept (λ j. entries_by j r.history ≡ []) (λ j. entries_by j r.history ≡ []) s.views id v w at live' ended (λ j u other e dead h. h) r.kept;
    once = once_stays s.views id v w at ended r.once;
    made = all_made s.views id v w at known r.made;
    legal = r.legal;
    home = home;
    unmade = λ by h. r.unmade by (omega (arith, length-set s.views id w));
  }

  pub draws : (slots id : ℕ) (me : Me S D) → me.0.live ≡ true → me.0.role ≡ Idle → 0 < me.0.parts → Allows Rule slots id me 0 (λ n. (n + 1) % 2 ^ 64) (drawn no_step me)
  draws slots id me live idle part s r deep at fits =
      let v : D = me.0 in let t : ℕ = slice_index s.words 0 in let w : D = with_role v (Waits t) in
      let small = few_tickets s r in let k = r.each id v at in
      let n : (t + 1) % 2 ^ 64 ≡ t + 1 = mod-eq_of_lt (omega (arith, small)) in
      let turns : length r.history ≤ t = omega (arith, r.tickets) in
      let none_out : out v ≡ 0 = ap tickets_of idle in (
        w,
        keeps,
        tt,
        subst (λ (x : ℕ). Rule record { words = set s.words 0 x; homes = s.homes; views = set s.views id w }) (sym n)
            (same_history s r id v w (t + 1) (set s.words 0 (t + 1)) s.homes (put r.holder t id) at
            (length-set s.words 0 (t + 1) ∙ r.two) r.one (get_or-set_same s.words 0 (t + 1) 0 (omega (arith, r.two))) (get_or-set_other s.words 0 1 (t + 1) 0 (λ h. omega arith))
            live live refl refl refl (omega (arith, none_out))
            (record {
              part = omega (arith, part);
              opens = k.opens;
              alive = k.alive;
              unnamed = k.unnamed;
              ended = k.ended;
              prefix = k.prefix;
              fell_behind = k.fell_behind;
              role = (turns, omega arith, put_here r.holder t id);
              now = λ h. absurd (true≢false h);
              named = k.named;
              own = k.own;
            })
            (λ j u other lt is. (omega (arith, lt), put_else r.holder t id u (λ (e : u ≡ t). omega (arith, lt)) ∙ is))
            (λ all. r.home (quiet_back s.views id v w at (ap IsQuiet idle) all))),
        (omega (arith, small), refl),
      )

  -- a load, after which the role is r'
  loaded : (s : St) (r : Rule s) (id : ℕ) (v : D) (role : Role O) (homes' : Homes) → get_elem? s.views id ≡ some v → v.live ≡ true → length homes' ≡ 1 → tickets_of role ≡ tickets_of v.role
      → FitsRole (Now r.history) (length r.history) (slice_index s.words 0) r.holder id role
      → (((j : ℕ) (u : D) → get_elem? (set s.views id (after_load v role r.history)) j ≡ some u → IsQuiet u.role ≡ true) → Home r.history homes')
      → Rule record { words = set s.words 1 (slice_index s.words 1); homes = homes'; views = set s.views id (after_load v role r.history) }
  loaded s r id v role homes' at live one same fits home = let k = r.each id v at in
      same_history s r id v (after_load v role r.history) (slice_index s.words 0) (set s.words 1 (slice_index s.words 1)) homes' r.holder at
      (length-set s.words 1 (slice_index s.words 1) ∙ r.two) one (get_or-set_other s.words 1 0 (slice_index s.words 1) 0 (λ h. omega arith))
      (get_or-set_same s.words 1 (slice_index s.words 1) 0 (omega (arith, r.two))) live live refl refl refl (omega (arith, same))
      (record {
        part = let p = k.part in omega (arith, p, same);
        opens = k.opens;
        alive = k.alive;
        unnamed = k.unnamed;
        ended = k.ended;
        prefix = starts_self r.history;
        fell_behind = k.fell_behind;
        role = fits;
        now = λ _. refl;
        named = k.named;
        own = k.own;
      })
      (λ j u other lt is. (lt, is)) home

  finds : (s : St) (r : Rule s) (id : ℕ) (v : D) → get_elem? s.views id ≡ some v → v.live ≡ true → v.named ≡ true → Finds Stands phase_of v (slice_index s.words 1) r.history
  finds s r id v at live named = let k = r.each id v at in (opening, k.opens live, r.front, r.few, k.prefix, r.legal, ap (λ (n : ℕ). entries_by n r.history) (k.named live named) ∙ k.own live)

  pub looks : (slots id : ℕ) (me : Me S D) → me.0.live ≡ true → me.0.named ≡ true → IsQuiet me.0.role ≡ true → Allows Rule slots id me 1 (λ n. n) (looked Stands phase_of no_step me)
  looks slots id me live named quiet s r deep at fits = let v : D = me.0 in let k = r.each id v at in (
    after_load v v.role r.history,
    keeps,
    tt,
    loaded s r id v v.role s.homes at live r.one refl k.role (λ all. r.home (quiet_back s.views id v (after_load v v.role r.history) at quiet all)),
    (r.history, finds s r id v at live named, refl),
  )

  -- while one seat waits with the ticket that is served, no seat holds the object
  quiet_role : (log : Log) (next : ℕ) (holder : ℕ → ℕ) (id j : ℕ) (role : Role O) → FitsRole (Now log) (length log) next holder j role → holder (length log) ≡ id
      → (j ≡ id → IsQuiet role ≡ true) → IsQuiet role ≡ true
  quiet_role log next holder id j Idle h is mine = refl
  quiet_role log next holder id j (Waits t) h is mine = refl
  quiet_role log next holder id j (Serves t o) h is mine = mine (sym h.2 ∙ (ap holder (sym h.0) ∙ is))

  no_server : (s : St) (r : Rule s) (id : ℕ) (v : D) (t : ℕ) → get_elem? s.views id ≡ some v → v.role ≡ Waits t → length r.history ≡ t
      → (j : ℕ) (u : D) → get_elem? s.views j ≡ some u → IsQuiet u.role ≡ true
  no_server s r id v t at is now j u e =
      let k = r.each id v at in let m : FitsRole (Now r.history) (length r.history) (slice_index s.words 0) r.holder id (Waits t) = subst (λ (z : Role O). FitsRole (Now r.history) (length r.history) (slice_index s.words 0) r.holder id z) is k.role in
      quiet_role r.history (slice_index s.words 0) r.holder id j u.role (r.each j u e).role (ap r.holder now ∙ m.2)
      (λ (here : j ≡ id). let same : v ≡ u = some-injective v u (sym at ∙ (ap (get_elem? s.views) (sym here) ∙ e)) in subst (λ (z : D). IsQuiet z.role ≡ true) same (ap IsQuiet is))

  abbrev Tries : Me S D → ℕ → St → Type 0
  Tries me id s = (w : D) × (a : Act S) × Valid s.homes me.1 a × Rule (stepped s 1 (slice_index s.words 1) id me.1 w a) × tried Stands phase_of no_step me (slice_index s.words 1) (w, carried_after me.1 a)

  stays : (id : ℕ) (me : Me S D) (t : ℕ) (s : St) (r : Rule s) → get_elem? s.views id ≡ some me.0 → me.0.live ≡ true → me.0.named ≡ true → me.0.role ≡ Waits t
      → (slice_index s.words 1 / 8 ≡ ticket_of me.0.role → ¬ (ticket_of me.0.role < 2 ^ 60)) → Tries me id s
  stays id me t s r at live named is not = let v : D = me.0 in let k = r.each id v at in (
    after_load v v.role r.history,
    keeps,
    tt,
    loaded s r id v v.role s.homes at live r.one refl k.role (λ all. r.home (quiet_back s.views id v (after_load v v.role r.history) at (ap IsQuiet is) all)),
    (r.history, finds s r id v at live named, ((λ e lt. absurd (not e lt)), λ _. refl)),
  )

  takes_it : (id : ℕ) (me : Me S D) (t : ℕ) (s : St) (r : Rule s) → get_elem? s.views id ≡ some me.0 → me.0.live ≡ true → me.0.named ≡ true → me.0.role ≡ Waits t
      → slice_index s.words 1 / 8 ≡ ticket_of me.0.role → ticket_of me.0.role < 2 ^ 60 → Tries me id s
  takes_it id me t s r at live named is e lt =
      let v : D = me.0 in let k = r.each id v at in let h : Log = r.history in let tk : ℕ = ticket_of v.role in let tis : tk ≡ t = ap ticket_of is in
      let len : slice_index s.words 1 / 8 ≡ length h = ap (λ (n : ℕ). n / 8) r.front ∙ turns_in (length h) (phase_after (phase_of opening) h) in
      let now : length h ≡ tk = sym len ∙ e in
      let mine : FitsRole (Now h) (length h) (slice_index s.words 0) r.holder id (Waits t) = subst (λ (z : Role O). FitsRole (Now h) (length h) (slice_index s.words 0) r.holder id z) is k.role in
      let home = r.home (no_server s r id v t at is (now ∙ tis)) in let x : O = home.0 in let w : D = after_load v (Serves tk x) h in (
        w,
        takes 0 (Some x),
        home.1,
        loaded s r id v (Serves tk x) (set s.homes 0 maybe.none) at live (length-set s.homes 0 maybe.none ∙ r.one) (sym (ap tickets_of is))
            (now, (let m = mine.1 in omega (arith, m, tis)), ap r.holder tis ∙ mine.2, home.2)
            (λ all. absurd (true≢false (sym (all id w (set_at s.views id v w at))))),
        (h, finds s r id v at live named, ((λ _ _. (x, refl, (opening, k.opens live, home.2))), λ bad. absurd (⊎_elim (λ ne. ne e) (λ (big : 2 ^ 60 ≤ tk). omega arith) bad))),
      )

  try_by : (id : ℕ) (me : Me S D) (t : ℕ) (s : St) (r : Rule s) → get_elem? s.views id ≡ some me.0 → me.0.live ≡ true → me.0.named ≡ true → me.0.role ≡ Waits t
      → Dec (slice_index s.words 1 / 8 ≡ ticket_of me.0.role) → Dec (2 ^ 60 ≤ ticket_of me.0.role) → Tries me id s
  try_by id me t s r at live named is (no ne) big = stays id me t s r at live named is (λ e lt. ne e)
  try_by id me t s r at live named is (yes e) (yes big) = stays id me t s r at live named is (λ _ lt. omega arith)
  try_by id me t s r at live named is (yes e) (no small) = takes_it id me t s r at live named is e (lt_of_not-le small)

  pub tries : (slots id : ℕ) (me : Me S D) (t : ℕ) → me.0.live ≡ true → me.0.named ≡ true → me.0.role ≡ Waits t → Allows Rule slots id me 1 (λ n. n) (tried Stands phase_of no_step me)
  tries slots id me t live named is s r deep at fits = try_by id me t s r at live named is (ℕ_discrete (slice_index s.words 1 / 8) (ticket_of me.0.role)) (dec_le (2 ^ 60) (ticket_of me.0.role))

  -- another seat's ticket is later than the one that was served
  role_later : (log : Log) (e : Entry C R) (next : ℕ) (holder : ℕ → ℕ) (id j : ℕ) → j ≢ id → holder (length log) ≡ id → (role : Role O) → FitsRole (Now log) (length log) next holder j role
      → FitsRole (Now (log ++ e ∷ [])) (length (log ++ e ∷ [])) next holder j role
  role_later log e next holder id j other is Idle h = tt
  role_later log e next holder id j other is (Waits t) h =
      let not : t ≢ length log = λ (same : t ≡ length log). other (sym h.2 ∙ (ap holder same ∙ is)) in (omega (arith, h.0, length-append log (e ∷ []), not), h.1, h.2)
  role_later log e next holder id j other is (Serves t o) h = absurd (other (sym h.2 ∙ (ap holder (sym h.0) ∙ is)))

  pub serves : (slots id : ℕ) (v : D) (t new : ℕ) (x : O) (o : O) (e : Entry C R) (said : Option (Entry C R))
      → v.live ≡ true → v.named ≡ true → v.role ≡ Serves t o → said ≡ Some e → e.by ≡ v.number → Stands o e x → t < 2 ^ 60 → new ≡ front_word (t + 1) e.phase
      → Allows Rule slots id (v, (0, Some x) ∷ []) 1 (λ _. new) (λ _. served said no_step (v, (0, Some x) ∷ []) new)
  serves slots id v t new x o e said live named is said_is by_is did few front s r deep at fits =
      let k = r.each id v at in let log : Log = r.history in
      let w : D = after_turn v e in
      let log' : Log = log ++ e ∷ [] in let more : length log' ≡ length log + 1 = length-append log (e ∷ []) in
      let mine : FitsRole (Now log) (length log) (slice_index s.words 0) r.holder id (Serves t o) = subst (λ (z : Role O). FitsRole (Now log) (length log) (slice_index s.words 0) r.holder id z) is k.role in
      let served_is : r.holder (length log) ≡ id = ap r.holder mine.0 ∙ mine.2 in
      let seen_is : v.seen ≡ log = k.now (ap IsQuiet is) in let number : e.by ≡ id = by_is ∙ k.named live named in
      let apart : (n : ℕ) → Gone s.views n → n ≢ id = λ n g here. true≢false (sym live ∙ (ap (λ (z : D). z.live) (some-injective v g.0 (sym at ∙ (ap (get_elem? s.views) (sym here) ∙ g.1))) ∙ g.2)) in
      let run : Now log' x = runs_snoc Stands opening log o e x mine.3 did in
      let one_out : out v ≡ 1 = ap tickets_of is in
      let first : slice_index (set s.words 1 new) 0 ≡ slice_index s.words 0 = get_or-set_other s.words 1 0 new 0 (λ h. omega arith) in
      let last_phase : phase_after (phase_of opening) log' ≡ e.phase = phase_snoc (phase_of opening) log e in (
        w,
        gives,
        tt,
        record {
          history = log';
          holder = r.holder;
          two = length-set s.words 1 new ∙ r.two;
          one = length-set s.homes 0 (some (Some x)) ∙ r.one;
          few = let m = mine.0 in omega (arith, more, m, few);
          front = get_or-set_same s.words 1 new 0 (omega (arith, r.two)) ∙ (front ∙ (λ i. front_word ((ap (λ (n : ℕ). n + 1) (sym mine.0) ∙ sym more) i) (sym last_phase i)));
          tickets = let a = total_set out s.views id v w at in omega (arith, a, r.tickets, one_out, more, first);
          whole = let a = total_set parts_of s.views id v w at in omega (arith, a, r.whole);
          seats_few = r.seats_few;
          kept = all_kept (λ j. entries_by j log ≡ []) (λ j. entries_by j log' ≡ []) s.views id v w at live refl (λ j u other b dead h. by_other j log e (λ (q : e.by ≡ j). other (sym q ∙ number)) ∙ h) r.kept;
          once = once_stays s.views id v w at refl r.once;
          made = all_made s.views id v w at refl r.made;
          each = all_set (Knows (Now log') opening log' (slice_index (set s.words 1 new) 0) r.holder (Gone (set s.views id w))) s.views id w
              (record {
                part = omega arith;
                opens = k.opens;
                prefix = ([], ap (λ (l : Log). l ++ e ∷ []) (sym seen_is) ∙ sym (append-nil (v.seen ++ e ∷ [])));
                fell_behind = starts_more log v.behind (e ∷ []) k.fell_behind;
                role = tt;
                now = λ h. absurd (true≢false h);
                named = k.named;
                own = λ l. by_snoc id log e number ∙ ap (λ (l : Log). l ++ e ∷ []) (k.own l);
                alive = k.alive;
                unnamed = k.unnamed;
                ended = λ i q h. let y = k.ended i q h in (gone_stays s.views id v w q.number at live y.0, by_other q.number log e (λ (z : e.by ≡ q.number). apart q.number y.0 (sym z ∙ number)) ∙ y.1);
              })
              (λ j u other b. let q = r.each j u b in record {
                part = q.part;
                opens = q.opens;
                prefix = starts_more log u.seen (e ∷ []) q.prefix;
                fell_behind = starts_more log u.behind (e ∷ []) q.fell_behind;
                role = subst (λ (n : ℕ). FitsRole (Now log') (length log') n r.holder j u.role) (sym first) (role_later log e (slice_index s.words 0) r.holder id j other served_is u.role q.role);
                now = λ busy. absurd (true≢false (sym (quiet_role log (slice_index s.words 0) r.holder id j u.role q.role served_is (λ here. absurd (other here))) ∙ busy));
                named = q.named;
                own = λ l. by_other j log e (λ (z : e.by ≡ j). other (sym z ∙ number)) ∙ q.own l;
                alive = q.alive;
                unnamed = q.unnamed;
                ended = λ i p h. let y = q.ended i p h in (gone_stays s.views id v w p.number at live y.0, by_other p.number log e (λ (z : e.by ≡ p.number). apart p.number y.0 (sym z ∙ number)) ∙ y.1);
              });
          legal = (x, run);
          home = λ all. (x, set_here s.homes 0 (some (Some x)) (omega (arith, r.one)), run);
          unmade = λ by h. let below = at_below s.views id v at in let long = length-set s.views id w in
              by_other by log e (λ (z : e.by ≡ by). let n = number in omega arith) ∙ r.unmade by (omega (arith, h, long));
        },
        λ e' l. let same : e ≡ e' = ap (some_or e) (sym said_is ∙ l) in λ i. (after_turn v (same i), []),
      )

  pub stores : (slots id : ℕ) (m : Me S D) (front : ℕ) (said : Option (Entry C R)) → m.0.live ≡ true → m.0.named ≡ true → IsReady Stands said front m
      → Allows Rule slots id m 1 (λ _. front) (λ _. served said no_step m front)
  stores slots id m front said live named h = subst (λ (z : Me S D). Allows Rule slots id z 1 (λ _. front) (λ _. served said no_step z front)) (λ i. (m.0, sym h.5 i))
      (serves slots id m.0 h.0 front h.2 h.1 h.3 said live named h.4 h.6 h.7 h.8 h.9 h.10)

module _ {O C R : Type 0} (Stands : O → Entry C R → O → Type 0) (phase_of : O → Phase) where
  -- the load that found the ticket served
  pub took : (v : View O C R) (t n : ℕ) (m m' : Me (Option O) (View O C R)) → v.role ≡ Waits t → Loaded v m → tried Stands phase_of no_step m n m' → n / 8 ≡ t → t < 2 ^ 60 → Takes Stands t v m'
  took v t n m m' role loaded tells served few =
      let v1 : View O C R = record v { loads = loaded.0; seen = loaded.1 } in
      let f : tried Stands phase_of no_step (v1, []) n m' = subst (λ (z : Me (Option O) (View O C R)). tried Stands phase_of no_step z n m') loaded.4 tells in
      let tis : ticket_of v.role ≡ t = ap ticket_of role in let found = f.1 in
      let got = f.2.0 (served ∙ sym tis) (subst (λ (k : ℕ). k < 2 ^ 60) (sym tis) few) in
      let len : n / 8 ≡ length f.0 = ap (λ (k : ℕ). k / 8) found.2 ∙ turns_in (length f.0) (phase_after (phase_of found.0) f.0) in
      let le = loaded.2 in (
        loaded.0 + 1,
        f.0,
        got.0,
        got.2.0,
        omega (arith, le),
        starts_trans f.0 loaded.1 v.seen found.4 loaded.3,
        got.2.1,
        got.2.2,
        found.6,
        sym len ∙ served,
        few,
        got.1 ∙ (λ i. (after_load v1 (Serves (tis i) got.0) f.0, (0, Some got.0) ∷ [])),
      )

  pub readies : (m m1 m2 : Me (Option O) (View O C R)) (t front : ℕ) (u y : O) (got : Option O) (e : Entry C R)
      → Holds t m → m.1 ≡ (0, got) ∷ rest m.1 → m1 ≡ (m.0, (0, None) ∷ rest m.1) → m2 ≡ (m1.0, (0, Some y) ∷ rest m1.1) → got ≡ Some u
      → e.by ≡ m2.0.number → Stands u e y → t < 2 ^ 60 → front ≡ front_word (t + 1) e.phase → IsReady Stands (Some e) front m2
  readies m m1 m2 t front u y got e h held e1 e2 is by did few front_is =
      let xu : h.0 ≡ u = same_held m h.0 u got h.2 held is in let f = filled m m1 m2 h.0 y h.2 e1 e2 in
      (t, u, y, e, ap (λ (z : Me (Option O) (View O C R)). z.0.role) f ∙ (h.1 ∙ ap (λ (z : O). let q : Role O = Serves t z in q) xu), ap (λ (z : Me (Option O) (View O C R)). z.1) f, refl, by, did, few, front_is)

  pub served_call : (m m1 m2 m3 : Me (Option O) (View O C R)) (t n : ℕ) (u y : O) (got : Option O) (call : C) (reply : Result R OutOfMemory) (phase : Phase) (e : Entry C R)
      → Holds t m → m.1 ≡ (0, got) ∷ rest m.1 → m1 ≡ (m.0, (0, None) ∷ rest m.1) → m2 ≡ (m1.0, (0, Some y) ∷ rest m1.1) → got ≡ Some u
      → e ≡ entry m2.0.number call reply phase → Stands u e y → served (Some e) no_step m2 n m3 → Serves_call Stands t call reply m.0 m3
  served_call m m1 m2 m3 t n u y got call reply phase e h held e1 e2 is e_is did tells =
      let xu : h.0 ≡ u = same_held m h.0 u got h.2 held is in
      let two : m2 ≡ (m.0, (0, Some y) ∷ []) = filled m m1 m2 h.0 y h.2 e1 e2 in
      let mine : e ≡ entry m.0.number call reply phase = e_is ∙ ap (λ (z : Me (Option O) (View O C R)). entry z.0.number call reply phase) two in
      let f = subst (λ (z : Me (Option O) (View O C R)). served (Some e) no_step z n m3) two tells in
      (u, y, phase, h.1 ∙ ap (λ (z : O). let q : Role O = Serves t z in q) xu, subst (λ (z : Entry C R). Stands u z y) mine did, f e refl ∙ (λ i. (after_turn m.0 (mine i), [])))
