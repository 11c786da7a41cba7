-- What the calls owe, from what their steps told.
use Rattle.std.proofs.Common.{◌≡◌, ◌≢◌, ℕ, ◌<◌, ◌≤◌, true, List, [], ◌∷◌, ◌++◌, sym, refl, ap, ◌∙◌, subst, arith, Option, Some, Result}
use mathlib.Core.Option.{some, some-injective}
use lib.ListN.{get_elem?}
use denote.Enum.Declared.{tag_of}
use Rattle.std.specs.List.{All}
use Rattle.atomic_table.specs.Table.{State, Me, Final, Seen}
use Rattle.ndis_base.specs.contracts.Phase.{the_type}
use Rattle.ndis_base.specs.declared.OutOfMemory.{OutOfMemory}
use Rattle.ndis_base.specs.declared.Phase.{Phase}
use Rattle.ndis_base.specs.declared.Phase.TheVariants.{Halted, Paused, Restarting, Running, Pausing}
use Rattle.turn_lock.specs.declared.view.Entry.{Entry}
use Rattle.turn_lock.specs.declared.view.Role.{Role}
use Rattle.turn_lock.specs.declared.view.Role.TheVariants.{Idle, Waits, Serves}
use Rattle.turn_lock.specs.declared.view.View.{View}
use Rattle.turn_lock.specs.History.{StartsWith, ByStep, entry, Runs, phase_number, longer}
use Rattle.turn_lock.specs.Orderly.{Orderly, first_view, newcomer, both}
use Rattle.turn_lock.specs.Plays.{no_step, has_number, settled, with_role, after_turn, Takes, Serves_call}
use Rattle.turn_lock.specs.Account.{account, numbers_of, AreApart, Makes, Closes}
use Rattle.turn_lock.proofs.Histories.{runs_snoc, runs_fixed, by_snoc, longer_begins, apart_numbers}
use Rattle.turn_lock.proofs.Keeps.{some_or}
use Rattle.turn_lock.proofs.Lists.{all_at}
use Rattle.turn_lock.proofs.Seating.{opens, closes}
use Rattle.atomic_table.specs.Table as Table

pub tag_is : (p : Phase) → tag_of the_type p ≡ phase_number p
tag_is Halted = refl
tag_is Paused = refl
tag_is Restarting = refl
tag_is Running = refl
tag_is Pausing = refl

abbrev object_or : {O : Type 0} → O → Role O → O
object_or d Idle = d
object_or d (Waits t) = d
object_or d (Serves t o) = o

module _ {O C R : Type 0} where
  -- a seat that was split off, after its number was told
  pub comes : (v : View O C R) (n : ℕ) (m m' : Me (Option O) (View O C R)) → m ≡ (newcomer v, []) → has_number no_step m n m'
      → (k : ℕ) × (m' ≡ (record (newcomer v) { number = k; named = true }, [])) × All (λ (a : ℕ). a ≢ k) (v.number ∷ v.known)
  comes v n m m' e h' =
      let h = subst (λ (z : Me (Option O) (View O C R)). has_number no_step z n m') e h' in
      (h.0, h.2, all_at (λ (a : ℕ). a ≢ h.0) (v.number ∷ v.known) (λ i a at. h.1 i a at))

  -- a seat that was joined, after it has settled
  pub settles_both : (v w : View O C R) (held : List (ℕ × Option O)) (n : ℕ) (m m' : Me (Option O) (View O C R)) → m ≡ (both v w, held) → settled no_step m n m'
      → (m' ≡ (both v w, held)) × StartsWith (longer v.seen w.seen) v.seen × StartsWith (longer v.seen w.seen) w.seen × AreApart (numbers_of (account (both v w)))
  settles_both v w held n m m' e h' =
      let h = subst (λ (z : Me (Option O) (View O C R)). settled no_step z n m') e h' in
      let b = longer_begins h.0 v.seen w.seen h.1 h.2 in
      (h.4, b.0, b.1, apart_numbers (both v w).number (both v w).ended h.3.0 h.3.1)

module _ {O C R : Type 0} (Stands : O → Entry C R → O → Type 0) (phase_of : O → Phase) where
  abbrev M : Type 0
  M = Me (Option O) (View O C R)

  pub makes : (v : View O C R) (t : ℕ) (call : C) (reply : Result R OutOfMemory) (opening : O) (m m1 m2 : M) → v.opening ≡ Some opening → m ≡ (with_role v (Waits t), []) → Takes Stands t m.0 m1
      → Serves_call Stands t call reply m1.0 m2 → Makes Stands opening call reply (account v) (account m2.0) × (m2.0.opening ≡ v.opening)
  makes v t call reply opening m m1 m2 starts e takes' serves' =
      let v1 : View O C R = with_role v (Waits t) in
      let takes : Takes Stands t v1 m1 = subst (λ (z : M). Takes Stands t z.0 m1) e takes' in
      let h : List (Entry C R) = takes.1 in let x : O = takes.2 in let o : O = takes.3 in
      let v2 : View O C R = record v1 { role = Serves t x; loads = takes.0; seen = h } in
      let serves : Serves_call Stands t call reply v2 m2 = subst (λ (z : M). Serves_call Stands t call reply z.0 m2) takes.11 serves' in
      let z : O = serves.1 in let u : Entry C R = entry v.number call reply serves.2 in let w : View O C R = after_turn v2 u in
      let same : x ≡ serves.0 = ap (object_or x) serves.3 in
      let first : o ≡ opening = ap (some_or o) (sym takes.6 ∙ starts) in
      let run : Runs Stands opening (h ++ u ∷ []) z = runs_snoc Stands opening h serves.0 u z (subst (Runs Stands opening h) same (subst (λ (a : O). Runs Stands a h x) first takes.7)) serves.4 in
      subst (λ (y : M). Makes Stands opening call reply (account v) (account y.0) × (y.0.opening ≡ v.opening)) (sym serves.5) (
        record {
          between = takes.5.0;
          phase = serves.2;
          sees = ap (λ (l : List (Entry C R)). l ++ u ∷ []) takes.5.1;
          adds = refl;
          history = record { legal = (z, run); mine = by_snoc v.number h u refl ∙ ap (λ (l : List (Entry C R)). l ++ u ∷ []) takes.8 };
          loaded = takes.4;
          same = refl;
        },
        refl,
      )

  module _ (opening : O) (seats : ℕ) where
    pub closed : (id : ℕ) (v : View O C R) (ws : List ℕ) (xs : List (Option O)) (y : Option O) → Final (Seen (Orderly Stands phase_of opening seats) id v) ws xs
        → v.live ≡ true → v.named ≡ true → v.role ≡ Idle → v.parts ≡ seats → get_elem? xs 0 ≡ some y → (x : O) × (y ≡ Some x) × Closes Stands opening (account v) x
    closed id v ws xs y final live named idle every at =
        let s = final.0 in let seen = final.1 in let c = closes Stands phase_of opening seats s seen.0 id v seen.1 live named idle every in
        (c.0, some-injective y (Some c.0) (sym at ∙ final.4 0 (Some c.0) c.1), c.2)

    pub closed_with : (id : ℕ) (v : View O C R) (ws : List ℕ) (xs : List (Option O)) (y : Option O) (u : O) → Final (Seen (Orderly Stands phase_of opening seats) id v) ws xs
        → v.live ≡ true → v.named ≡ true → v.role ≡ Idle → v.parts ≡ seats → get_elem? xs 0 ≡ some y → y ≡ Some u → Closes Stands opening (account v) u
    closed_with id v ws xs y u final live named idle every at is =
        let c = closed id v ws xs y final live named idle every at in subst (λ (x : O). Closes Stands opening (account v) x) (ap (some_or c.0) (sym c.1 ∙ is)) c.2

    pub opens_items : (front : ℕ) (items : List (Option O)) (h : O) → items ≡ Some h ∷ [] → 0 < seats → seats ≤ 65536 → h ≡ opening → front ≡ phase_number (phase_of opening)
        → Orderly Stands phase_of opening seats (Table.opening (0 ∷ front ∷ []) items (first_view opening seats))
    opens_items front items h is some_seat few same front_is = subst (λ (l : List (Option O)). Orderly Stands phase_of opening seats (Table.opening (0 ∷ front ∷ []) l (first_view opening seats))) (sym is)
        (opens Stands phase_of opening seats front h some_seat few same (omega (arith, front_is)))

module _ {O C R F : Type 0} (fixed : O → F) (steps : O → C → Result R OutOfMemory → O → Type 0) (phase_of : O → Phase) where
  -- the entry of a step, from what was kept of its call and answer
  pub stands : (u y : O) (by : ℕ) (call said : C) (reply answer : Result R OutOfMemory) (phase : Phase) → said ≡ call → answer ≡ reply → phase ≡ phase_of y → steps u call reply y → fixed y ≡ fixed u
      → ByStep fixed steps phase_of u (entry by said answer phase) y
  stands u y by call said reply answer phase call_is reply_is phase_is did same =
      subst (λ (z : C × Result R OutOfMemory). ByStep fixed steps phase_of u (entry by z.0 z.1 phase) y) (λ i. (sym call_is i, sym reply_is i)) (record { stepped = did; same = same; ends = sym phase_is })

  -- the object that is taken has the opening object's fixed part
  pub fits_object : (Fits : F → C → Type 0) (v : View O C R) (t : ℕ) (call : C) (opening : O) (m m1 : Me (Option O) (View O C R)) → v.opening ≡ Some opening → m ≡ (with_role v (Waits t), [])
      → Takes (ByStep fixed steps phase_of) t m.0 m1 → Fits (fixed opening) call → (object : O) → m1.0.role ≡ Serves t object → Fits (fixed object) call
  fits_object Fits v t call opening m m1 starts e takes fits object role =
      let x : O = takes.2 in let o : O = takes.3 in
      let first : o ≡ opening = ap (some_or o) (sym takes.6 ∙ (ap (λ (z : Me (Option O) (View O C R)). z.0.opening) e ∙ starts)) in
      let same : x ≡ object = ap (object_or x) (sym (ap (λ (z : Me (Option O) (View O C R)). z.0.role) takes.11) ∙ role) in
      subst (λ (f : F). Fits f call) (sym (runs_fixed fixed steps phase_of o takes.1 x takes.7 ∙ ap fixed first) ∙ ap fixed same) fits

  pub closed_fixed : (opening : O) (v : View O C R) (z : O) → Closes (ByStep fixed steps phase_of) opening (account v) z → fixed z ≡ fixed opening
  closed_fixed opening v z c = runs_fixed fixed steps phase_of opening c.history z c.legal
