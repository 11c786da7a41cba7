-- A module was told to give away what it keeps ready: the rows are those of the rules, and where there are none nothing
-- was moved.
use Rattle.std.proofs.Common.{◌≡◌, ◌≢◌, ◌+◌, ◌≤◌, not, Bool, true, false, List, [], ◌∷◌, length, map, filter, is_some, refl, sym, ap, ◌∙◌, subst, arith}
use Rattle.std.proofs.lemmas.List.{length-map, nil_from_length}
use Rattle.std.proofs.lemmas.List.Elements.{All-nil}
use Rattle.ndis_base.specs.declared.ListStatus.{ListStatus}
use Rattle.ndis_base.specs.declared.ModuleId.{ModuleId}
use Rattle.journal_types.specs.declared.Row.{Row}
use Rattle.buffer_pools.specs.Views.{ListView, PoolView}
use Rattle.stack_rules.specs.declared.LiveList.{LiveList}
use Rattle.stack_rules.specs.Net.{Net}
use Rattle.stack_rules.specs.Places.{ready_lists}
use Rattle.hand_lemmas.specs.Hands.{Common, Hands, in_state, in_hand, ready_of}
use Rattle.agenda_items.specs.declared.Carried.{Carried}
use Rattle.agenda_items.specs.declared.Carried.TheVariants.{List as a_list, Status as a_status, Answer as an_answer}
use Rattle.driver_tray.specs.Tray.{TrayView, first_way, each_passed_on, each_passed_back}
use Rattle.driver_calls.specs.Filters.{is_ready}
use Rattle.book_lemmas.specs.Called.{IsCalled}
use Rattle.book_lemmas.specs.Did.{Did}
use Rattle.book_lemmas.specs.Leaves.{Leaves}
use Rattle.book_lemmas.specs.Stands.{IsCarriedSized}
use Rattle.book_lemmas.specs.Views.{BookView, HeldView, kept_of, held_pool, hands_of}
use Rattle.call_lemmas.specs.InCall.{InCall}
use Rattle.call_lemmas.proofs.Ends.{enters}
use Rattle.book_parts.specs.Events.{IsBook}
use Rattle.book_parts.proofs.Events.{Begins, Ends, begins_called, begins_stands, ends_call}
use Rattle.drain_work.specs.Drains.{called_with, IsResting, IsSame, Gives}
use Rattle.drain_work.proofs.EachGiven.{on_by, home_by, in_each_on, in_each_home, many_on, many_home, all_left}

-- what the module did
pub record Empties (b : TrayView) (h : Hands) (m : ModuleId) (kept kept' : List ListView) (left : TrayView) (rows : List Row) : Type 0 where
  pub call : InCall b h m rows [] [] left (record { front = []; loose = []; kept = kept' })
  pub many : length left.queue ≡ length b.queue + length rows
  pub same : rows ≡ [] → (kept' ≡ kept) × (left ≡ b)

differ : (b : Bool) → b ≡ false → b ≡ true → ⊥
differ true e f = cc
differ false e f = cc

no_map : (f : ListView → Row) (ls : List ListView) → map f ls ≡ [] → ls ≡ []
no_map f [] e = refl
no_map f (l ∷ ls) e = absurd cc

pub empties_on : (b : TrayView) (h : Hands) (m : ModuleId) (p : ListView → Bool) (kept kept' : List ListView) (left : TrayView) (rows : List Row) → InCall b h m [] [] [] b (record { front = []; loose = []; kept = kept })
    → kept' ≡ filter (λ l. not (p l)) kept → left ≡ each_passed_on b (filter p kept) → map (on_by b m) (filter p kept) ≡ rows → Empties b h m kept kept' left rows
empties_on b h m p kept kept' left rows i kept_is left_is are =
    let none : rows ≡ [] → filter p kept ≡ [] = λ e. no_map (on_by b m) (filter p kept) (are ∙ e) in
    record {
      call = subst (λ rs. InCall b h m rs [] [] left (record { front = []; loose = []; kept = kept' })) are
          (subst (λ ks. InCall b h m (map (on_by b m) (filter p kept)) [] [] left (record { front = []; loose = []; kept = ks })) (sym kept_is)
          (subst (λ (t : TrayView). InCall b h m (map (on_by b m) (filter p kept)) [] [] t (record { front = []; loose = []; kept = filter (λ l. not (p l)) kept })) (sym left_is) (in_each_on p [] kept i)));
      many = ap (λ (t : TrayView). length t.queue) left_is ∙ many_on b (filter p kept)
          ∙ ap (λ n. length b.queue + n) (sym (length-map (filter p kept) (on_by b m)) ∙ ap length are);
      same = λ e. (kept_is ∙ all_left p kept (none e), left_is ∙ ap (each_passed_on b) (none e));
    }

pub empties_home : (b : TrayView) (h : Hands) (m : ModuleId) (status : ListStatus) (p : ListView → Bool) (kept kept' : List ListView) (left : TrayView) (rows : List Row) → InCall b h m [] [] [] b (record { front = []; loose = []; kept = kept })
    → kept' ≡ filter (λ l. not (p l)) kept → left ≡ each_passed_back b (filter p kept) status → map (home_by b m status) (filter p kept) ≡ rows → Empties b h m kept kept' left rows
empties_home b h m status p kept kept' left rows i kept_is left_is are =
    let none : rows ≡ [] → filter p kept ≡ [] = λ e. no_map (home_by b m status) (filter p kept) (are ∙ e) in
    record {
      call = subst (λ rs. InCall b h m rs [] [] left (record { front = []; loose = []; kept = kept' })) are
          (subst (λ ks. InCall b h m (map (home_by b m status) (filter p kept)) [] [] left (record { front = []; loose = []; kept = ks })) (sym kept_is)
          (subst (λ (t : TrayView). InCall b h m (map (home_by b m status) (filter p kept)) [] [] t (record { front = []; loose = []; kept = filter (λ l. not (p l)) kept })) (sym left_is) (in_each_home status p [] kept i)));
      many = ap (λ (t : TrayView). length t.queue) left_is ∙ many_home b (filter p kept) status
          ∙ ap (λ n. length b.queue + n) (sym (length-map (filter p kept) (home_by b m status)) ∙ ap length are);
      same = λ e. (kept_is ∙ all_left p kept (none e), left_is ∙ ap (λ ls. each_passed_back b ls status) (none e));
    }

pub empties_none : (b : TrayView) (h : Hands) (m : ModuleId) (kept kept' : List ListView) (left : TrayView) (rows : List Row) → InCall b h m [] [] [] b (record { front = []; loose = []; kept = kept })
    → kept' ≡ kept → left ≡ b → rows ≡ [] → Empties b h m kept kept' left rows
empties_none b h m kept kept' left rows i kept_is left_is none = record {
  call = subst (λ rs. InCall b h m rs [] [] left (record { front = []; loose = []; kept = kept' })) (sym none)
      (subst (λ ks. InCall b h m [] [] [] left (record { front = []; loose = []; kept = ks })) (sym kept_is)
      (subst (λ (t : TrayView). InCall b h m [] [] [] t (record { front = []; loose = []; kept = kept })) (sym left_is) i));
  many =
      let so : length left.queue ≡ length b.queue = ap (λ (t : TrayView). length t.queue) left_is in
      let none_of : length rows ≡ 0 = ap length none in
      omega (arith, so, none_of);
  same = λ e. (kept_is, left_is);
}

-- what is ready in hand is what the rules say is ready
pub ready_rows : (net : Net) (h : Hands) (m : ModuleId) (kept : List ListView) (row_of : Common → Row) → map in_hand (ready_of net h m) ≡ map in_state (ready_lists net m) → h.kept m ≡ kept
    → map (λ l. row_of (in_hand l)) (filter (is_ready net) kept) ≡ map (λ x. row_of (in_state x)) (ready_lists net m)
ready_rows net h m kept row_of ready is =
    hands (filter (is_ready net) kept)
    ∙ ap (λ ls. map row_of (map in_hand (filter (is_ready net) ls))) (sym is)
    ∙ ap (map row_of) ready
    ∙ sym (states (ready_lists net m))
  where
    hands : (ls : List ListView) → map (λ l. row_of (in_hand l)) ls ≡ map row_of (map in_hand ls)
    hands [] = refl
    hands (l ∷ ls) = ap (λ rs. row_of (in_hand l) ∷ rs) (hands ls)

    states : (xs : List LiveList) → map (λ x. row_of (in_state x)) xs ≡ map row_of (map in_state xs)
    states [] = refl
    states (x ∷ xs) = ap (λ rs. row_of (in_state x) ∷ rs) (states xs)

-- the module is called where nothing is on its way
pub begins_tick : {old : BookView} {t : TrayView} (m : ModuleId) → IsBook old → Begins old.tray t []
    → InCall (called_with t m (held_pool old.held m)) (hands_of t.queue old.held []) m [] [] [] (called_with t m (held_pool old.held m)) (record { front = []; loose = []; kept = kept_of old.held m })
begins_tick {old} {t} m k g =
    let s = begins_stands k (begins_called m (held_pool old.held m) g) in
    enters (called_with t m (held_pool old.held m)) old.held m [] [] s refl refl (All-nil IsCarriedSized) s.sized.carried

-- whether anything is on its way
pub still_is : (moved : Bool) (queue : List Carried) → moved ≡ is_some (first_way queue) → moved ≡ false → queue ≡ []
still_is moved [] e f = refl
still_is moved (a_list l way to ∷ rest) e f = absurd (differ moved f e)
still_is moved (a_status s ∷ rest) e f = absurd (differ moved f e)
still_is moved (an_answer a ∷ rest) e f = absurd (differ moved f e)

pub moves_is : (moved : Bool) (queue : List Carried) → moved ≡ is_some (first_way queue) → moved ≡ true → queue ≢ []
moves_is moved queue e f none = differ moved (e ∙ ap (λ q. is_some (first_way q)) none) f

-- the call is over
pub record IsTicked (old : BookView) (begun : TrayView) (m : ModuleId) (held : HeldView) (kept' : List ListView) (left : TrayView) (rows : List Row) : Type 0 where
  pub did : Empties (called_with begun m (held_pool old.held m)) (hands_of begun.queue old.held []) m (kept_of old.held m) kept' left rows
  pub called : IsCalled old.held held m kept' left.pool
  pub leaves : Leaves old.held held
  pub ring : length held.miniport.kept ≤ old.tray.net.head.port.ring
  pub served : Did old.held.seats old.held held (called_with begun m (held_pool old.held m)).net rows
  pub unchanged : kept' ≡ kept_of old.held m → left.pool ≡ held_pool old.held m → held ≡ old.held

pub ticked_gives : (old : BookView) (begun left t' : TrayView) (m : ModuleId) (held : HeldView) (kept' : List ListView) (rows : List Row) (moved : Bool) → IsResting old → Begins old.tray begun [] → 1 ≤ begun.room.turns
    → IsTicked old begun m held kept' left rows → t' ≡ record left { pool = begun.pool } → (moved ≡ false → left.queue ≡ []) → (moved ≡ true → left.queue ≢ [])
    → Gives old (record { tray = t'; held = held }) rows moved
ticked_gives old begun left t' m held kept' rows moved r g turns d tray_is still moves =
    let pool : PoolView = held_pool old.held m in
    let b : TrayView = called_with begun m pool in
    let empty : b.queue ≡ [] = sym g.queue ∙ r.quiet in
    let nothing : moved ≡ false → rows ≡ [] = λ e. no_rows (ap length (sym (still e)) ∙ d.did.many) in
    record {
      none = nothing;
      still = λ e. same (d.did.same (nothing e));
      gave = λ e. record {
        some = λ f. moves e (ap (λ (t : TrayView). t.queue) (d.did.same f).1 ∙ empty);
        ends = subst (λ (t : TrayView). Ends old (record { tray = t; held = held }) rows) (sym tray_is)
            (ends_call held begun.pool r.book (begins_called m pool g) d.did.call d.called d.leaves d.ring d.served);
        turn = record { room = omega (arith, turns, d.did.call.used.turns, ap (λ (t : TrayView). t.room.turns) tray_is) };
        shelf = d.leaves.shelf;
        seats = d.leaves.seats;
      };
    }
  where
    no_rows : 0 ≡ length begun.queue + length rows → rows ≡ []
    no_rows e = nil_from_length rows (omega (arith, e))

    same : (kept' ≡ kept_of old.held m) × (left ≡ called_with begun m (held_pool old.held m)) → IsSame old (record { tray = t'; held = held })
    same e =
        let back : t' ≡ record begun { caller = m } = tray_is ∙ ap (λ (t : TrayView). record t { pool = begun.pool }) e.1 in
        record {
          tray = subst (λ (t : TrayView). Begins old.tray t []) (sym back) (begins_called m begun.pool g);
          held = d.unchanged e.0 (ap (λ (t : TrayView). t.pool) e.1);
        }
