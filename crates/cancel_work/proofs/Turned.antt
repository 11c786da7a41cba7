-- A module was called for a cancel: its rows are those of the rules, and nothing else changed.
use Rattle.std.proofs.Common.{◌≡◌, ℕ, ◌+◌, ◌≤◌, not, Bool, List, [], ◌++◌, flat_map, length, filter, refl, sym, ap, ◌∙◌, subst, arith}
use Rattle.std.proofs.lemmas.List.Filters.{length-filter_both}
use Rattle.ndis_base.specs.declared.ListStatus.TheVariants.{Aborted}
use Rattle.ndis_base.specs.declared.ModuleId.{ModuleId}
use Rattle.journal_types.specs.declared.Row.{Row}
use Rattle.journal_types.specs.declared.StackHead.{StackHead}
use Rattle.buffer_pools.specs.Views.{ListView}
use Rattle.stack_rules.specs.Cancels.{cancelled_at, cancel_rows_at}
use Rattle.stack_rules.specs.Net.{Net}
use Rattle.agenda_items.specs.Waits.{waits_at}
use Rattle.hand_lemmas.specs.Hands.{Hands}
use Rattle.hand_lemmas.proofs.Modules.{put_there}
use Rattle.driver_tray.specs.Tray.{TrayView, each_turned_back}
use Rattle.driver_calls.specs.Filters.{is_cancelled, Cancels}
use Rattle.book_lemmas.specs.Called.{IsCalled}
use Rattle.book_lemmas.specs.Follows.{Follows}
use Rattle.book_lemmas.specs.Views.{BookView, HeldView, kept_of, held_pool, hands_of}
use Rattle.book_lemmas.proofs.Follows.{follows_rows}
use Rattle.call_lemmas.specs.InCall.{InCall}
use Rattle.call_lemmas.proofs.Miniports.{calm_in}
use Rattle.book_parts.specs.Events.{IsBook}
use Rattle.book_parts.proofs.Events.{Ends}
use Rattle.drain_work.specs.Drains.{called_with}
use Rattle.drain_work.proofs.Emptied.{begins_tick}
use Rattle.drain_work.proofs.Sames.{same_self}
use Rattle.cancel_work.specs.Cancels.{CancelledAt}
use Rattle.cancel_work.proofs.EachBack.{BackRoom, back_by, in_each_back, room_each, waits_each}
use Rattle.cancel_work.proofs.Ready.{cancel_rows, cancel_count, cancelled_ready}

-- what the module did
pub record Turned (old : BookView) (m : ModuleId) (id n : ℕ) (kept' : List ListView) (left : TrayView) : Type 0 where
  pub call : InCall (called_with old.tray m (held_pool old.held m)) (hands_of old.tray.queue old.held []) m (cancel_rows_at old.tray.net id m) [] [] left (record { front = []; loose = []; kept = kept' })
  pub count : n ≡ length (cancelled_at old.tray.net id m)
  pub most : n ≤ length (kept_of old.held m)
  pub fewer : length kept' ≤ length (kept_of old.held m)
  pub waits : (k : ℕ) → waits_at left.net k ≡ waits_at old.tray.net k
  pub room : BackRoom old.tray n left

pub turned : (old : BookView) (m : ModuleId) (id n : ℕ) (kept' : List ListView) (left : TrayView) → IsBook old → Cancels (kept_of old.held m) id (called_with old.tray m (held_pool old.held m)) kept' left
    → n + length kept' ≡ length (kept_of old.held m) → Turned old m id n kept' left
turned old m id n kept' left k c count =
    let b : TrayView = called_with old.tray m (held_pool old.held m) in
    let h : Hands = hands_of old.tray.queue old.held [] in
    let kept : List ListView = kept_of old.held m in
    let p : ListView → Bool = is_cancelled old.tray.net id in
    let parts : length (filter p kept) + length (filter (λ l. not (p l)) kept) ≡ length kept = length-filter_both p (λ l. not (p l)) (λ l. refl) kept in
    let stayed : length kept' ≡ length (filter (λ l. not (p l)) kept) = ap length c.kept_are in
    let many : n ≡ length (filter p kept) = omega (arith, parts, stayed, count) in
    let room : BackRoom b (length (filter p kept)) (each_turned_back b (filter p kept) Aborted) = room_each b (filter p kept) Aborted in
    let rows : left.room.rows ≡ (each_turned_back b (filter p kept) Aborted).room.rows = ap (λ (t : TrayView). t.room.rows) c.tray in
    let slack : left.slack ≡ (each_turned_back b (filter p kept) Aborted).slack = ap (λ (t : TrayView). t.slack) c.tray in
    record {
      call = subst (λ rs. InCall b h m rs [] [] left (record { front = []; loose = []; kept = kept' })) (cancel_rows old.tray.net h m id kept k.stands.agrees refl)
          (subst (λ (t : TrayView). InCall b h m (flat_map (back_by b m Aborted) (filter p kept)) [] [] t (record { front = []; loose = []; kept = kept' })) (sym c.tray)
          (subst (λ ks. InCall b h m (flat_map (back_by b m Aborted) (filter p kept)) [] [] (each_turned_back b (filter p kept) Aborted) (record { front = []; loose = []; kept = ks })) (sym c.kept_are)
          (in_each_back Aborted p [] kept (begins_tick m k (same_self old).tray))));
      count = many ∙ cancel_count old.tray.net h m id kept k.stands.agrees refl;
      most = omega (arith, count);
      fewer = omega (arith, count);
      waits = λ j. ap (λ (t : TrayView). waits_at t.net j) c.tray ∙ waits_each b Aborted p kept k.stands.agrees.numbered (λ l e. cancelled_ready old.tray.net id l e) j;
      room = record { rows = omega (arith, room.rows, rows, many); slack = omega (arith, room.slack, slack, many) };
    }

-- a book that stands and follows the journal does so after more rows
pub book_after : (old new : BookView) (rows : List Row) → IsBook old → Ends old new rows → IsBook new
book_after old new rows k d =
    let f : Follows old.tray.head old.tray.turns old.tray.told_by new.tray.net (old.tray.rows ++ rows) = follows_rows rows k.follows d.net in
    record {
      stands = d.stands;
      follows = subst (λ rs. Follows new.tray.head new.tray.turns new.tray.told_by new.tray.net rs) (sym d.rows_are)
          (subst (λ o. Follows new.tray.head new.tray.turns o new.tray.net (old.tray.rows ++ rows)) (sym d.told_by)
          (subst (λ ts. Follows new.tray.head ts old.tray.told_by new.tray.net (old.tray.rows ++ rows)) (sym d.turns)
          (subst (λ h. Follows h old.tray.turns old.tray.told_by new.tray.net (old.tray.rows ++ rows)) (sym d.head) f)));
      bound = subst (λ (h : StackHead). 1 ≤ length h.bindings) (sym d.head) k.bound;
    }

-- the pool is out of the tray again
pub cancelled_at_end : (old : BookView) (m : ModuleId) (id n : ℕ) (kept' : List ListView) (left t' : TrayView) (held : HeldView) → IsBook old → Turned old m id n kept' left → IsCalled old.held held m kept' left.pool
    → held.shelf ≡ old.held.shelf → held.seats ≡ old.held.seats → t' ≡ record left { pool = old.tray.pool } → Ends old (record { tray = t'; held = held }) (cancel_rows_at old.tray.net id m)
    → CancelledAt old (record { tray = t'; held = held }) id m n
cancelled_at_end old m id n kept' left t' held k d c shelf seats tray ends =
    let rows : t'.room.rows ≡ left.room.rows = ap (λ (t : TrayView). t.room.rows) tray in
    let slack : t'.slack ≡ left.slack = ap (λ (t : TrayView). t.slack) tray in
    let net : t'.net ≡ left.net = ap (λ (t : TrayView). t.net) tray in
    record {
      book = book_after old (record { tray = t'; held = held }) (cancel_rows_at old.tray.net id m) k ends;
      ends = ends;
      count = d.count;
      most = d.most;
      others = λ j other. c.kept_is j ∙ put_there m kept' (kept_of old.held) j other;
      waits = λ j. ap (λ (x : Net). waits_at x j) net ∙ d.waits j;
      modules = ap (λ (x : Net). x.modules) net ∙ (calm_in d.call).modules;
      rows = omega (arith, d.room.rows, rows);
      slack = omega (arith, d.room.slack, slack);
      shelf = shelf;
      seats = seats;
    }
