-- A hold filter was called for a cancel.
use Rattle.std.proofs.Common.{◌≡◌, ℕ, ◌<◌, true, [], ◌∷◌, Option, Some, None, IsSome, length, refl, sym, ap, ◌∙◌, subst, arith}
use Rattle.std.proofs.lemmas.List.Sums.{sum_by-cons}
use Rattle.ndis_base.specs.declared.ModuleId.TheVariants.{Filter}
use Rattle.journal_types.specs.declared.Setup.{Setup}
use Rattle.buffer_pools.specs.Views.{PoolView}
use Rattle.stack_rules.specs.declared.Attached.{Attached}
use Rattle.stack_rules.specs.Cancels.{hold_in, is_hold_filter, cancel_rows_at}
use Rattle.stack_rules.specs.Net.{attached}
use Rattle.stack_rules.specs.Tests.{is_hold}
use Rattle.state_laws.proofs.Takes.{attached-is}
use Rattle.driver_views.specs.States.{FilterState}
use Rattle.driver_tray.specs.Tray.{TrayView}
use Rattle.driver_calls.specs.Filters.{Cancels, MayGiveAll}
use Rattle.book_lemmas.specs.Called.{SitsAt, filter_called}
use Rattle.book_lemmas.specs.Stands.{IsSeated}
use Rattle.book_lemmas.specs.Views.{BookView, HeldView, filter_at, pool_at, seat_of, held_pool, kept_of}
use Rattle.book_lemmas.proofs.Called.{sits_at, filter_is_called, filter_leaves}
use Rattle.call_lemmas.specs.Served.{Counts}
use Rattle.call_lemmas.proofs.Served.{counts_none, did_filter}
use Rattle.book_parts.specs.Events.{IsBook}
use Rattle.book_parts.proofs.Events.{Ends, begins_called, ends_call}
use Rattle.drain_work.specs.Drains.{called_with}
use Rattle.drain_work.proofs.Sames.{book_is, same_self}
use Rattle.cancel_work.specs.Cancels.{HasRoomToCancel, FilterTurns, CancelledAt}
use Rattle.cancel_work.proofs.Turned.{Turned, turned, cancelled_at_end}

-- a hold filter is attached, and its driver has a place
pub record IsHolder (v : BookView) (f : ℕ) : Type 0 where
  pub place : ℕ
  pub seat : seat_of v.held.seats f ≡ Some place
  pub hold : is_hold (filter_at v.held.filters (Some place)).kind ≡ true
  pub setup : IsSome (filter_at v.held.filters (Some place)).setup

is_some : (o : Option Setup) (p : Setup) → o ≡ Some p → IsSome o
is_some o p e = subst IsSome (sym e) refl

pub holder : (v : BookView) (f : ℕ) → IsBook v → is_hold_filter v.tray.net.modules f ≡ true → IsHolder v f
holder v f k hold = by (attached f v.tray.net.modules.filters) refl
  where
    by : (o : Option Attached) → attached f v.tray.net.modules.filters ≡ o → IsHolder v f
    by None e = let no_hold = ap hold_in e in cc (no_hold, hold)
    by (Some a) e =
        let s : IsSeated v.held a = k.stands.seated f a e in
        let number : a.filter ≡ f = attached-is f v.tray.net.modules.filters a e in
        record {
          place = s.place;
          seat = ap (seat_of v.held.seats) (sym number) ∙ s.seat;
          hold = ap is_hold s.kind ∙ sym (ap hold_in e) ∙ hold;
          setup = is_some (filter_at v.held.filters (Some s.place)).setup a.setup s.setup;
        }

pub has_seat : (v : BookView) (f : ℕ) → IsBook v → is_hold_filter v.tray.net.modules f ≡ true → seat_of v.held.seats f ≡ None → ⊥
has_seat v f k hold none = let h = holder v f k hold in cc (none, h.seat)

same_some : (p q : ℕ) → Some p ≡ Some q → p ≡ q
same_some p q e = cc

-- the filter may be called
pub record MayCall (v : BookView) (f place : ℕ) : Type 0 where
  pub driver : place < length v.held.filters
  pub pool : place < length v.held.filter_pools
  pub may : MayGiveAll (filter_at v.held.filters (Some place)) v.tray
  pub hold : is_hold (filter_at v.held.filters (Some place)).kind ≡ true

pub may_call : (v : BookView) (f place : ℕ) → IsBook v → is_hold_filter v.tray.net.modules f ≡ true → HasRoomToCancel v (Filter f ∷ []) → seat_of v.held.seats f ≡ Some place → MayCall v f place
may_call v f place k hold room seat =
    let h : IsHolder v f = holder v f k hold in
    let same : h.place ≡ place = same_some h.place place (sym h.seat ∙ seat) in
    let kept : length (kept_of v.held (Filter f)) ≡ length (filter_at v.held.filters (Some place)).kept = ap (λ o. length (filter_at v.held.filters o).kept) seat in
    let one = sum_by-cons (λ m. length (kept_of v.held m)) (Filter f) [] in
    record {
      driver = (k.stands.places f place seat).driver;
      pool = (k.stands.places f place seat).pool;
      may = record {
        setup = subst (λ p. IsSome (filter_at v.held.filters (Some p)).setup) same h.setup;
        room = record { rows = omega (arith, room.rows, one, kept); slack = omega (arith, room.slack, one, kept) };
      };
      hold = subst (λ p. is_hold (filter_at v.held.filters (Some p)).kind ≡ true) same h.hold;
    }

module _ (old : BookView) (f place id n : ℕ) (k : IsBook old) (seat : seat_of old.held.seats f ≡ Some place) where
  abbrev s : FilterState
  s = filter_at old.held.filters (Some place)

  sits : SitsAt old.held f place
  sits = sits_at k.stands f place seat

  cancels : (s' : FilterState) (left : TrayView) → Cancels s.kept id (called_with old.tray (Filter f) (pool_at old.held.filter_pools (Some place))) s'.kept left
      → Cancels (kept_of old.held (Filter f)) id (called_with old.tray (Filter f) (held_pool old.held (Filter f))) s'.kept left
  cancels s' left c = subst (λ o. Cancels (filter_at old.held.filters o).kept id (called_with old.tray (Filter f) (pool_at old.held.filter_pools o)) s'.kept left) (sym seat) c

  counted : (s' : FilterState) (m : ℕ) → m ≡ length s.kept → m ≡ length (kept_of old.held (Filter f))
  counted s' m e = e ∙ sym (ap (λ o. length (filter_at old.held.filters o).kept) seat)

  ended : (s' : FilterState) (left : TrayView) → s' ≡ record s { kept = s'.kept } → Turned old (Filter f) id n s'.kept left
      → Ends old (record { tray = record left { pool = old.tray.pool }; held = filter_called old.held place s' left.pool }) (cancel_rows_at old.tray.net id (Filter f))
  ended s' left same d =
      ends_call (filter_called old.held place s' left.pool) old.tray.pool k (begins_called (Filter f) (held_pool old.held (Filter f)) (same_self old).tray) d.call
      (filter_is_called old.held f place s' left.pool sits)
      (filter_leaves old.held f place s' left.pool sits (ap (λ (x : FilterState). x.kind) same) (ap (λ (x : FilterState). x.setup) same) d.call.size d.call.bytes)
      k.stands.ring
      (did_filter old.held place s' left.pool d.call sits tt (subst (λ (x : FilterState). Counts (Filter f) [] [] s.did x.did) (sym same) (counts_none (Filter f) s.did))
      (ap (λ (x : FilterState). x.kind) same) (let rose = ap (λ (x : FilterState). x.refusals) same in omega (arith, rose)))

pub filter_cancelled : (old new : BookView) (f place id n : ℕ) (s' : FilterState) (pool' : PoolView) → IsBook old → seat_of old.held.seats f ≡ Some place
    → FilterTurns f id (filter_at old.held.filters (Some place)) old.tray (pool_at old.held.filter_pools (Some place)) n s' new.tray pool' → new.held ≡ filter_called old.held place s' pool' → CancelledAt old new id (Filter f) n
filter_cancelled old new f place id n s' pool' k seat t held =
    let left : TrayView = t.turns.left in
    let held' : HeldView = filter_called old.held place s' left.pool in
    let d : Turned old (Filter f) id n s'.kept left = turned old (Filter f) id n s'.kept left k (cancels old f place id n k seat s' left t.turns.cancels) (counted old f place id n k seat s' _ t.turns.count) in
    subst (λ (v : BookView). CancelledAt old v id (Filter f) n) (book_is t.turns.tray (held ∙ ap (filter_called old.held place s') t.turns.pool_is))
    (cancelled_at_end old (Filter f) id n s'.kept left (record left { pool = old.tray.pool }) held' k d (filter_is_called old.held f place s' left.pool (sits old f place id n k seat)) refl refl refl
    (ended old f place id n k seat s' left t.same d))

-- the same of the driver at a place
pub turns_at : (f id n : ℕ) (s q s' q' : FilterState) (t : TrayView) (pool from : PoolView) (t' : TrayView) (pool' from' : PoolView) → q ≡ s → q' ≡ s' → from ≡ pool → from' ≡ pool'
    → FilterTurns f id s t pool n s' t' pool' → FilterTurns f id q t from n q' t' from'
turns_at f id n s q s' q' t pool from t' pool' from' e g k l h =
    subst (λ x. FilterTurns f id x t from n q' t' from') (sym e)
    (subst (λ x. FilterTurns f id s t from n x t' from') (sym g)
    (subst (λ x. FilterTurns f id s t x n s' t' from') (sym k)
    (subst (λ x. FilterTurns f id s t pool n s' t' x) (sym l) h)))
