-- What a filter leaves in the tray of a list that is lent to it.
use Rattle.std.proofs.Common.{◌≡◌, ℕ, ◌+◌, ◌≤◌, true, Option, Some, None, IsSome, refl, ap, ◌∙◌, subst, arith}
use Rattle.std.proofs.lemmas.Bool.{false≢true}
use Rattle.ndis_base.specs.declared.ListStatus.{ListStatus}
use Rattle.ndis_base.specs.declared.ModuleId.TheVariants.{Filter}
use Rattle.journal_types.specs.declared.Handler.TheVariants as handler
use Rattle.journal_types.specs.declared.Setup.{Setup}
use Rattle.buffer_pools.specs.Views.{ListView, PoolView}
use Rattle.stack_rules.specs.Places.{state_of}
use Rattle.stack_rules.specs.Tests.{is_running}
use Rattle.promise_rules.specs.declared.Called.TheVariants as called
use Rattle.driver_views.specs.States.{FilterState, called_for}
use Rattle.driver_tray.specs.Tray.{TrayView, given}
use Rattle.driver_calls.specs.declared.fates.LentFate.{LentFate}
use Rattle.driver_calls.specs.declared.fates.LentFate.TheVariants as fate
use Rattle.driver_calls.specs.Filters.{IsLentTo, HandlesLent}
use Rattle.driver_calls.specs.Filters.HandlesLent.{leaves, drops, lacks, copies}
use Rattle.lend_work.specs.Visits.{Meets, Visits, went_by, settled}
use Rattle.lend_work.specs.Visits.Meets.{takes, stops}

-- a set-up is there
pub record HasSetup (o : Option Setup) : Type 0 where
  pub setup : Setup
  pub is : o ≡ Some setup

pub has_setup : (o : Option Setup) → IsSome o → HasSetup o
has_setup None some = absurd (false≢true some)
has_setup (Some p) some = record { setup = p; is = refl }

rows_same : {t t' : TrayView} → t' ≡ t → t.room.rows ≤ t'.room.rows + 2
rows_same {t} {t'} e = let rows = ap (λ (x : TrayView). x.room.rows) e in omega (arith, rows)

-- a filter writes at most two rows
handled_rows : {p : Setup} {l : ListView} {t t' : TrayView} {became : LentFate} → HandlesLent p l t t' became → t.room.rows ≤ t'.room.rows + 2
handled_rows (leaves frames made same e) = rows_same e
handled_rows (drops made e) = rows_same e
handled_rows (lacks frames made other full e) = rows_same e
handled_rows (copies frames made other spare sized c) = let rows = ap (λ (x : TrayView). x.room.rows) c.tray in omega (arith, rows)

pub lent_rows : {s s' : FilterState} {l : ListView} {t t' : TrayView} {became : LentFate} → IsSome s.setup → IsLentTo s l t became s' t' → t.room.rows ≤ t'.room.rows + 2
lent_rows {s} some d = let p = has_setup s.setup some in handled_rows (d.by p.setup p.is)

settled_rows : (t : TrayView) (l : ListView) (became : LentFate) → t.room.rows ≤ (settled t l became).room.rows + 1
settled_rows t l fate.Left = omega arith
settled_rows t l fate.Dropped = omega arith
settled_rows t l fate.Lacking = omega arith
settled_rows t l fate.Copied = omega arith

-- a visit writes at most four rows
pub visited_rows : {f : ℕ} {l : ListView} {s s' : FilterState} {t t' : TrayView} {pool pool' : PoolView} {went : Option ListStatus} → IsSome s.setup → Visits f l s t pool went s' t' pool' → t.room.rows ≤ t'.room.rows + 4
visited_rows {f} {l} {s} {s'} {t} {t'} {pool} {pool'} {went} some v = by_meet v.meets
  where
    by_meet : Meets s l (record t { caller = Filter f; pool = pool }) went s' v.left → t.room.rows ≤ t'.room.rows + 4
    by_meet (takes runs k) =
        let lent = lent_rows some k.lent in
        let left = ap (λ (x : TrayView). x.room.rows) k.left_is in
        let out = ap (λ (x : TrayView). x.room.rows) v.tray in
        omega (arith, lent, settled_rows k.mid l k.became, left, out)
    by_meet (stops still same left_is went_is) =
        let left = ap (λ (x : TrayView). x.room.rows) left_is in
        let out = ap (λ (x : TrayView). x.room.rows) v.tray in
        omega (arith, left, out)

-- the filter runs and left the list as it is
pub record WentOn (f : ℕ) (l : ListView) (s : FilterState) (t : TrayView) (pool : PoolView) (s' : FilterState) (t' : TrayView) (pool' : PoolView) : Type 0 where
  pub runs : is_running (state_of t.net (Filter f)) ≡ true
  pub state : s' ≡ record s { did = called_for called.ReceiveLent s.did }
  pub left : (p : Setup) → s.setup ≡ Some p → HandlesLent p l (given (record t { caller = Filter f; pool = pool }) l.label.number handler.ReceiveLent) (given (record t { caller = Filter f; pool = pool }) l.label.number handler.ReceiveLent) fate.Left
  pub tray : t' ≡ record (given (record t { caller = Filter f; pool = pool }) l.label.number handler.ReceiveLent) { pool = t.pool }
  pub pool_is : pool' ≡ pool

left_same : {p : Setup} {l : ListView} {t t' : TrayView} → HandlesLent p l t t' fate.Left → t' ≡ t
left_same (leaves frames made same e) = e

pub went_on : {f : ℕ} {l : ListView} {s s' : FilterState} {t t' : TrayView} {pool pool' : PoolView} {went : Option ListStatus} → went ≡ None → IsSome s.setup → Visits f l s t pool went s' t' pool' → WentOn f l s t pool s' t' pool'
went_on {f} {l} {s} {s'} {t} {t'} {pool} {pool'} {went} none some v = by_meet v.meets
  where
    by_fate : (became : LentFate) (mid : TrayView) → is_running (state_of t.net (Filter f)) ≡ true → IsLentTo s l (given (record t { caller = Filter f; pool = pool }) l.label.number handler.ReceiveLent) became s' mid → v.left ≡ settled mid l became → went ≡ went_by became
        → WentOn f l s t pool s' t' pool'
    by_fate fate.Left mid runs d left_is went_is =
        let p = has_setup s.setup some in
        let same : mid ≡ given (record t { caller = Filter f; pool = pool }) l.label.number handler.ReceiveLent = left_same (d.by p.setup p.is) in
        record {
          runs = runs;
          state = d.same;
          left = λ q is. subst (λ (x : TrayView). HandlesLent q l (given (record t { caller = Filter f; pool = pool }) l.label.number handler.ReceiveLent) x fate.Left) same (d.by q is);
          tray = v.tray ∙ ap (λ (x : TrayView). record x { pool = t.pool }) (left_is ∙ same);
          pool_is = v.pool_is ∙ ap (λ (x : TrayView). x.pool) (left_is ∙ same);
        }
    by_fate fate.Dropped mid runs d left_is went_is = absurd (cc (none, went_is))
    by_fate fate.Lacking mid runs d left_is went_is = absurd (cc (none, went_is))
    by_fate fate.Copied mid runs d left_is went_is = absurd (cc (none, went_is))

    by_meet : Meets s l (record t { caller = Filter f; pool = pool }) went s' v.left → WentOn f l s t pool s' t' pool'
    by_meet (takes runs k) = by_fate k.became k.mid runs k.lent k.left_is k.went_is
    by_meet (stops still same left_is went_is) = absurd (cc (none, went_is))
