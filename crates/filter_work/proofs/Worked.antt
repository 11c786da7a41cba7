-- What a filter did with the list that it was given, in the words of the rules: its rows, its calls and its counts.
use Rattle.std.proofs.Common.{◌≡◌, ℕ, Bool, true, false, List, [], ◌∷◌, Option, Some, IsSome, refl, sym, ap, ◌∙◌, subst, arith, ◌≤◌}
use Rattle.std.proofs.lemmas.Bool.{cond-true, cond-false}
use Rattle.ndis_base.specs.declared.Direction.{Direction}
use Rattle.ndis_base.specs.declared.Direction.TheVariants as direction
use Rattle.ndis_base.specs.declared.ListStatus.{ListStatus}
use Rattle.ndis_base.specs.declared.ListStatus.TheVariants.{Paused}
use Rattle.ndis_base.specs.declared.ModuleId.TheVariants.{Filter}
use Rattle.journal_types.specs.declared.Handler.{Handler}
use Rattle.journal_types.specs.declared.Handler.TheVariants as handler
use Rattle.journal_types.specs.declared.PassWay.{PassWay}
use Rattle.journal_types.specs.declared.PassWay.TheVariants as way
use Rattle.journal_types.specs.declared.Target.TheVariants.{Module}
use Rattle.buffer_pools.specs.Views.{ListView}
use Rattle.stack_rules.specs.declared.Attached.{Attached}
use Rattle.stack_rules.specs.declared.LiveList.{LiveList}
use Rattle.stack_rules.specs.declared.Stand.{Stand}
use Rattle.stack_rules.specs.declared.Stand.TheVariants as stand
use Rattle.stack_rules.specs.Dones.{completed_by, homeward_rows}
use Rattle.stack_rules.specs.Handled.{given_by, filter_rows}
use Rattle.stack_rules.specs.Net.{Net, attached}
use Rattle.stack_rules.specs.Places.{pool_of, state_in, state_of}
use Rattle.stack_rules.specs.Pumps.{moved_rows}
use Rattle.stack_rules.specs.Receives.{up_at_filter}
use Rattle.stack_rules.specs.Sends.{at_filter}
use Rattle.stack_rules.specs.Tests.{is_running}
use Rattle.promise_rules.specs.declared.Call.{Call}
use Rattle.promise_rules.specs.declared.Called.{Called}
use Rattle.promise_rules.specs.declared.Called.TheVariants as called
use Rattle.promise_rules.specs.Calls.{call, called_by, home_call}
use Rattle.agenda_items.specs.declared.Carried.TheVariants.{List as a_list}
use Rattle.hand_lemmas.specs.Hands.{Common, Hands, in_state, in_hand}
use Rattle.driver_views.specs.States.{Record, FilterState, called_for}
use Rattle.driver_tray.specs.Tray.{TrayView, given, turned_back}
use Rattle.driver_calls.specs.Filters.{Handles, IsHandled, Completes}
use Rattle.book_lemmas.specs.Views.{HeldView}
use Rattle.call_lemmas.specs.InCall.{InCall}
use Rattle.call_lemmas.specs.Served.{AreCallsOf, Counts}
use Rattle.call_lemmas.proofs.Filters.{back_rows, full_in, in_handled, in_back}
use Rattle.call_lemmas.proofs.Homewards.{in_passed_home, in_completed}
use Rattle.call_lemmas.proofs.Served.{counts_none, counts_call}
use Rattle.filter_work.specs.Works.{Climbs, GoesHome, Takes}
use Rattle.filter_work.specs.Works.Climbs.{rises, stops}
use Rattle.filter_work.specs.Works.GoesHome.{returns, ends}
use Rattle.filter_work.proofs.Asked.{IsFor}

-- the rows are those of the rules, the calls are the filter's, and it counted them
pub record IsWorked (b : TrayView) (h : Hands) (f : ℕ) (x : LiveList) (s s' : FilterState) (left : TrayView) : Type 0 where
  pub keeps : Bool
  pub calls : List Call
  pub call_is : InCall b h (Filter f) (moved_rows b.net x x.stand keeps) calls [] left (record { front = []; loose = []; kept = s'.kept })
  pub own : AreCallsOf (Filter f) calls
  pub counts : Counts (Filter f) calls [] s.did s'.did
  pub kind : s'.kind ≡ s.kind
  pub setup : s'.setup ≡ s.setup
  pub refusals : s.refusals ≤ s'.refusals

down_rows_are : (net : Net) (x : LiveList) (f : ℕ) (a : Attached) (keeps : Bool) → x.stand ≡ stand.Passed way.Down (Module (Filter f)) → attached f net.modules.filters ≡ Some a → filter_rows net a x keeps ≡ moved_rows net x x.stand keeps
down_rows_are net x f a keeps e there = ap (λ (o : Option Attached). at_filter net o x keeps) (sym there) ∙ ap (λ (s : Stand). moved_rows net x s keeps) (sym e)

-- the call was counted once
counted : (f : ℕ) (what : Called) (s s' : FilterState) → s' ≡ record s { did = called_for what s.did; kept = s'.kept } → Counts (Filter f) (call (Filter f) what) [] s.did s'.did
counted f what s s' same = subst (λ (r : Record). Counts (Filter f) (call (Filter f) what) [] s.did r) (ap (λ (y : FilterState). y.did) (sym same)) (counts_call (Filter f) what s.did)

handled : {b : TrayView} {h : Hands} {held : HeldView} {f : ℕ} {by : PassWay} {l : ListView} {s s' : FilterState} {left : TrayView} (what : Called) (way_of : Direction) (k : IsFor b.net held by l f)
    → InCall b h (Filter f) [] [] [] b (record { front = a_list l by (Module (Filter f)) ∷ []; loose = []; kept = s.kept }) → l.label.direction ≡ way_of → called_by (given_by way_of) ≡ what
    → ((keeps : Bool) → filter_rows b.net k.at.a k.x keeps ≡ moved_rows b.net k.x k.x.stand keeps) → s.kind ≡ k.at.a.kind → s.setup ≡ Some k.at.a.setup → pool_of b.net (Filter f) ≡ b.pool.size
    → IsHandled what s l (given b l.label.number (given_by way_of)) s' left → IsWorked b h f k.x s s' left
handled {b} {h} {held} {f} {by} {l} {s} {s'} {left} what way_of k i goes is rows kind setup size d =
    let did = in_handled l by (Module (Filter f)) s k.at.a k.x i (record { number = k.at.number; kind = kind; same = k.same }) (full_in i size)
    (subst (λ w. Handles s k.at.a.setup l (given b l.label.number (given_by w)) s'.kept left) (sym goes) (d.by k.at.a.setup setup)) in
    let calls : call (Filter f) (called_by (given_by l.label.direction)) ≡ call (Filter f) what = ap (λ w. call (Filter f) (called_by (given_by w))) goes ∙ ap (call (Filter f)) is in
    record {
      keeps = did.keeps;
      calls = call (Filter f) what;
      call_is =
          subst (λ cs. InCall b h (Filter f) (moved_rows b.net k.x k.x.stand did.keeps) cs [] left (record { front = []; loose = []; kept = s'.kept })) calls
          (subst (λ rs. InCall b h (Filter f) rs (call (Filter f) (called_by (given_by l.label.direction))) [] left (record { front = []; loose = []; kept = s'.kept })) (rows did.keeps) did.call_is);
      own = (refl, tt);
      counts = counted f what s s' d.same;
      kind = ap (λ (y : FilterState). y.kind) d.same;
      setup = ap (λ (y : FilterState). y.setup) d.same;
      refusals = let rose = ap (λ (y : FilterState). y.refusals) d.same in omega (arith, rose);
    }

-- a receive on its way up
up_rows_are : (net : Net) (x : LiveList) (f : ℕ) (a : Attached) (keeps : Bool) → x.stand ≡ stand.Passed way.Up (Module (Filter f)) → attached f net.modules.filters ≡ Some a → up_at_filter net (Some a) x keeps ≡ moved_rows net x x.stand keeps
up_rows_are net x f a keeps e there = ap (λ (o : Option Attached). up_at_filter net o x keeps) (sym there) ∙ ap (λ (s : Stand). moved_rows net x s keeps) (sym e)

stopped : {b : TrayView} {h : Hands} {held : HeldView} {f : ℕ} {l : ListView} {s s' : FilterState} {left : TrayView} (k : IsFor b.net held way.Up l f)
    → InCall b h (Filter f) [] [] [] b (record { front = a_list l way.Up (Module (Filter f)) ∷ []; loose = []; kept = s.kept }) → is_running k.at.a.state ≡ false → s' ≡ s → left ≡ turned_back b l Paused
    → IsWorked b h f k.x s s' left
stopped {b} {h} {held} {f} {l} {s} {s'} {left} k i still same left_is =
    let rows : back_rows b.net.modules (Filter f) (in_hand l) Paused ≡ moved_rows b.net k.x k.x.stand false =
    ap (λ g. back_rows b.net.modules (Filter g) (in_hand l) Paused) (sym k.at.number)
    ∙ ap (λ (c : Common). back_rows b.net.modules (Filter k.at.a.filter) c Paused) (sym k.same)
    ∙ sym (cond-false (is_running k.at.a.state) (filter_rows b.net k.at.a k.x false) (back_rows b.net.modules (Filter k.at.a.filter) (in_state k.x) Paused) still)
    ∙ up_rows_are b.net k.x f k.at.a false k.stands k.at.there in
    record {
      keeps = false;
      calls = [];
      call_is =
          subst (λ rs. InCall b h (Filter f) rs [] [] left (record { front = []; loose = []; kept = s'.kept })) rows
          (subst (λ (y : FilterState). InCall b h (Filter f) (back_rows b.net.modules (Filter f) (in_hand l) Paused) [] [] left (record { front = []; loose = []; kept = y.kept })) (sym same)
          (subst (λ (t : TrayView). InCall b h (Filter f) (back_rows b.net.modules (Filter f) (in_hand l) Paused) [] [] t (record { front = []; loose = []; kept = s.kept })) (sym left_is) (in_back l way.Up (Module (Filter f)) Paused i)));
      own = tt;
      counts = subst (λ (y : FilterState). Counts (Filter f) [] [] s.did y.did) (sym same) (counts_none (Filter f) s.did);
      kind = ap (λ (y : FilterState). y.kind) same;
      setup = ap (λ (y : FilterState). y.setup) same;
      refusals = let rose = ap (λ (y : FilterState). y.refusals) same in omega (arith, rose);
    }

-- whether the filter runs, in the words of the rules
state_is : {held : HeldView} {l : ListView} {f : ℕ} {by : PassWay} (b : TrayView) (runs : Bool) (k : IsFor b.net held by l f) → b.caller ≡ Filter f → is_running (state_of b.net b.caller) ≡ runs → is_running k.at.a.state ≡ runs
state_is b runs k caller e =
    ap (λ (o : Option Attached). is_running (state_in o)) (sym k.at.there) ∙ ap (λ m. is_running (state_of b.net m)) (sym caller) ∙ e

climbed : {b : TrayView} {h : Hands} {held : HeldView} {f : ℕ} {l : ListView} {s s' : FilterState} {left : TrayView} (k : IsFor b.net held way.Up l f)
    → InCall b h (Filter f) [] [] [] b (record { front = a_list l way.Up (Module (Filter f)) ∷ []; loose = []; kept = s.kept }) → s.kind ≡ k.at.a.kind → s.setup ≡ Some k.at.a.setup → pool_of b.net (Filter f) ≡ b.pool.size
    → Climbs s l b s' left → IsWorked b h f k.x s s' left
climbed {b} {f = f} k i kind setup size (rises runs d) =
    let running : is_running k.at.a.state ≡ true = state_is b true k i.caller runs in
    handled called.Receive direction.Up k i k.goes refl
    (λ keeps. sym (cond-true (is_running k.at.a.state) (filter_rows b.net k.at.a k.x keeps) _ running) ∙ up_rows_are b.net k.x f k.at.a keeps k.stands k.at.there) kind setup size d
climbed {b} k i kind setup size (stops still same left_is) = stopped k i (state_is b false k i.caller still) same left_is

-- a list on its way home
homed : {b : TrayView} {h : Hands} {held : HeldView} {f : ℕ} {by : PassWay} {l : ListView} {s s' : FilterState} {left : TrayView} (what : Called) (calls : List Call) (status : ListStatus) (k : IsFor b.net held by l f)
    → InCall b h (Filter f) (homeward_rows b.net k.x (Filter f) status) calls [] left (record { front = []; loose = []; kept = s'.kept }) → calls ≡ call (Filter f) what
    → homeward_rows b.net k.x (Filter f) status ≡ moved_rows b.net k.x k.x.stand false → s' ≡ record s { did = called_for what s.did; kept = s'.kept } → IsWorked b h f k.x s s' left
homed {b} {h} {f = f} {s = s} {s' = s'} {left = left} what calls status k i are rows same = record {
  keeps = false;
  calls = call (Filter f) what;
  call_is =
      subst (λ rs. InCall b h (Filter f) rs (call (Filter f) what) [] left (record { front = []; loose = []; kept = s'.kept })) rows
      (subst (λ cs. InCall b h (Filter f) (homeward_rows b.net k.x (Filter f) status) cs [] left (record { front = []; loose = []; kept = s'.kept })) are i);
  own = (refl, tt);
  counts = counted f what s s' same;
  kind = ap (λ (y : FilterState). y.kind) same;
  setup = ap (λ (y : FilterState). y.setup) same;
  refusals = let rose = ap (λ (y : FilterState). y.refusals) same in omega (arith, rose);
}

went_home : {b : TrayView} {h : Hands} {held : HeldView} {f : ℕ} {l : ListView} {s s' : FilterState} {left : TrayView} (by : PassWay) (what : Called) (handler : Handler) (status : ListStatus) (way_of : Direction) (k : IsFor b.net held by l f)
    → InCall b h (Filter f) [] [] [] b (record { front = a_list l by (Module (Filter f)) ∷ []; loose = []; kept = s.kept }) → s.setup ≡ Some k.at.a.setup
    → l.label.direction ≡ way_of → completed_by way_of ≡ handler → called_by handler ≡ what → home_call (Filter f) way_of ≡ call (Filter f) what
    → homeward_rows b.net k.x (Filter f) status ≡ moved_rows b.net k.x k.x.stand false → GoesHome what handler s l status b s' left → IsWorked b h f k.x s s' left
went_home {b} {h} {f = f} {l = l} {s = s} {s' = s'} {left = left} by what handler status way_of k i setup goes is called home rows (returns foreign d) =
    let mine : l.label.owner ≡ Filter f → ⊥ = λ own. foreign (own ∙ sym i.caller) in
    let done = in_passed_home l by (Module (Filter f)) status s k.x i k.same mine
    (subst (λ g. Completes s l status (given b l.label.number g) s'.kept left) (sym is ∙ ap completed_by (sym goes)) (d.by (subst IsSome (sym setup) refl))) in
    homed what (call (Filter f) (called_by (completed_by l.label.direction))) status k done (ap (λ w. call (Filter f) (called_by (completed_by w))) goes ∙ ap (λ g. call (Filter f) (called_by g)) is ∙ ap (call (Filter f)) called) rows d.same
went_home {b} {h} {f = f} {l = l} {s = s} {s' = s'} {left = left} by what handler status way_of k i setup goes is called home rows (ends own d) =
    let mine : l.label.owner ≡ Filter f = own ∙ i.caller in
    let done = in_completed l by (Module (Filter f)) status s k.x i k.same mine k.keeps (d.by (subst IsSome (sym setup) refl)) in
    homed what (home_call l.label.owner l.label.direction) status k done (ap (λ m. home_call m l.label.direction) mine ∙ ap (home_call (Filter f)) goes ∙ home) rows d.same

done_rows_are : (net : Net) (x : LiveList) (f : ℕ) (status : ListStatus) → x.stand ≡ stand.Passed (way.Done status) (Module (Filter f)) → homeward_rows net x (Filter f) status ≡ moved_rows net x x.stand false
done_rows_are net x f status e = ap (λ (s : Stand). moved_rows net x s false) (sym e)

back_rows_are : (net : Net) (x : LiveList) (f : ℕ) (status : ListStatus) → x.stand ≡ stand.Passed (way.Back status) (Module (Filter f)) → homeward_rows net x (Filter f) status ≡ moved_rows net x x.stand false
back_rows_are net x f status e = ap (λ (s : Stand). moved_rows net x s false) (sym e)

pub worked : {b : TrayView} {h : Hands} {held : HeldView} {f : ℕ} {l : ListView} {s s' : FilterState} {left : TrayView} (by : PassWay) (k : IsFor b.net held by l f)
    → InCall b h (Filter f) [] [] [] b (record { front = a_list l by (Module (Filter f)) ∷ []; loose = []; kept = s.kept }) → s.kind ≡ k.at.a.kind → s.setup ≡ Some k.at.a.setup → pool_of b.net (Filter f) ≡ b.pool.size
    → Takes by s l b s' left → IsWorked b h f k.x s s' left
worked {b} {f = f} way.Down k i kind setup size d = handled called.Send direction.Down k i k.goes refl (λ keeps. down_rows_are b.net k.x f k.at.a keeps k.stands k.at.there) kind setup size d
worked way.Up k i kind setup size d = climbed k i kind setup size d
worked {b} {f = f} (way.Done status) k i kind setup size d =
    went_home (way.Done status) called.SendComplete handler.SendComplete status direction.Down k i setup k.goes refl refl refl (done_rows_are b.net k.x f status k.stands) d
worked {b} {f = f} (way.Back status) k i kind setup size d =
    went_home (way.Back status) called.Returned handler.Returned status direction.Up k i setup k.goes refl refl refl (back_rows_are b.net k.x f status k.stands) d
