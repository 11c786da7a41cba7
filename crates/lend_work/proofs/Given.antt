-- A lent list is given to one filter: the rows are those of the rules for what its program makes of the frames.
use Rattle.std.proofs.Common.{◌≡◌, ℕ, ◌+◌, ◌==◌, ◌≤◌, Bool, true, false, List, [], ◌∷◌, ◌++◌, Option, Some, None, refl, sym, ap, ◌∙◌, subst, arith, ne_eqb, eq-eqb}
use Rattle.ndis_base.specs.declared.Direction.TheVariants as direction
use Rattle.ndis_base.specs.declared.ListNo.{ListNo}
use Rattle.ndis_base.specs.declared.ListStatus.{ListStatus}
use Rattle.ndis_base.specs.declared.ListStatus.TheVariants.{Success, Dropped, Resources, Paused}
use Rattle.ndis_base.specs.declared.ModuleId.TheVariants.{Filter}
use Rattle.program_types.specs.Apply.{applied}
use Rattle.journal_types.specs.declared.Handler.TheVariants as handler
use Rattle.journal_types.specs.declared.Row.{Row}
use Rattle.journal_types.specs.declared.Row.TheVariants as row
use Rattle.buffer_pools.specs.Views.{ListView, live_count}
use Rattle.stack_rules.specs.declared.Attached.{Attached}
use Rattle.stack_rules.specs.Handled.{program}
use Rattle.stack_rules.specs.Net.{Net, Modules, attached}
use Rattle.stack_rules.specs.Places.{is_full, state_in, state_of}
use Rattle.stack_rules.specs.Receives.{lent_home, lent_at}
use Rattle.stack_rules.specs.Tests.{is_running, same_frames}
use Rattle.promise_rules.specs.declared.Call.{Call}
use Rattle.promise_rules.specs.declared.Called.TheVariants as called
use Rattle.promise_rules.specs.Calls.{call}
use Rattle.hand_lemmas.specs.Hands.{Hands}
use Rattle.driver_views.specs.States.{FilterState, Record, called_for}
use Rattle.driver_tray.specs.Tray.{TrayView, given}
use Rattle.driver_calls.specs.declared.fates.LentFate.{LentFate}
use Rattle.driver_calls.specs.declared.fates.LentFate.TheVariants as fate
use Rattle.driver_calls.specs.Filters.{made_by, HandlesLent}
use Rattle.driver_calls.specs.Filters.HandlesLent.{leaves, drops, lacks, copies}
use Rattle.call_lemmas.specs.InCall.{InCall}
use Rattle.call_lemmas.specs.Served.{AreCallsOf, Counts}
use Rattle.call_lemmas.proofs.Served.{counts_none, counts_call}
use Rattle.call_lemmas.proofs.Steps.{in_given, in_turned_back}
use Rattle.lend_work.specs.Visits.{Meets, went_by, settled, refused}
use Rattle.lend_work.specs.Visits.Meets.{takes, stops}
use Rattle.lend_work.proofs.Copying.{copy_rows, in_copied}

-- what a lent list's rows depend on is as in the state before the turn, but for the number of the list itself
pub record IsOn (net now : Net) : Type 0 where
  pub head : now.head ≡ net.head
  pub phase : now.phase ≡ net.phase
  pub modules : now.modules ≡ net.modules
  pub filters : now.port.delivers_by ≡ net.port.delivers_by
  pub list : now.next.list ≡ net.next.list + 1

-- what follows: the list is home, or it goes further up
abbrev pub then_rows : ListNo → Option ListStatus → List Row → List Row
then_rows list None further = further
then_rows list (Some status) further = lent_home list status

abbrev given_row : ListNo → ℕ → Row
given_row list f = row.Give list (Filter f) handler.ReceiveLent

-- the rules, by what the program makes of the frames
left_rows : (net : Net) (a : Attached) (list : ListNo) (frames made : List (List ℕ)) (more : List Row) → is_running a.state ≡ true → applied 1518 a.setup.receive frames ≡ Some made → same_frames made frames ≡ true
    → given_row list a.filter ∷ more ≡ lent_at net (Some a) list frames more
left_rows net a list frames made more runs is same = rw (runs, is, same) refl

dropped_rows : (net : Net) (a : Attached) (list : ListNo) (frames : List (List ℕ)) (more : List Row) → is_running a.state ≡ true → applied 1518 a.setup.receive frames ≡ None
    → given_row list a.filter ∷ row.TurnBack list (Filter a.filter) Dropped ∷ lent_home list Dropped ≡ lent_at net (Some a) list frames more
dropped_rows net a list frames more runs is = rw (runs, is) refl

lacked_rows : (net : Net) (a : Attached) (list : ListNo) (frames made : List (List ℕ)) (more : List Row) → is_running a.state ≡ true → applied 1518 a.setup.receive frames ≡ Some made → same_frames made frames ≡ false → is_full net (Filter a.filter) ≡ true
    → given_row list a.filter ∷ row.TurnBack list (Filter a.filter) Resources ∷ lent_home list Resources ≡ lent_at net (Some a) list frames more
lacked_rows net a list frames made more runs is other full = rw (runs, is, other, full) refl

copied_rows : (net : Net) (a : Attached) (list : ListNo) (frames made : List (List ℕ)) (more : List Row) → is_running a.state ≡ true → applied 1518 a.setup.receive frames ≡ Some made → same_frames made frames ≡ false → is_full net (Filter a.filter) ≡ false
    → given_row list a.filter ∷ (copy_rows (record net { next = record net.next { list = net.next.list + 1 } }) (Filter a.filter) list made ++ lent_home list Success) ≡ lent_at net (Some a) list frames more
copied_rows net a list frames made more runs is other spare = rw (runs, is, other, spare) refl

stopped_rows : (net : Net) (a : Attached) (list : ListNo) (frames : List (List ℕ)) (more : List Row) → is_running a.state ≡ false → row.TurnBack list (Filter a.filter) Paused ∷ lent_home list Paused ≡ lent_at net (Some a) list frames more
stopped_rows net a list frames more still = rw still refl

-- what the filter did, in the words of the rules: its rows, its calls and its counts
pub record HasMet (b : TrayView) (h : Hands) (l : ListView) (s s' : FilterState) (left : TrayView) (net : Net) (a : Attached) (went : Option ListStatus) : Type 0 where
  pub more : List Row
  pub calls : List Call
  pub call_is : InCall b h (Filter a.filter) more calls [] left (record { front = []; loose = l ∷ []; kept = s'.kept })
  pub own : AreCallsOf (Filter a.filter) calls
  pub counts : Counts (Filter a.filter) calls [] s.did s'.did
  pub kind : s'.kind ≡ s.kind
  pub setup : s'.setup ≡ s.setup
  pub refusals : s.refusals ≤ s'.refusals
  pub is : (further : List Row) → more ++ then_rows l.label.number went further ≡ lent_at net (Some a) l.label.number l.frames further

-- the filter that is called, and what is known of it
pub record IsAsked (b : TrayView) (l : ListView) (s : FilterState) (net : Net) (a : Attached) : Type 0 where
  pub on : IsOn net b.net
  pub there : attached a.filter net.modules.filters ≡ Some a
  pub setup : s.setup ≡ Some a.setup
  pub direction : l.label.direction ≡ direction.Lent
  pub full : is_full net (Filter a.filter) ≡ (live_count b.pool == b.pool.size)
  pub caller : b.caller ≡ Filter a.filter

-- whether the filter runs
runs_as : (b : TrayView) (l : ListView) (s : FilterState) (net : Net) (a : Attached) (runs : Bool) → IsAsked b l s net a → is_running (state_of b.net b.caller) ≡ runs → is_running a.state ≡ runs
runs_as b l s net a runs k e =
    ap (λ (o : Option Attached). is_running (state_in o)) (sym k.there) ∙ ap (λ (ms : Modules). is_running (state_in (attached a.filter ms.filters))) (sym k.on.modules) ∙ ap (λ m. is_running (state_of b.net m)) (sym k.caller) ∙ e

made_is : (b t : TrayView) (l : ListView) (s : FilterState) (net : Net) (a : Attached) (o : Option (List (List ℕ))) → IsAsked b l s net a → made_by a.setup l t ≡ o → applied 1518 a.setup.receive l.frames ≡ o
made_is b t l s net a o k e = ap (λ d. applied 1518 (program a.setup d) l.frames) (sym k.direction) ∙ e

-- the copy is numbered after the list that it is a copy of
copy_rows_on : (net now : Net) (a : Attached) (list : ListNo) (made : List (List ℕ)) → IsOn net now → copy_rows now (Filter a.filter) list made ≡ copy_rows (record net { next = record net.next { list = net.next.list + 1 } }) (Filter a.filter) list made
copy_rows_on net now a list made on =
    ap (λ (ms : Modules). copy_rows (record now { modules = ms }) (Filter a.filter) list made) on.modules
    ∙ ap (λ n. copy_rows (record net { next = record net.next { list = n } }) (Filter a.filter) list made) on.list

counted : (f : ℕ) (s s' : FilterState) → s' ≡ record s { did = called_for called.ReceiveLent s.did } → Counts (Filter f) (call (Filter f) called.ReceiveLent) [] s.did s'.did
counted f s s' same = subst (λ (r : Record). Counts (Filter f) (call (Filter f) called.ReceiveLent) [] s.did r) (ap (λ (y : FilterState). y.did) (sym same)) (counts_call (Filter f) called.ReceiveLent s.did)

-- with the rows, what is left is the same for all filters that run
has_met : {b : TrayView} {h : Hands} {l : ListView} {s s' : FilterState} {left q : TrayView} {net : Net} {a : Attached} {went : Option ListStatus} (more : List Row)
    → s' ≡ record s { did = called_for called.ReceiveLent s.did } → left ≡ q → InCall b h (Filter a.filter) more (call (Filter a.filter) called.ReceiveLent) [] q (record { front = []; loose = l ∷ []; kept = s.kept })
    → ((further : List Row) → more ++ then_rows l.label.number went further ≡ lent_at net (Some a) l.label.number l.frames further) → HasMet b h l s s' left net a went
has_met {b} {h} {l} {s} {s'} {left} {q} {net} {a} {went} more same left_is i is = record {
  more = more;
  calls = call (Filter a.filter) called.ReceiveLent;
  call_is =
      subst (λ ks. InCall b h (Filter a.filter) more (call (Filter a.filter) called.ReceiveLent) [] left (record { front = []; loose = l ∷ []; kept = ks })) (ap (λ (y : FilterState). y.kept) (sym same))
      (subst (λ (t : TrayView). InCall b h (Filter a.filter) more (call (Filter a.filter) called.ReceiveLent) [] t (record { front = []; loose = l ∷ []; kept = s.kept })) (sym left_is) i);
  own = (refl, tt);
  counts = counted a.filter s s' same;
  kind = ap (λ (y : FilterState). y.kind) same;
  setup = ap (λ (y : FilterState). y.setup) same;
  refusals = let rose = ap (λ (y : FilterState). y.refusals) same in omega (arith, rose);
  is = is;
}

met_running : {b : TrayView} {h : Hands} {l : ListView} {s s' : FilterState} {left mid : TrayView} {net : Net} {a : Attached} {went : Option ListStatus} (became : LentFate)
    → InCall b h (Filter a.filter) [] [] [] b (record { front = []; loose = l ∷ []; kept = s.kept }) → IsAsked b l s net a → is_running a.state ≡ true → s' ≡ record s { did = called_for called.ReceiveLent s.did }
    → HandlesLent a.setup l (given b l.label.number handler.ReceiveLent) mid became → left ≡ settled mid l became → went ≡ went_by became → HasMet b h l s s' left net a (went_by became)
met_running {b} {h} {l} {s} {s'} {left} {mid} {net} {a} {went} fate.Left i k runs same (leaves frames made alike e) left_is went_is =
    has_met (given_row l.label.number a.filter ∷ []) same (left_is ∙ e) (in_given l.label.number handler.ReceiveLent i)
    (λ further. left_rows net a l.label.number l.frames frames further runs (made_is b b l s net a (Some frames) k made) alike)
met_running {b} {h} {l} {s} {s'} {left} {mid} {net} {a} {went} fate.Dropped i k runs same (drops made e) left_is went_is =
    has_met (given_row l.label.number a.filter ∷ row.TurnBack l.label.number (Filter a.filter) Dropped ∷ []) same (left_is ∙ ap (λ (t : TrayView). refused t l Dropped) e)
    (in_turned_back l.label.number Dropped (in_given l.label.number handler.ReceiveLent i))
    (λ further. dropped_rows net a l.label.number l.frames further runs (made_is b b l s net a None k made))
met_running {b} {h} {l} {s} {s'} {left} {mid} {net} {a} {went} fate.Lacking i k runs same (lacks frames made other none e) left_is went_is =
    has_met (given_row l.label.number a.filter ∷ row.TurnBack l.label.number (Filter a.filter) Resources ∷ []) same (left_is ∙ ap (λ (t : TrayView). refused t l Resources) e)
    (in_turned_back l.label.number Resources (in_given l.label.number handler.ReceiveLent i))
    (λ further. lacked_rows net a l.label.number l.frames frames further runs (made_is b b l s net a (Some frames) k made) other (k.full ∙ eq-eqb (live_count b.pool) b.pool.size none))
met_running {b} {h} {l} {s} {s'} {left} {mid} {net} {a} {went} fate.Copied i k runs same (copies frames made other spare sized c) left_is went_is =
    let t : TrayView = given b l.label.number handler.ReceiveLent in
    has_met (given_row l.label.number a.filter ∷ copy_rows t.net (Filter a.filter) l.label.number frames) same left_is
    (in_copied l (in_given l.label.number handler.ReceiveLent i) c sized)
    (λ further. ap (λ rs. given_row l.label.number a.filter ∷ (rs ++ lent_home l.label.number Success)) (copy_rows_on net t.net a l.label.number frames (record { head = k.on.head; phase = k.on.phase; modules = k.on.modules; filters = k.on.filters; list = k.on.list }))
    ∙ copied_rows net a l.label.number l.frames frames further runs (made_is b b l s net a (Some frames) k made) other (k.full ∙ ne_eqb (live_count b.pool) b.pool.size spare))

pub met : {b : TrayView} {h : Hands} {l : ListView} {s s' : FilterState} {left : TrayView} {net : Net} {a : Attached} {went : Option ListStatus}
    → InCall b h (Filter a.filter) [] [] [] b (record { front = []; loose = l ∷ []; kept = s.kept }) → IsAsked b l s net a → Meets s l b went s' left → HasMet b h l s s' left net a went
met {b} {h} {l} {s} {s'} {left} {net} {a} {went} i k (takes runs d) =
    subst (HasMet b h l s s' left net a) (sym d.went_is)
    (met_running {went = went} d.became i k (runs_as b l s net a true k runs) d.lent.same (d.lent.by a.setup k.setup) d.left_is d.went_is)
met {b} {h} {l} {s} {s'} {left} {net} {a} {went} i k (stops still same left_is went_is) =
    let idle : is_running a.state ≡ false = runs_as b l s net a false k still in
    subst (HasMet b h l s s' left net a) (sym went_is)
    (record {
      more = row.TurnBack l.label.number (Filter a.filter) Paused ∷ [];
      calls = [];
      call_is =
          subst (λ ks. InCall b h (Filter a.filter) (row.TurnBack l.label.number (Filter a.filter) Paused ∷ []) [] [] left (record { front = []; loose = l ∷ []; kept = ks })) (ap (λ (y : FilterState). y.kept) (sym same))
          (subst (λ (t : TrayView). InCall b h (Filter a.filter) (row.TurnBack l.label.number (Filter a.filter) Paused ∷ []) [] [] t (record { front = []; loose = l ∷ []; kept = s.kept })) (sym left_is) (in_turned_back l.label.number Paused i));
      own = tt;
      counts = subst (λ (y : FilterState). Counts (Filter a.filter) [] [] s.did y.did) (sym same) (counts_none (Filter a.filter) s.did);
      kind = ap (λ (y : FilterState). y.kind) same;
      setup = ap (λ (y : FilterState). y.setup) same;
      refusals = let rose = ap (λ (y : FilterState). y.refusals) same in omega (arith, rose);
      is = λ further. stopped_rows net a l.label.number l.frames further idle;
    })
