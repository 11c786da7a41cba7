-- Each event that changes no state of a module leaves the lists passed as they should be.
use Rattle.std.proofs.Common.{◌≡◌, ℕ, ◌+◌, ◌==◌, ◌||◌, ◌&&◌, inl, inr, Bool, true, false, cond, List, [], ◌∷◌, ◌++◌, Option, Some, None, find, filter, map, reverse, refl, arith, ap, sym, subst, ◌∙◌}
use Rattle.std.specs.List.{list_any, flat_map}
use Rattle.std.proofs.lemmas.Bool.Decides.{nat_tests}
use Rattle.ndis_base.specs.declared.ModuleId.{ModuleId}
use Rattle.ndis_base.specs.declared.ModuleId.TheVariants.{Miniport, Filter, Binding}
use Rattle.ndis_base.specs.declared.ModuleState.{ModuleState}
use Rattle.ndis_base.specs.declared.CrossNo.{CrossNo}
use Rattle.ndis_base.specs.declared.ListNo.{ListNo}
use Rattle.ndis_base.specs.declared.ListStatus.{ListStatus}
use Rattle.ndis_base.specs.declared.ListStatus.TheVariants.{Success, Paused, Dropped, Resources, Aborted}
use Rattle.ndis_base.specs.declared.StatusNo.{StatusNo}
use Rattle.ndis_base.specs.declared.StatusName.{StatusName}
use Rattle.ndis_base.specs.declared.Direction.{Direction}
use Rattle.ndis_base.specs.declared.Direction.TheVariants as direction
use Rattle.ndis_base.specs.declared.Origin.TheVariants as origin
use Rattle.journal_types.specs.declared.Handler.TheVariants as handler
use Rattle.journal_types.specs.declared.How.TheVariants as how
use Rattle.journal_types.specs.declared.PassWay.TheVariants as way
use Rattle.journal_types.specs.declared.OutWay.TheVariants as out
use Rattle.journal_types.specs.declared.Way.TheVariants as crossing
use Rattle.journal_types.specs.declared.Target.{Target}
use Rattle.journal_types.specs.declared.Target.TheVariants.{Module, Bindings}
use Rattle.journal_types.specs.declared.Event.{Event}
use Rattle.journal_types.specs.declared.Event.TheVariants as event
use Rattle.journal_types.specs.declared.Row.{Row}
use Rattle.journal_types.specs.declared.Row.TheVariants as row
use Rattle.program_types.specs.Apply.{applied}
use Rattle.stack_rules.specs.declared.Attached.{Attached}
use Rattle.stack_rules.specs.declared.Choice.{Choice}
use Rattle.stack_rules.specs.declared.Message.{Message}
use Rattle.stack_rules.specs.declared.Stand.{Stand}
use Rattle.stack_rules.specs.declared.Stand.TheVariants as stand
use Rattle.stack_rules.specs.declared.LiveList.{LiveList}
use Rattle.stack_rules.specs.declared.Thing.{Thing}
use Rattle.stack_rules.specs.declared.Thing.TheVariants as thing
use Rattle.stack_rules.specs.Tests.{is_down, is_running, is_unbound, is_halted, is_virtual, is_retain, phase_is_running, same_frames}
use Rattle.stack_rules.specs.Heads.{kind_of_binding, binding_numbers}
use Rattle.stack_rules.specs.Messages.{is_for}
use Rattle.stack_rules.specs.Net.{Net, after, after_rows, attached, lists, list_of}
use Rattle.stack_rules.specs.Places.{position, is_crossed, is_full, kept_lists, ready_lists, is_kept_by, agenda_first, state_of}
use Rattle.stack_rules.specs.Targets.{has_receive, next_status, onward}
use Rattle.stack_rules.specs.Outcome.{Outcome, list_no, config_no, cross_no, oid_no, status_no, max_frame}
use Rattle.stack_rules.specs.Deliveries.{delivered, takers}
use Rattle.stack_rules.specs.Receives.{give_back_of, lent_home, lent_back, copied, lent_handled, lent_at, lent_delivery, lent_up, lent_rows}
use Rattle.stack_rules.specs.Sends.{first_of, first_in_ring, transmit_of}
use Rattle.stack_rules.specs.Cancels.{cancel_outcome, cancel_rows_at, cancelled_at, aborted, queues, is_named, is_hold_filter}
use Rattle.stack_rules.specs.Drains.{returned_by, returns_all, passed_by, passes_all, empties, empties_ring, drain_rows, drained, drain_outcome}
use Rattle.stack_rules.specs.Pumps.{moved_rows, thing_rows, request_pump, pump_of, is_pump_moving}
use Rattle.stack_rules.specs.Requests.{Giving, given_rows_by, giving_rows, next_giving}
use Rattle.stack_rules.specs.Statuses.{seen_by_all, status_rows}
use Rattle.stack_rules.specs.Crosses.{first_uncrossed, take_of, done_of, take_up_of, is_too_long_tagged, mux_binding_for, is_in_message}
use Rattle.stack_rules.specs.Rewires.{is_in}
use Rattle.stack_rules.specs.Sound.{outcome}
use Rattle.rule_basics.specs.Live.{Each}
use Rattle.rule_basics.proofs.Lives.{find_is}
use Rattle.rule_basics.proofs.Each.{Each-implies}
use Rattle.state_laws.proofs.Rows.{by_test, after_rows-append}
use Rattle.state_laws.proofs.Calm.{All-append, All-map, first_of_all}
use Rattle.state_laws.proofs.Takes.{attached-is}
use Rattle.state_laws.proofs.Quiet.{is_plain}
use Rattle.state_laws.proofs.Events.{state_after}
use Rattle.pause_laws.proofs.Works.{each_find, each_away, each_first}
use Rattle.pause_laws.proofs.Keepers.{kept_is, each_of}
use Rattle.pause_laws.proofs.Hands.{is_skipped}
use Rattle.place_laws.proofs.Spots.{in_reverse}
use Rattle.place_laws.proofs.Good.{one_found}
use Rattle.place_laws.proofs.Looks.{look}
use Rattle.place_laws.proofs.Keepers.{all_found, IsKeptLive, kept_live}
use Rattle.outstanding_laws.specs.Outstanding.{passes_receives}
use Rattle.outstanding_laws.proofs.Rows.{Fits, IsLoose, has_back, has_known, give_loose, still_loose, home_good, home_held, issue_good, look_new, skip_good, kin_pass}
use Rattle.outstanding_laws.proofs.Routes.{and_first, passer_low, up_to, on_from, issue_on}
use Rattle.outstanding_laws.proofs.Moves.{Facts, not_full, Going, Kin, Leaves, MayHave, begins, kin_begins, down_leaves, miniport_leaves, indicated_goes, sent_goes, IsKeptBy, kept_by, kept_home, kept_back, transmitted_leaves, homeward_leaves, done_may, delivered_goes, go_up_back, delivery_leaves, up_leaves}

-- rows that move no list
abbrev AreSkipped : List Row → Type 0
AreSkipped [] = Unit {0}
AreSkipped (r ∷ rows) = (is_skipped r ≡ true) × AreSkipped rows

skip_seen : (number : StatusNo) (b : ℕ) (ss : List ModuleState) → AreSkipped (seen_by_all number b ss)
skip_seen number b [] = tt
skip_seen number b (s ∷ ss) = (refl, skip_seen number (b + 1) ss)

skip_given : (net : Net) (g : Giving) → AreSkipped (giving_rows net g)
skip_given net g = (refl, given g.module_id)
  where
    given : (m : ModuleId) → AreSkipped (given_rows_by net g.request m)
    given Miniport = (refl, tt)
    given (Filter f) = (refl, tt)
    given (Binding b) = tt

steps_map : (Q : Net → Type 0) (R : LiveList → Type 0) (row_of : LiveList → Row) → ((next : Net) (l : LiveList) → R l → Q next → Q (after next (row_of l))) → (ls : List LiveList) (next : Net) → Each R ls → Q next → Q (after_rows next (map row_of ls))
steps_map Q R row_of step [] next h q = q
steps_map Q R row_of step (l ∷ ls) next h q = steps_map Q R row_of step ls (after next (row_of l)) h.1 (step next l h.0 q)

steps_lists : (Q : Net → Type 0) (R : LiveList → Type 0) (rows_of : LiveList → List Row) → ((next : Net) (l : LiveList) → R l → Q next → Q (after_rows next (rows_of l))) → (ls : List LiveList) (next : Net) → Each R ls → Q next → Q (after_rows next (flat_map rows_of ls))
steps_lists Q R rows_of step [] next h q = q
steps_lists Q R rows_of step (l ∷ ls) next h q =
    subst Q (sym (after_rows-append next (rows_of l) (flat_map rows_of ls))) (steps_lists Q R rows_of step ls (after_rows next (rows_of l)) h.1 (step next l h.0 q))

steps_modules : (Q : Net → Type 0) (rows_of : ModuleId → List Row) → ((next : Net) (m : ModuleId) → Q next → Q (after_rows next (rows_of m))) → (ms : List ModuleId) (next : Net) → Q next → Q (after_rows next (flat_map rows_of ms))
steps_modules Q rows_of step [] next q = q
steps_modules Q rows_of step (m ∷ ms) next q =
    subst Q (sym (after_rows-append next (rows_of m) (flat_map rows_of ms))) (steps_modules Q rows_of step ms (after_rows next (rows_of m)) (step next m q))

module _ (net : Net) (facts : Facts net) where
  skip_rows : (next : Net) (rows : List Row) → AreSkipped rows → Going net facts next → Going net facts (after_rows next rows)
  skip_rows next [] s h = h
  skip_rows next (r ∷ rows) s h = skip_rows (after next r) rows s.1 (skip_good net.modules net facts.below next r s.0 h)

  skips : (rows : List Row) → AreSkipped rows → Leaves net facts rows
  skips rows s = skip_rows net rows s (begins net facts)

  -- a status on its way
  status_leaves : (number : StatusNo) (name : StatusName) (to : Target) → Leaves net facts (status_rows net number name to)
  status_leaves number name (Module m) = skips (status_rows net number name (Module m)) (refl, (refl, tt))
  status_leaves number name Bindings = skips (status_rows net number name Bindings) (skip_seen number 0 net.modules.bindings)

  -- how a list on its way stands
  fits_at : (l : LiveList) (s : Stand) → l.stand ≡ s → look net l.list.0 ≡ Some l → Fits net.modules (is_down l.direction) l.owner l.last s
  fits_at l s e f = subst (Fits net.modules (is_down l.direction) l.owner l.last) e (facts.right l.list.0 l f)

  down_may : (l : LiveList) (m : ModuleId) → l.stand ≡ stand.Passed way.Down (Module m) → look net l.list.0 ≡ Some l → MayHave net facts m l
  down_may l m e f = let k = fits_at l (stand.Passed way.Down (Module m)) e f in record { found = f; may = record { sent = λ _. k.1; risen = λ u. absurd (cc (sym k.0 ∙ u)) } }

  up_may : (l : LiveList) (g : ℕ) → l.stand ≡ stand.Passed way.Up (Module (Filter g)) → look net l.list.0 ≡ Some l → MayHave net facts (Filter g) l
  up_may l g e f =
      let k = fits_at l (stand.Passed way.Up (Module (Filter g))) e f in
      let to = up_to net.modules net facts.below facts.distinct (position net.modules.order l.last) g k.1.1.0 in
      record { found = f; may = record { sent = λ u. absurd (cc (sym k.0 ∙ u)); risen = λ _. (to.passes, omega (arith, to.above, k.1.1.1)) } }

  -- a list on its way
  moved_leaves : (l : LiveList) (s : Stand) (keeps : Bool) → l.stand ≡ s → look net l.list.0 ≡ Some l → Leaves net facts (moved_rows net l s keeps)
  moved_leaves l stand.Unplaced keeps e f = begins net facts
  moved_leaves l (stand.Kept m) keeps e f = begins net facts
  moved_leaves l (stand.Passed way.Down (Module Miniport)) keeps e f = miniport_leaves net facts l keeps (down_may l Miniport e f)
  moved_leaves l (stand.Passed way.Down (Module (Filter g))) keeps e f = down_leaves net facts l g keeps (down_may l (Filter g) e f)
  moved_leaves l (stand.Passed way.Down (Module (Binding b))) keeps e f = begins net facts
  moved_leaves l (stand.Passed way.Down Bindings) keeps e f = begins net facts
  moved_leaves l (stand.Passed way.Up (Module Miniport)) keeps e f = begins net facts
  moved_leaves l (stand.Passed way.Up (Module (Filter g))) keeps e f = up_leaves net facts l g keeps (fits_at l (stand.Passed way.Up (Module (Filter g))) e f).0 (up_may l g e f)
  moved_leaves l (stand.Passed way.Up (Module (Binding b))) keeps e f = begins net facts
  moved_leaves l (stand.Passed way.Up Bindings) keeps e f = let k = fits_at l (stand.Passed way.Up Bindings) e f in delivery_leaves net facts l keeps k.0 (omega (arith, passer_low net.modules l.last k.1.0, k.1.1.1)) f
  moved_leaves l (stand.Passed (way.Done status) (Module m)) keeps e f = homeward_leaves net facts l m status f (inl (done_may net facts l m status f e))
  moved_leaves l (stand.Passed (way.Done status) Bindings) keeps e f = begins net facts
  moved_leaves l (stand.Passed (way.Back status) (Module m)) keeps e f = homeward_leaves net facts l m status f (inr (fits_at l (stand.Passed (way.Back status) (Module m)) e f).0)
  moved_leaves l (stand.Passed (way.Back status) Bindings) keeps e f = begins net facts

  -- a pump
  thing_leaves : (t : Thing) (keeps : Bool) → agenda_first net ≡ Some t → Leaves net facts (thing_rows net t keeps)
  thing_leaves (thing.List l) keeps e = moved_leaves l l.stand keeps refl (each_away (λ x. look net x.list.0 ≡ Some x) net.things l (all_found (lists net.things) facts.apart) e)
  thing_leaves (thing.Status s) keeps e = status_leaves s.number s.name s.to
  thing_leaves (thing.Answer a) keeps e = skips (row.OidDone a.parent a.status a.value ∷ []) (refl, tt)

  request_leaves : (o : Option Giving) → Leaves net facts (request_pump net o).rows
  request_leaves None = begins net facts
  request_leaves (Some g) = skips (giving_rows net g) (skip_given net g)

  pump_leaves : (keeps : Bool) (o : Option Thing) → agenda_first net ≡ o → Leaves net facts (pump_of net keeps o).rows
  pump_leaves keeps (Some t) e = thing_leaves t keeps e
  pump_leaves keeps None e = request_leaves (next_giving net)

  -- the lists that a module keeps
  all_kept : (m : ModuleId) → Each (IsKeptBy net facts m) (kept_lists net m)
  all_kept m = Each-implies (IsKeptLive net m) (IsKeptBy net facts m) (λ l k. kept_by net facts m l k.found k.stand) (kept_lists net m) (kept_live net m facts.apart)

  all_ready : (m : ModuleId) → Each (IsKeptBy net facts m) (ready_lists net m)
  all_ready m = each_of (IsKeptBy net facts m) _ (kept_lists net m) (all_kept m)

  -- a cancel
  cancel_leaves : (id : ℕ) → Leaves net facts (cancel_outcome net id).rows
  cancel_leaves id =
      steps_modules (Going net facts) (cancel_rows_at net id)
      (λ next m q. steps_lists (Going net facts) (IsKeptBy net facts m) (aborted net m) (λ later l r g. kept_back net facts later l m Aborted r g) (cancelled_at net id m) next
      (each_of (IsKeptBy net facts m) (is_named id) (ready_lists net m) (all_ready m)) q)
      (queues net.modules) net (begins net facts)

  -- what a binding returns
  returns_leaves : (b : ℕ) → Leaves net facts (returns_all net b)
  returns_leaves b =
      by_test (Leaves net facts) (is_retain (kind_of_binding net.head b)) _ _
      (λ _. steps_map (Going net facts) (IsKeptBy net facts (Binding b)) (returned_by net) (λ next l r g. go_up_back net facts next l 0 Success r.found r.may.0 g) (ready_lists net (Binding b)) net (all_ready (Binding b)) (begins net facts))
      (λ _. begins net facts)

  -- what a filter passes on
  record Moves (next : Net) : Type 0 where
    going : Going net facts next
    kin : Kin net facts next

  kin_onward : (next : Net) (list : ListNo) (d : Direction) (i : ℕ) → Kin net facts next → Kin net facts (after next (onward net.modules list d i))
  kin_onward next list direction.Down i k = kin_pass net.modules net facts.below next list _ _ k
  kin_onward next list direction.Up i k = kin_pass net.modules net facts.below next list _ _ k
  kin_onward next list direction.Lent i k = kin_pass net.modules net facts.below next list _ _ k

  passes_step : (next : Net) (f : ℕ) (l : LiveList) → IsKeptBy net facts (Filter f) l → Moves next → Moves (after next (passed_by net f l))
  passes_step next f l r g = record {
    going = on_from net.modules net facts.below facts.distinct next l f r.found r.may (has_known net.modules net facts.below next l.list.0 (Filter f) (λ x e. g.kin l.list.0 x e l r.found ∙ r.last) g.going);
    kin = kin_onward next l.list l.direction (position net.modules.order (Filter f)) g.kin;
  }

  passes_leaves : (f : ℕ) → Leaves net facts (passes_all net f)
  passes_leaves f =
      by_test (Leaves net facts) (is_hold_filter net.modules f) _ _
      (λ _.
      let all : Moves (after_rows net (map (passed_by net f) (ready_lists net (Filter f)))) =
      steps_map Moves (IsKeptBy net facts (Filter f)) (passed_by net f) (λ next l r g. passes_step next f l r g) (ready_lists net (Filter f)) net (all_ready (Filter f)) record { going = begins net facts; kin = kin_begins net facts } in
      all.going)
      (λ _. begins net facts)

  empties_leaves : (o : Option LiveList) → ((l : LiveList) → o ≡ Some l → IsKeptBy net facts Miniport l) → Leaves net facts (empties net o)
  empties_leaves None w = begins net facts
  empties_leaves (Some l) w =
      by_test (Leaves net facts) (is_virtual net.head.kind) _ _
      (λ _. by_test (Leaves net facts) (phase_is_running net.phase) _ _ (λ _. begins net facts) (λ _. kept_back net facts net l Miniport Paused (w l refl) (begins net facts)))
      (λ _. transmitted_leaves net facts l (w l refl))

  drained_leaves : Leaves net facts (drained (drain_rows net)).rows
  drained_leaves =
      moved (drain_rows net)
      (first_of_all (Leaves net facts) (begins net facts) (map (returns_all net) (binding_numbers net.head) ++ (map (passes_all net) net.modules.order ++ empties_ring net ∷ []))
      (All-append (Leaves net facts) (map (returns_all net) (binding_numbers net.head)) _ (All-map (Leaves net facts) (returns_all net) (binding_numbers net.head) returns_leaves)
      (All-append (Leaves net facts) (map (passes_all net) net.modules.order) _ (All-map (Leaves net facts) (passes_all net) net.modules.order passes_leaves)
      (empties_leaves (first_of (ready_lists net Miniport)) (λ l e. each_first (IsKeptBy net facts Miniport) (ready_lists net Miniport) l (all_ready Miniport) e), tt))))
    where
      moved : (rows : List Row) → Leaves net facts rows → Leaves net facts (drained rows).rows
      moved [] h = h
      moved (r ∷ rows) h = h

  drain_leaves : (keeps : Bool) → Leaves net facts (drain_outcome net keeps).rows
  drain_leaves keeps =
      by_test (λ (o : Outcome). Leaves net facts o.rows) (is_pump_moving net) _ _
      (λ _. pump_leaves keeps (agenda_first net) refl)
      (λ _. drained_leaves)

  -- a transmit
  ring_first : (b : Bool) (l : LiveList) → cond b None (first_of (kept_lists net Miniport)) ≡ Some l → IsKeptBy net facts Miniport l
  ring_first true l e = cc
  ring_first false l e = each_first (IsKeptBy net facts Miniport) (kept_lists net Miniport) l (all_kept Miniport) e

  transmit_by : (o : Option LiveList) → ((l : LiveList) → o ≡ Some l → IsKeptBy net facts Miniport l) → Leaves net facts (transmit_of net o).rows
  transmit_by None w = begins net facts
  transmit_by (Some l) w = transmitted_leaves net facts l (w l refl)

  -- a lent list is nowhere until it is home in the same turn
  record IsLending (list : ListNo) (next : Net) : Type 0 where
    going : Going net facts next
    loose : IsLoose net.modules net facts.below next list.0
    next_is : net.next.list + 1 ≡ next.next.list

  home_lent : (next : Net) (list : ListNo) (status : ListStatus) → Going net facts next → Going net facts (after_rows next (lent_home list status))
  home_lent next list status h = home_good net.modules net facts.below next list Miniport status h

  back_lent : (next : Net) (list : ListNo) (m : ModuleId) (status : ListStatus) → Going net facts next → Going net facts (after_rows next (lent_back list m status))
  back_lent next list m status h = home_held net.modules net facts.below (after next (row.TurnBack list m status)) list m Miniport status (has_back net.modules net facts.below next list m status h)

  -- a copy goes on in its place
  copied_leaves : (next : Net) (a : Attached) (list : ListNo) (frames : List (List ℕ)) → passes_receives net.modules (Filter a.filter) ≡ true → IsLending list next → Going net facts (after_rows next (copied net a list frames))
  copied_leaves next a list frames may h =
      let f : ModuleId = Filter a.filter in
      let n : ListNo = list_no (net.next.list + 1) in
      home_lent (after_rows next (row.Issue n f (config_no net.modules.config) direction.Up None (origin.Copy list) frames ∷ onward net.modules n direction.Up (position net.modules.order f) ∷ [])) list Success
      (issue_on net.modules net facts.below facts.distinct next n f (config_no net.modules.config) direction.Up None (origin.Copy list) frames (position net.modules.order f) h.next_is (and_first (is_in a.filter net.modules.order) (has_receive net.modules a.filter) may) refl (λ t. absurd (cc)) (λ t. may) h.going)

  lent_handled_leaves : (next : Net) (a : Attached) (list : ListNo) (frames : List (List ℕ)) (further : List Row) (o : Option (List (List ℕ))) → passes_receives net.modules (Filter a.filter) ≡ true → IsLending list next → Going net facts (after_rows next further) → Going net facts (after_rows next (lent_handled net a list frames further o))
  lent_handled_leaves next a list frames further None may h k = back_lent next list (Filter a.filter) Dropped h.going
  lent_handled_leaves next a list frames further (Some made) may h k =
      by_test (λ rows. Going net facts (after_rows next rows)) (same_frames made frames) _ _
      (λ _. k)
      (λ _. by_test (λ rows. Going net facts (after_rows next rows)) (is_full net (Filter a.filter)) _ _
      (λ _. back_lent next list (Filter a.filter) Resources h.going)
      (λ _. copied_leaves next a list made may h))

  lent_delivery_leaves : (next : Net) (list : ListNo) (frames : List (List ℕ)) → IsLending list next → Going net facts (after_rows next (lent_delivery net list frames))
  lent_delivery_leaves next list frames h =
      by_test (λ rows. Going net facts (after_rows next rows)) (phase_is_running net.phase) _ _
      (λ _.
      let rows : List Row = delivered net list frames how.Lent (net.next.list + 1) (takers net frames) in
      subst (Going net facts) (sym (after_rows-append next rows (lent_home list Success)))
      (home_lent (after_rows next rows) list Success (delivered_goes net facts next list frames how.Lent (net.next.list + 1) (takers net frames) h.next_is h.going)))
      (λ _. back_lent next list (Binding 0) Paused h.going)

  lent_at_leaves : (next : Net) (list : ListNo) (frames : List (List ℕ)) (further : List Row) (f : ℕ) (o : Option Attached) → attached f net.modules.filters ≡ o → passes_receives net.modules (Filter f) ≡ true → ((x : Net) → IsLending list x → Going net facts (after_rows x further)) → IsLending list next →
      Going net facts (after_rows next (lent_at net o list frames further))
  lent_at_leaves next list frames further f None e may again h = again next h
  lent_at_leaves next list frames further f (Some a) e may again h =
      by_test (λ rows. Going net facts (after_rows next rows)) (is_running a.state) _ _
      (λ _.
      let given : Net = after next (row.Give list (Filter a.filter) handler.ReceiveLent) in
      let lending : IsLending list given = record {
        going = give_loose net.modules net facts.below next list (Filter a.filter) handler.ReceiveLent h.loose h.going;
        loose = still_loose net.modules net facts.below next list (Filter a.filter) handler.ReceiveLent h.loose;
        next_is = h.next_is;
      } in
      lent_handled_leaves given a list frames further (applied (max_frame net.head) a.setup.receive frames) (ap (λ g. passes_receives net.modules (Filter g)) (attached-is f net.modules.filters a e) ∙ may) lending (again given lending))
      (λ _. back_lent next list (Filter a.filter) Paused h.going)

  lent_up_leaves : (next : Net) (list : ListNo) (frames : List (List ℕ)) (fs : List ℕ) → ((f : ℕ) → is_in f fs ≡ true → passes_receives net.modules (Filter f) ≡ true) → IsLending list next → Going net facts (after_rows next (lent_up net list frames fs))
  lent_up_leaves next list frames [] may h = lent_delivery_leaves next list frames h
  lent_up_leaves next list frames (f ∷ fs) may h =
      lent_at_leaves next list frames (lent_up net list frames fs) f (attached f net.modules.filters) refl (may f (here f (is_in f fs)))
      (λ x l. lent_up_leaves x list frames fs (λ g i. may g (more (f == g) (is_in g fs) i)) l) h
    where
      here : (n : ℕ) (b : Bool) → ((n == n) || b) ≡ true
      here n b = grind (arith, nat_tests)

      more : (a b : Bool) → b ≡ true → (a || b) ≡ true
      more true b i = refl
      more false b i = i

  -- the filters that have the receive pair
  passing_in : (f : ℕ) (fs : List ℕ) → ((g : ℕ) → is_in g fs ≡ true → is_in g net.modules.order ≡ true) → is_in f (filter (has_receive net.modules) fs) ≡ true → passes_receives net.modules (Filter f) ≡ true
  passing_in f [] within i = absurd (cc)
  passing_in f (g ∷ fs) within i =
      let rest : is_in f (filter (has_receive net.modules) fs) ≡ true → passes_receives net.modules (Filter f) ≡ true = λ j. passing_in f fs (λ h k. within h (more (g == h) (is_in h fs) k)) j in
      let at : has_receive net.modules g ≡ true → (b : Bool) → (g == f) ≡ b → (b || is_in f (filter (has_receive net.modules) fs)) ≡ true → passes_receives net.modules (Filter f) ≡ true = λ t. elim [
        | true ↦ λ e j. subst (λ k. passes_receives net.modules (Filter k) ≡ true) (is_equal g f e) (both (is_in g net.modules.order) (has_receive net.modules g) (within g (itself g (is_in g fs))) t)
        | false ↦ λ e j. rest j
      ] in
      let cases : (b : Bool) → has_receive net.modules g ≡ b → is_in f (cond b (g ∷ filter (has_receive net.modules) fs) (filter (has_receive net.modules) fs)) ≡ true → passes_receives net.modules (Filter f) ≡ true = elim [
        | true ↦ λ t j. at t (g == f) refl j
        | false ↦ λ t j. rest j
      ] in
      cases (has_receive net.modules g) refl i
    where
      more : (a b : Bool) → b ≡ true → (a || b) ≡ true
      more true b i = refl
      more false b i = i

      itself : (n : ℕ) (b : Bool) → ((n == n) || b) ≡ true
      itself n b = grind (arith, nat_tests)

      is_equal : (n m : ℕ) → (n == m) ≡ true → n ≡ m
      is_equal n m e = grind (arith, nat_tests)

      both : (a b : Bool) → a ≡ true → b ≡ true → (a && b) ≡ true
      both a b h k = cc

  lent_leaves : (frames : List (List ℕ)) → Leaves net facts (lent_rows net frames)
  lent_leaves frames =
      let list : ListNo = list_no net.next.list in
      let next : Net = after net (row.Issue list Miniport (config_no net.modules.config) direction.Lent None origin.Root frames) in
      let lending : IsLending list next = record {
        going = issue_good net.modules net facts.below net list Miniport (config_no net.modules.config) direction.Lent None origin.Root frames refl tt (begins net facts);
        loose = λ x f. ap (λ (y : LiveList). y.stand) (sym (one_found (look next list.0) _ x (look_new net.modules net facts.below net list Miniport (config_no net.modules.config) direction.Lent None origin.Root frames refl facts.below) f));
        next_is = refl;
      } in
      lent_up_leaves next list frames (filter (has_receive net.modules) (reverse net.modules.order)) (λ f i. passing_in f (reverse net.modules.order) (λ g j. sym (in_reverse g net.modules.order) ∙ j) i) lending

  -- a list that a binding gives back
  give_back_leaves : (b n : ℕ) (o : Option LiveList) → list_of n (lists net.things) ≡ o → Leaves net facts (give_back_of net b o).rows
  give_back_leaves b n None e = begins net facts
  give_back_leaves b n (Some l) e =
      by_test (λ (o : Outcome). Leaves net facts o.rows) (is_kept_by (Binding b) l.stand) _ _
      (λ t.
      let number : l.list.0 ≡ n = (find_is n (lists net.things) l e).0 in
      let kept : IsKeptBy net facts (Binding b) l = kept_by net facts (Binding b) l (ap (look net) number ∙ e) (kept_is (Binding b) l.stand t) in
      go_up_back net facts net l 0 Success kept.found kept.may.0 (begins net facts))
      (λ _. begins net facts)

  take_leaves : (o : Option LiveList) → Leaves net facts (take_of net o).rows
  take_leaves None = begins net facts
  take_leaves (Some l) = skips (row.CrossOut (cross_no net.next.message) (out.Down l.list) l.frames ∷ []) (refl, tt)

  -- a taken list that is done
  done_leaves : (status : ListStatus) (o : Option LiveList) → ((l : LiveList) → o ≡ Some l → IsKeptBy net facts Miniport l) → Leaves net facts (done_of net status o).rows
  done_leaves status None w = begins net facts
  done_leaves status (Some l) w = kept_home net facts net l Miniport status (w l refl) (kin_begins net facts) (begins net facts)

  message_kept : (n : ℕ) (l : LiveList) → find (λ l. is_in_message n l.crossed) (lists net.things) ≡ Some l → IsKeptBy net facts Miniport l
  message_kept n l e =
      let is = each_find (λ x. look net x.list.0 ≡ Some x) (λ l. is_in_message n l.crossed) (lists net.things) l (all_found (lists net.things) facts.apart) e in
      kept_by net facts Miniport l is.0 (facts.crossed l is.0 (in_message n l.crossed is.1))
    where
      in_message : (n : ℕ) (o : Option CrossNo) → is_in_message n o ≡ true → is_crossed o ≡ true
      in_message n None h = cc
      in_message n (Some c) h = refl

  take_up_leaves : (binding vlan : ℕ) (o : Option Message) → Going net facts (state_after net (event.CrossTakeUp binding vlan) (take_up_of net o))
  take_up_leaves binding vlan None = begins net facts
  take_up_leaves binding vlan (Some m) = let b = begins net facts in record { all = b.all; below = b.below; more = b.more }

  pub plain_leaves : (e : Event) (c : Choice) → is_plain e ≡ true → Going net facts (state_after net e (outcome net e c))
  plain_leaves event.Initialize c p = absurd (cc)
  plain_leaves (event.Insert kind place setup) c p = absurd (cc)
  plain_leaves (event.Remove old) c p = absurd (cc)
  plain_leaves (event.Replace old kind setup) c p = absurd (cc)
  plain_leaves event.BeginPause c p = absurd (cc)
  plain_leaves event.PauseNext c p = absurd (cc)
  plain_leaves event.RestartNext c p = absurd (cc)
  plain_leaves event.Halt c p = absurd (cc)
  plain_leaves (event.Send binding cancel frames) c p =
      let K : Outcome → Type 0 = λ o. Leaves net facts o.rows in
      by_test K (phase_is_running net.phase) _ _
      (λ t. by_test K (is_full net (Binding binding)) _ _ (λ _. begins net facts)
      (λ t. sent_goes net facts net net.next.list binding cancel frames refl (not_full net facts binding t) (begins net facts)))
      (λ _. begins net facts)
  plain_leaves (event.Indicate frames) c p =
      let K : Outcome → Type 0 = λ o. Leaves net facts o.rows in
      by_test K (is_running net.modules.miniport) _ _
      (λ t. by_test K (is_full net Miniport) _ _ (λ _. begins net facts)
      (λ _. indicated_goes net facts net net.next.list frames refl (begins net facts)))
      (λ _. begins net facts)
  plain_leaves (event.Lend frames) c p =
      let K : Outcome → Type 0 = λ o. Leaves net facts o.rows in
      by_test K (is_running net.modules.miniport) _ _
      (λ t. by_test K (is_full net Miniport) _ _ (λ _. begins net facts) (λ _. lent_leaves frames))
      (λ _. begins net facts)
  plain_leaves (event.GiveBack binding list) c p = give_back_leaves binding list.0 (list_of list.0 (lists net.things)) refl
  plain_leaves (event.Cancel id) c p = cancel_leaves id
  plain_leaves (event.Ask binding kind code value) c p =
      by_test (λ (o : Outcome). Leaves net facts o.rows) (is_unbound (state_of net (Binding binding))) _ _ (λ _. begins net facts) (λ _. skips (row.OidIssue (oid_no net.next.request) None binding kind code value ∷ []) (refl, tt))
  plain_leaves (event.Status name) c p =
      by_test (λ (o : Outcome). Leaves net facts o.rows) (is_halted net.modules.miniport) _ _ (λ _. begins net facts) (λ _. skips (row.Status (status_no net.next.status) name (next_status net.modules (position net.modules.order Miniport)) ∷ []) (refl, tt))
  plain_leaves event.Transmit c p = transmit_by (first_in_ring net) (λ l e. ring_first (is_virtual net.head.kind) l e)
  plain_leaves event.Pump c p = pump_leaves c.keeps (agenda_first net) refl
  plain_leaves event.Drain c p = drain_leaves c.keeps
  plain_leaves event.CrossTake c p = take_leaves (first_uncrossed net)
  plain_leaves (event.CrossPut stack message vlan frames) c p =
      let K : Outcome → Type 0 = λ o. Leaves net facts o.rows in
      by_test K (phase_is_running net.phase) _ _
      (λ t. by_test K (list_any (is_too_long_tagged net.head) frames) _ _ (λ _. begins net facts)
      (λ _. by_test K (is_full net (Binding (mux_binding_for net.head stack))) _ _ (λ _. begins net facts)
      (λ t. sent_goes net facts (after net (row.CrossIn stack message crossing.Down frames)) net.next.list (mux_binding_for net.head stack) None _ refl (not_full net facts (mux_binding_for net.head stack) t)
      (skip_good net.modules net facts.below net (row.CrossIn stack message crossing.Down frames) refl (begins net facts)))))
      (λ _. begins net facts)
  plain_leaves (event.CrossDone message status) c p = done_leaves status (find (λ l. is_in_message message.0 l.crossed) (lists net.things)) (λ l e. message_kept message.0 l e)
  plain_leaves (event.CrossTakeUp binding vlan) c p = take_up_leaves binding vlan (find (is_for binding vlan) net.messages)
  plain_leaves (event.CrossPutUp stack message frames) c p =
      let K : Outcome → Type 0 = λ o. Leaves net facts o.rows in
      by_test K (is_running net.modules.miniport) _ _
      (λ t. by_test K (is_full net Miniport) _ _ (λ _. begins net facts)
      (λ _. indicated_goes net facts (after net (row.CrossIn stack message crossing.Up frames)) net.next.list frames refl
      (skip_good net.modules net facts.below net (row.CrossIn stack message crossing.Up frames) refl (begins net facts))))
      (λ _. begins net facts)
