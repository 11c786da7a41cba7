-- The filters' drivers of a run count what its journal tells of the filters that they stood for.
use Rattle.std.proofs.Common.{◌≡◌, ◌⊎◌, inl, inr, ℕ, ◌+◌, ◌==◌, Bool, true, false, cond, List, [], ◌∷◌, ◌++◌, Some, None, count_by, flat_map, map, sum_by, refl, sym, ap, ◌∙◌, subst, arith, append_assoc, append-nil}
use Rattle.ndis_base.specs.declared.FilterKind.{FilterKind}
use Rattle.ndis_base.specs.declared.ModuleId.TheVariants.{Filter}
use Rattle.journal_types.specs.declared.Row.{Row}
use Rattle.journal_types.specs.declared.StackHead.{StackHead}
use Rattle.journal_types.specs.declared.Turn.{Turn}
use Rattle.script_types.specs.declared.Call.{Call}
use Rattle.script_types.specs.declared.FilterSetup.{FilterSetup}
use Rattle.stack_rules.specs.declared.Attached.{Attached}
use Rattle.stack_rules.specs.Net.{Net, attached, seen, start, told, after_turn, after_turns}
use Rattle.stack_rules.specs.Sound.{Next, Sound}
use Rattle.rule_basics.proofs.Counts.{count_by-append}
use Rattle.state_laws.proofs.Takes.{attached-is}
use Rattle.promise_rules.specs.declared.Called.{Called}
use Rattle.promise_rules.specs.Calls.{is_call_of, served}
use Rattle.promise_rules.specs.Drivers.{shelf_of, driver_of}
use Rattle.served_laws.proofs.Served.{each_is_served}
use Rattle.attached_laws.specs.Drivers.{AreApart}
use Rattle.attached_laws.proofs.Calls.{each_calls_attached}
use Rattle.attached_laws.proofs.Drivers.{AreMore, drivers_more, each_has_one_driver}
use Rattle.driver_views.specs.States.{FilterState, Record, times}
use Rattle.book_lemmas.specs.Did.{Did, IsServed, IsIdle as Idles, calls_in, calls_of, logs_in}
use Rattle.book_lemmas.specs.Stands.{IsShelved, IsSeated}
use Rattle.book_lemmas.specs.Views.{BookView, HeldView, filter_at, seat_of, IsVacant}
use Rattle.book_parts.specs.Events.{IsBook, IsIdle}
use Rattle.book_parts.proofs.Ended.{idle_state}
use Rattle.book_runs.specs.Adds.{Adds, AddsThis}
use Rattle.book_runs.specs.Runs.{IsBetween}
use Rattle.book_scripts.specs.Scripts.{RunsWhole}
use Rattle.book_scripts.specs.Served.{FiltersServed, served_at}
use Rattle.book_scripts.proofs.Laws.{run_is_sound}
use Rattle.book_scripts.proofs.Refusals.{filters_refused}
use Rattle.book_scripts.proofs.Seats.{Sits, SitsThere, at_place, counted_seated, counted_vacant, driver_still, each_of, none_at, seated_or_vacant, sums_add, sums_alike, sums_none}
use Rattle.book_scripts.proofs.Whole.{added_turns, turn_is}

-- the kinds of the filters' drivers, and the driver at a place
abbrev kinds_of : HeldView → List FilterKind
kinds_of held = map (λ s. s.kind) held.filters

abbrev did_at : HeldView → ℕ → Record
did_at held place = (filter_at held.filters (Some place)).did

turns_push : (net : Net) (before : List Turn) (t : Turn) → after_turns net (before ++ t ∷ []) ≡ after_turn (after_turns net before) t
turns_push net [] t = refl
turns_push net (b ∷ before) t = turns_push (after_turn net b) before t

-- the state after a turn that was added
state_then : (old mid : BookView) (t : Turn) → AddsThis old mid t → seen mid.tray.head mid.tray.turns ≡ after_turn (seen old.tray.head old.tray.turns) t
state_then old mid t p =
    ap (λ (h : StackHead). seen h mid.tray.turns) p.adds.head
    ∙ ap (seen old.tray.head) (added_turns old mid (t ∷ []) (mid, p, refl))
    ∙ turns_push (start old.tray.head) old.tray.turns t

idle_then : (old mid : BookView) (t : Turn) → AddsThis old mid t → IsIdle mid
idle_then old mid t p = record { rows = p.adds.idle; told_by = p.adds.untold }

-- filters log nothing
logs_none : (f : ℕ) (rows : List Row) → logs_in (Filter f) rows ≡ []
logs_none f [] = refl
logs_none f (r ∷ rows) = logs_none f rows

log_stays : (seats : List (ℕ × ℕ)) (old new : HeldView) (net : Net) (rows : List Row) (place : ℕ) → Did seats old new net rows → (did_at new place).log ≡ (did_at old place).log
log_stays seats old new net rows place d = by_seat (seated_or_vacant seats place)
  where
    by_seat : SitsThere seats place ⊎ IsVacant seats place → (did_at new place).log ≡ (did_at old place).log
    by_seat (inl s) = (d.filters s.filter place s.seat).log ∙ ap (λ l. (did_at old place).log ++ l) (logs_none s.filter rows) ∙ append-nil (did_at old place).log
    by_seat (inr vacant) = (d.shelved place vacant).log

logs_stay : (place : ℕ) (old new : BookView) (ts : List Turn) → Adds old new ts → (did_at new.held place).log ≡ (did_at old.held place).log
logs_stay place old new [] p = ap (λ (v : BookView). (did_at v.held place).log) (sym p)
logs_stay place old new (t ∷ ts) p = logs_stay place p.0 new ts p.2 ∙ log_stays old.held.seats old.held p.0.held _ _ place p.1.adds.did

-- counts at a place add up
both_at : (place : ℕ) (f g h : ℕ → ℕ) → ((n : ℕ) → h n ≡ f n + g n) → (d : ℕ × ℕ) → at_place place h d ≡ at_place place f d + at_place place g d
both_at place f g h is d = by_test (d.1 == place)
  where
    by_test : (b : Bool) → cond b (h d.0) 0 ≡ cond b (f d.0) 0 + cond b (g d.0) 0
    by_test true = is d.0
    by_test false = refl

alike_at : (place : ℕ) (f g : ℕ → ℕ) → ((n : ℕ) → f n ≡ g n) → (d : ℕ × ℕ) → at_place place f d ≡ at_place place g d
alike_at place f g is d = ap (λ n. cond (d.1 == place) n 0) (is d.0)

module _ (what : Called) (place : ℕ) (kinds : List FilterKind) (ds : List (ℕ × ℕ)) (apart : AreApart ds) where
  -- what a filter is called for in a turn, and in some
  abbrev counts_in : Net → Turn → ℕ → ℕ
  counts_in net t f = count_by (is_call_of (Filter f) what) (calls_in (told net t.event t.reply) t.rows)

  abbrev counts_of : Net → List Turn → ℕ → ℕ
  counts_of net ts f = count_by (is_call_of (Filter f) what) (calls_of net ts)

  -- a turn
  module _ (old mid : BookView) (t : Turn) (p : AddsThis old mid t) (k : IsBook old) (i : IsIdle old) (s : IsShelved old.tray.net old.tray.turns old.held) (same : kinds_of old.held ≡ kinds)
      (more : AreMore (shelf_of kinds old.tray.turns).drivers ds) where
    before : old.tray.net ≡ seen old.tray.head old.tray.turns
    before = idle_state old k i

    absent_none : (f : ℕ) → attached f old.tray.net.modules.filters ≡ None → counts_in (seen old.tray.head old.tray.turns) t f ≡ 0
    absent_none f e =
        let next : Next (seen old.tray.head old.tray.turns) t = subst (Next (seen old.tray.head old.tray.turns)) (turn_is t old mid p) p.adds.next in
        each_calls_attached old.tray.head old.tray.turns t k.follows.sound k.bound next f (sym (ap (λ (n : Net). attached f n.modules.filters) before) ∙ e) what

    sits : (f : ℕ) (a : Attached) → attached f old.tray.net.modules.filters ≡ Some a → Sits old.held.seats ds f
    sits f a e =
        let seated : IsSeated old.held a = k.stands.seated f a e in
        let seat : seat_of old.held.seats f ≡ Some seated.place = ap (seat_of old.held.seats) (sym (attached-is f old.tray.net.modules.filters a e)) ∙ seated.seat in
        let driver : driver_of (shelf_of kinds old.tray.turns).drivers f ≡ Some seated.place =
        ap (λ ks. driver_of (shelf_of ks old.tray.turns).drivers f) (sym same) ∙ sym (s.seats f a e) ∙ seat in
        record { place = seated.place; seat = seat; driver = ap (λ es. driver_of es f) more.are ∙ driver_still f seated.place (shelf_of kinds old.tray.turns).drivers more.more driver }

    turn_counts : times (did_at mid.held place).served what ≡ times (did_at old.held place).served what + sum_by (at_place place (counts_in (seen old.tray.head old.tray.turns) t)) ds
    turn_counts = by_seat (seated_or_vacant old.held.seats place)
      where
        by_seat : SitsThere old.held.seats place ⊎ IsVacant old.held.seats place
            → times (did_at mid.held place).served what ≡ times (did_at old.held place).served what + sum_by (at_place place (counts_in (seen old.tray.head old.tray.turns) t)) ds
        by_seat (inl there) =
            let did : IsServed (Filter there.filter) (told (seen old.tray.head old.tray.turns) t.event t.reply) t.rows (did_at old.held place) (did_at mid.held place) =
            subst (λ rows. IsServed (Filter there.filter) (told (seen old.tray.head old.tray.turns) t.event t.reply) rows (did_at old.held place) (did_at mid.held place)) (sym p.rows) (p.adds.did.filters there.filter place there.seat) in
            did.calls what
            ∙ ap (λ n. times (did_at old.held place).served what + n)
            (sym (counted_seated old.held.seats ds old.tray.net.modules.filters (counts_in (seen old.tray.head old.tray.turns) t) apart k.stands.apart absent_none sits place there.filter there.seat))
        by_seat (inr vacant) =
            let idle = (p.adds.did.shelved place vacant).calls what in
            let none = counted_vacant old.held.seats ds old.tray.net.modules.filters (counts_in (seen old.tray.head old.tray.turns) t) apart k.stands.apart absent_none sits place vacant in
            omega (arith, idle, none)

  -- turns, one after the other
  turns_count : (old new : BookView) (ts : List Turn) → Adds old new ts → IsBook old → IsIdle old → IsShelved old.tray.net old.tray.turns old.held → kinds_of old.held ≡ kinds
      → ds ≡ (shelf_of kinds (old.tray.turns ++ ts)).drivers
      → times (did_at new.held place).served what ≡ times (did_at old.held place).served what + sum_by (at_place place (counts_of (seen old.tray.head old.tray.turns) ts)) ds
  turns_count old new [] p k i s same are =
      let still = ap (λ (v : BookView). times (did_at v.held place).served what) (sym p) in
      let none : sum_by (at_place place (counts_of (seen old.tray.head old.tray.turns) [])) ds ≡ 0 =
      sums_none (at_place place (counts_of (seen old.tray.head old.tray.turns) [])) ds
      (each_of (λ d. at_place place (counts_of (seen old.tray.head old.tray.turns) []) d ≡ 0) (λ d. none_at place (counts_of (seen old.tray.head old.tray.turns) []) d refl) ds) in
      omega (arith, still, none)
  turns_count old new (t ∷ ts) p k i s same are =
      let net : Net = seen old.tray.head old.tray.turns in
      let mid : BookView = p.0 in
      let longer : mid.tray.turns ++ ts ≡ old.tray.turns ++ t ∷ ts = ap (λ xs. xs ++ ts) (added_turns old mid (t ∷ []) (mid, p.1, refl)) ∙ append_assoc old.tray.turns (t ∷ []) ts in
      let more : AreMore (shelf_of kinds old.tray.turns).drivers ds = subst (AreMore (shelf_of kinds old.tray.turns).drivers) (sym are) (drivers_more kinds old.tray.turns (t ∷ ts)) in
      let here = turn_counts old mid t p.1 k i s same more in
      let rest = turns_count mid new ts p.2 p.1.book (idle_then old mid t p.1) (p.1.adds.shelved s) (p.1.adds.did.keeps.kinds ∙ same) (are ∙ ap (λ xs. (shelf_of kinds xs).drivers) (sym longer)) in
      let later = ap (λ n. sum_by (at_place place (counts_of n ts)) ds) (state_then old mid t p.1) in
      let whole =
      sums_add (at_place place (counts_in net t)) (at_place place (counts_of (after_turn net t) ts)) (at_place place (counts_of net (t ∷ ts))) ds
      (both_at place (counts_in net t) (counts_of (after_turn net t) ts) (counts_of net (t ∷ ts)) (λ f. count_by-append (is_call_of (Filter f) what) (calls_in (told net t.event t.reply) t.rows) (calls_of (after_turn net t) ts))) in
      omega (arith, here, rest, later, whole)

-- from no turn on
pub run_filters_served : (filters : List FilterSetup) (calls : List Call) (a b : BookView) → a.tray.turns ≡ [] → IsBetween a → RunsWhole filters calls a b → IsShelved a.tray.net a.tray.turns a.held → FiltersServed b.tray.turns a.held.filters b.held.filters
run_filters_served filters calls a b none k w s = record {
  calls = λ place what.
      let kinds : List FilterKind = kinds_of a.held in
      let all : List Turn = b.tray.turns in
      let are : all ≡ w.added.more = w.turns ∙ ap (λ ts. ts ++ w.added.more) none in
      let sound : Sound a.tray.head all = run_is_sound filters calls a b w in
      let ds : List (ℕ × ℕ) = (shelf_of kinds all).drivers in
      let counted = turns_count what place kinds ds (each_has_one_driver a.tray.head all sound kinds) a b w.added.more w.added.adds k.book k.idle s refl (ap (λ ts. (shelf_of kinds ts).drivers) w.turns) in
      let begun : seen a.tray.head a.tray.turns ≡ start a.tray.head = ap (seen a.tray.head) none in
      let same : sum_by (at_place place (λ f. count_by (is_call_of (Filter f) what) (calls_of (seen a.tray.head a.tray.turns) w.added.more))) ds ≡ served_at kinds all place what =
      sums_alike (at_place place (λ f. count_by (is_call_of (Filter f) what) (calls_of (seen a.tray.head a.tray.turns) w.added.more))) (at_place place (λ f. served all (Filter f) what)) ds
      (alike_at place (λ f. count_by (is_call_of (Filter f) what) (calls_of (seen a.tray.head a.tray.turns) w.added.more)) (λ f. served all (Filter f) what)
      (λ f. ap (λ (n : Net). count_by (is_call_of (Filter f) what) (calls_of n w.added.more)) begun ∙ ap (λ ts. count_by (is_call_of (Filter f) what) (calls_of (start a.tray.head) ts)) (sym are) ∙ sym (each_is_served a.tray.head all sound (Filter f) what))) in
      omega (arith, counted, same);
  log = λ place. logs_stay place a b w.added.more w.added.adds;
  refusals = λ place. filters_refused place a b b.tray.turns w.added.more none (w.turns ∙ ap (λ ts. ts ++ w.added.more) none) w.added.adds k.book s;
}
