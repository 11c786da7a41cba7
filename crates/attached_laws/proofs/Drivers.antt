-- No filter is given a driver twice.
use Rattle.std.proofs.Common.{◌≡◌, ℕ, ◌+◌, ◌<◌, ◌≤◌, ◌==◌, not, Bool, true, false, cond, List, [], ◌∷◌, ◌++◌, Option, Some, None, option_map, find, length, refl, ap, sym, ◌∙◌, arith, subst, append_assoc, append-nil}
use Rattle.std.proofs.lemmas.Bool.Decides.{nat_tests}
use Rattle.ndis_base.specs.declared.FilterKind.{FilterKind}
use Rattle.ndis_base.specs.declared.ModuleId.{ModuleId}
use Rattle.ndis_base.specs.declared.ModuleId.TheVariants.{Miniport, Filter, Binding}
use Rattle.ndis_base.specs.declared.ModuleState.{ModuleState}
use Rattle.ndis_base.specs.declared.ModuleState.TheVariants as state
use Rattle.journal_types.specs.declared.Event.{Event}
use Rattle.journal_types.specs.declared.Event.TheVariants as event
use Rattle.journal_types.specs.declared.PhaseOf.TheVariants as of
use Rattle.journal_types.specs.declared.Reply.{Reply}
use Rattle.journal_types.specs.declared.Reply.TheVariants as reply
use Rattle.journal_types.specs.declared.Row.{Row}
use Rattle.journal_types.specs.declared.Row.TheVariants as row
use Rattle.journal_types.specs.declared.StackHead.{StackHead}
use Rattle.journal_types.specs.declared.Turn.{Turn}
use Rattle.stack_rules.specs.declared.Choice.{Choice}
use Rattle.stack_rules.specs.Tests.{phase_is_paused}
use Rattle.stack_rules.specs.Net.{Net, start, seen, told, after, after_rows, after_turn, after_turns, filter_after}
use Rattle.stack_rules.specs.Outcome.{Outcome, max_filters}
use Rattle.stack_rules.specs.Pauses.{live_items}
use Rattle.stack_rules.specs.Rewires.{is_in, is_bad_position}
use Rattle.stack_rules.specs.Sound.{Next, Sound, SoundFrom, outcome}
use Rattle.state_laws.proofs.Rows.{by_test}
use Rattle.state_laws.proofs.Events.{state_after, plain_same, turn_is}
use Rattle.family_laws.proofs.Changes.{is_attaching, OfChanges, Every, initialize_every, begin_every, pause_every, restart_every, halt_every, remove_every}
use Rattle.promise_rules.specs.Drivers.{Shelf, shelf_told, shelf_at, shelf_in_rows, shelf_in_turns, shelf_of, taken_for, taken_from, is_of_kind, driver_of}
use Rattle.attached_laws.specs.Drivers.{AreApart, EachHasOneDriver}

-- rows give no driver to a filter
row_drivers : (r : Row) (shelf : Shelf) → (shelf_at r shelf).drivers ≡ shelf.drivers
row_drivers (row.Phase (of.Stack p)) shelf = refl
row_drivers (row.Phase (of.Module Miniport s)) shelf = refl
row_drivers (row.Phase (of.Module (Binding b) s)) shelf = refl
row_drivers (row.Phase (of.Module (Filter f) state.Detached)) shelf = refl
row_drivers (row.Phase (of.Module (Filter f) s)) shelf = refl
row_drivers r shelf = refl

pub rows_drivers : (rows : List Row) (shelf : Shelf) → (shelf_in_rows rows shelf).drivers ≡ shelf.drivers
rows_drivers [] shelf = refl
rows_drivers (r ∷ rows) shelf = rows_drivers rows (shelf_at r shelf) ∙ row_drivers r shelf

-- drivers are only added
pub record AreMore (old new : List (ℕ × ℕ)) : Type 0 where
  pub more : List (ℕ × ℕ)
  pub are : new ≡ old ++ more

same_more : (old new : List (ℕ × ℕ)) → new ≡ old → AreMore old new
same_more old new e = record { more = []; are = e ∙ sym (append-nil old) }

more_then : (a b c : List (ℕ × ℕ)) → AreMore a b → AreMore b c → AreMore a c
more_then a b c h k = record { more = h.more ++ k.more; are = k.are ∙ ap (λ ds. ds ++ k.more) h.are ∙ append_assoc a h.more k.more }

taken_more : (f : ℕ) (shelf : Shelf) (o : Option ℕ) → AreMore shelf.drivers (taken_from f shelf o).drivers
taken_more f shelf None = same_more shelf.drivers shelf.drivers refl
taken_more f shelf (Some place) = record { more = (f, place) ∷ []; are = refl }

told_more : (kinds : List FilterKind) (e : Event) (r : Reply) (shelf : Shelf) → AreMore shelf.drivers (shelf_told kinds e r shelf).drivers
told_more kinds (event.Insert kind position setup) (reply.Inserted f) shelf = taken_more f shelf (find (is_of_kind kind kinds) shelf.places)
told_more kinds (event.Replace old kind setup) (reply.Replaced f) shelf = taken_more f shelf (find (is_of_kind kind kinds) shelf.places)
told_more kinds e r shelf = same_more shelf.drivers shelf.drivers refl

turns_more : (kinds : List FilterKind) (turns : List Turn) (shelf : Shelf) → AreMore shelf.drivers (shelf_in_turns kinds turns shelf).drivers
turns_more kinds [] shelf = same_more shelf.drivers shelf.drivers refl
turns_more kinds (t ∷ ts) shelf =
    let begun : Shelf = shelf_told kinds t.event t.reply shelf in
    let next : Shelf = shelf_in_rows t.rows begun in
    more_then shelf.drivers next.drivers (shelf_in_turns kinds ts next).drivers
    (more_then shelf.drivers begun.drivers next.drivers (told_more kinds t.event t.reply shelf) (same_more begun.drivers next.drivers (rows_drivers t.rows begun)))
    (turns_more kinds ts next)

in_turns : (kinds : List FilterKind) (before later : List Turn) (shelf : Shelf) → shelf_in_turns kinds (before ++ later) shelf ≡ shelf_in_turns kinds later (shelf_in_turns kinds before shelf)
in_turns kinds [] later shelf = refl
in_turns kinds (t ∷ before) later shelf = in_turns kinds before later (shelf_in_rows t.rows (shelf_told kinds t.event t.reply shelf))

-- so the drivers after a longer journal begin with those before
pub drivers_more : (kinds : List FilterKind) (before later : List Turn) → AreMore (shelf_of kinds before).drivers (shelf_of kinds (before ++ later)).drivers
drivers_more kinds before later =
    subst (λ (s : Shelf). AreMore (shelf_of kinds before).drivers s.drivers) (sym (in_turns kinds before later (shelf_of kinds []))) (turns_more kinds later (shelf_of kinds before))

-- all filters that have or had drivers have numbers below this one
abbrev AreBelow : ℕ → List (ℕ × ℕ) → Type 0
AreBelow n [] = Unit {0}
AreBelow n (d ∷ ds) = (d.0 < n) × AreBelow n ds

below_more : (n m : ℕ) (ds : List (ℕ × ℕ)) → n ≤ m → AreBelow n ds → AreBelow m ds
below_more n m [] h k = tt
below_more n m (d ∷ ds) h k = (omega (arith, h, k.0), below_more n m ds h k.1)

below_push : (n place : ℕ) (ds : List (ℕ × ℕ)) → AreBelow n ds → AreBelow (n + 1) (ds ++ (n, place) ∷ [])
below_push n place [] k = (omega arith, tt)
below_push n place (d ∷ ds) k = (omega (arith, k.0), below_push n place ds k.1)

none_pushed : (n place f : ℕ) (ds : List (ℕ × ℕ)) → f < n → driver_of ds f ≡ None → driver_of (ds ++ (n, place) ∷ []) f ≡ None
none_pushed n place f [] h e = let other : (n == f) ≡ false = grind (arith, nat_tests) in ap (λ b. option_map (λ (d : ℕ × ℕ). d.1) (cond b (Some (n, place)) None)) other
none_pushed n place f (d ∷ ds) h e = by_number (d.0 == f) (none_pushed n place f ds h) e
  where
    by_number : (b : Bool) → (driver_of ds f ≡ None → driver_of (ds ++ (n, place) ∷ []) f ≡ None) → option_map (λ (d : ℕ × ℕ). d.1) (cond b (Some d) (find (λ d. d.0 == f) ds)) ≡ None
        → option_map (λ (d : ℕ × ℕ). d.1) (cond b (Some d) (find (λ d. d.0 == f) (ds ++ (n, place) ∷ []))) ≡ None
    by_number true rest e = cc
    by_number false rest e = rest e

apart_push : (n place : ℕ) (ds : List (ℕ × ℕ)) → AreBelow n ds → AreApart ds → AreApart (ds ++ (n, place) ∷ [])
apart_push n place [] k h = (refl, tt)
apart_push n place (d ∷ ds) k h = (none_pushed n place d.0 ds k.0 h.0, apart_push n place ds k.1 h.1)

-- each turn keeps that
record IsKept (n : ℕ) (ds : List (ℕ × ℕ)) : Type 0 where
  below : AreBelow n ds
  apart : AreApart ds

kept_taken : (n : ℕ) (shelf : Shelf) (o : Option ℕ) → IsKept n shelf.drivers → IsKept (n + 1) (taken_from n shelf o).drivers
kept_taken n shelf None k = record { below = below_more n (n + 1) shelf.drivers (omega arith) k.below; apart = k.apart }
kept_taken n shelf (Some place) k = record { below = below_push n place shelf.drivers k.below; apart = apart_push n place shelf.drivers k.below k.apart }

-- rows by which no filter attaches
abbrev SameNext : Row → Type 0
SameNext r = (net : Net) → (after net r).next.filter ≡ net.next.filter

attach_not : (m : ModuleId) (s : ModuleState) (n : ℕ) → is_attaching s ≡ false → filter_after m s n ≡ n
attach_not Miniport s n h = refl
attach_not (Binding b) s n h = refl
attach_not (Filter f) state.Attaching n h = cc
attach_not (Filter f) _ n h = refl

of_next : OfChanges SameNext
of_next = record { states = λ s m h net. attach_not m s net.next.filter h; stack = λ p net. refl }

next_rows : (net : Net) (rows : List Row) → Every SameNext rows → (after_rows net rows).next.filter ≡ net.next.filter
next_rows net [] h = refl
next_rows net (r ∷ rows) h = next_rows (after net r) rows h.1 ∙ h.0 net

module _ (kinds : List FilterKind) (shelf : Shelf) (net : Net) (k : IsKept net.next.filter shelf.drivers) where
  abbrev Kept : Event → Outcome → Type 0
  Kept e o = IsKept (state_after net e o).next.filter (shelf_told kinds e o.reply shelf).drivers

  still : (n : ℕ) → n ≡ net.next.filter → IsKept n shelf.drivers
  still n e = subst (λ n. IsKept n shelf.drivers) (sym e) k

  event_keeps : (e : Event) (c : Choice) → Kept e (outcome net e c)
  event_keeps (event.Insert kind position setup) c =
      let K : Outcome → Type 0 = Kept (event.Insert kind position setup) in
      by_test K (phase_is_paused net.phase) _ _
      (λ _. by_test K (live_items net == 0) _ _
      (λ _. by_test K (length net.modules.order == max_filters net.head) _ _ (λ _. k)
      (λ _. by_test K (is_bad_position net position) _ _ (λ _. k)
      (λ _. by_test K c.shelf_empty _ _ (λ _. k)
      (λ _. by_test K c.refuses _ _ (λ _. k) (λ _. kept_taken net.next.filter shelf (find (is_of_kind kind kinds) shelf.places) k)))))
      (λ _. k))
      (λ _. k)
  event_keeps (event.Replace old kind setup) c =
      let K : Outcome → Type 0 = Kept (event.Replace old kind setup) in
      by_test K (phase_is_paused net.phase) _ _
      (λ _. by_test K (live_items net == 0) _ _
      (λ _. by_test K (is_in old net.modules.order) _ _
      (λ _. by_test K c.shelf_empty _ _ (λ _. k)
      (λ _. by_test K c.refuses _ _ (λ _. k) (λ _. kept_taken net.next.filter shelf (find (is_of_kind kind kinds) shelf.places) k)))
      (λ _. k))
      (λ _. k))
      (λ _. k)
  event_keeps event.Initialize c = still _ (next_rows net _ (initialize_every SameNext of_next (λ config filters n. refl) net c.refuses))
  event_keeps (event.Remove g) c = still _ (next_rows net _ (remove_every SameNext of_next (λ config filters n. refl) net g))
  event_keeps event.BeginPause c = still _ (next_rows net _ (begin_every SameNext of_next net))
  event_keeps event.PauseNext c = still _ (next_rows net _ (pause_every SameNext of_next net))
  event_keeps event.RestartNext c = still _ (next_rows net _ (restart_every SameNext of_next net))
  event_keeps event.Halt c = still _ (next_rows net _ (halt_every SameNext of_next net))
  event_keeps e c = still _ (plain_same net e c refl).filter

  turn_keeps : (t : Turn) → Next net t → IsKept (after_turn net t).next.filter (shelf_in_rows t.rows (shelf_told kinds t.event t.reply shelf)).drivers
  turn_keeps t n =
      subst (λ ds. IsKept (after_turn net t).next.filter ds) (sym (rows_drivers t.rows (shelf_told kinds t.event t.reply shelf)))
      (subst (λ (x : Net). IsKept x.next.filter (shelf_told kinds t.event t.reply shelf).drivers) (sym (turn_is net t n))
      (subst (λ r. IsKept (state_after net t.event (outcome net t.event n.choice)).next.filter (shelf_told kinds t.event r shelf).drivers) (sym n.reply) (event_keeps t.event n.choice)))

turns_keep : (kinds : List FilterKind) (shelf : Shelf) (net : Net) (turns : List Turn) → SoundFrom net turns → IsKept net.next.filter shelf.drivers → IsKept (after_turns net turns).next.filter (shelf_in_turns kinds turns shelf).drivers
turns_keep kinds shelf net [] s k = k
turns_keep kinds shelf net (t ∷ ts) s k = turns_keep kinds (shelf_in_rows t.rows (shelf_told kinds t.event t.reply shelf)) (after_turn net t) ts s.1 (turn_keeps kinds shelf net k t s.0)

pub each_has_one_driver : EachHasOneDriver
each_has_one_driver head turns s kinds = (turns_keep kinds (shelf_of kinds []) (start head) turns s record { below = tt; apart = tt }).apart
