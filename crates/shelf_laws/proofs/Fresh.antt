-- The drivers that filters have or had belong to numbers below the next one.
use Rattle.std.proofs.Common.{◌≡◌, ℕ, ◌+◌, ◌≤◌, ◌<◌, ◌==◌, true, false, cond, List, [], ◌∷◌, Option, Some, None, option_map, find, length, refl, arith, ap, sym, subst, ◌∙◌, All}
use Rattle.std.proofs.lemmas.Bool.Decides.{nat_tests}
use Rattle.std.proofs.lemmas.List.Elements.{All-nil, All-head, All-tail, All-push, All-weaker}
use Rattle.ndis_base.specs.declared.FilterKind.{FilterKind}
use Rattle.ndis_base.specs.declared.ModuleId.{ModuleId}
use Rattle.ndis_base.specs.declared.ModuleId.TheVariants.{Miniport, Filter, Binding}
use Rattle.ndis_base.specs.declared.ModuleState.{ModuleState}
use Rattle.ndis_base.specs.declared.ModuleState.TheVariants as state
use Rattle.journal_types.specs.declared.Event.{Event}
use Rattle.journal_types.specs.declared.Event.TheVariants as event
use Rattle.journal_types.specs.declared.PhaseOf.TheVariants as of
use Rattle.journal_types.specs.declared.Refusal.{Refusal}
use Rattle.journal_types.specs.declared.Refusal.TheVariants as refusal
use Rattle.journal_types.specs.declared.Reply.{Reply}
use Rattle.journal_types.specs.declared.Row.{Row}
use Rattle.journal_types.specs.declared.Row.TheVariants as row
use Rattle.journal_types.specs.declared.Setup.{Setup}
use Rattle.journal_types.specs.declared.StackHead.{StackHead}
use Rattle.journal_types.specs.declared.Turn.{Turn}
use Rattle.stack_rules.specs.declared.Choice.{Choice}
use Rattle.stack_rules.specs.Tests.{phase_is_paused}
use Rattle.stack_rules.specs.Net.{Net, start, after, after_rows, after_turn, after_turns, seen, filter_after}
use Rattle.stack_rules.specs.Outcome.{Outcome, refused, max_filters}
use Rattle.stack_rules.specs.Pauses.{live_items}
use Rattle.stack_rules.specs.Rewires.{is_in, is_bad_position, inserted, replaced, insert_outcome, replace_outcome}
use Rattle.stack_rules.specs.Sound.{outcome, Next, SoundFrom, Sound}
use Rattle.promise_rules.specs.Drivers.{Shelf, is_of_kind, taken_from, shelf_told, shelf_at, shelf_in_rows, shelf_in_turns, shelf_of, driver_of, places_from}
use Rattle.state_laws.proofs.Rows.{by_test}
use Rattle.state_laws.proofs.Quiet.{is_plain}
use Rattle.state_laws.proofs.Events.{state_after, plain_same, turn_is}
use Rattle.family_laws.proofs.Changes.{is_attaching, OfChanges, Every, initialize_every, begin_every, pause_every, restart_every, halt_every, remove_every}

-- rows by which no filter attaches leave the next number
abbrev SameNext : Row → Type 0
SameNext r = (net : Net) → (after net r).next.filter ≡ net.next.filter

attach_not : (m : ModuleId) (s : ModuleState) (n : ℕ) → is_attaching s ≡ false → filter_after m s n ≡ n
attach_not Miniport s n h = refl
attach_not (Binding b) s n h = refl
attach_not (Filter f) state.Attaching n h = cc
attach_not (Filter f) _ n h = refl

of_next : OfChanges SameNext
of_next = record { states = λ s m h net. attach_not m s net.next.filter h; stack = λ p net. refl }

next_rows : (net : Net) (rows : List Row) → Every SameNext rows → (after_rows net rows).next.filter ≡ net.next.filter
next_rows net [] h = refl
next_rows net (r ∷ rows) h = next_rows (after net r) rows h.1 ∙ h.0 net

-- a goal about an insertion, by whether it is refused
pub by_insert : (K : Outcome → Type 0) (net : Net) (position : ℕ) (c : Choice) → ((why : Refusal) → K (refused why)) → K (inserted net position) → K (insert_outcome net position c)
by_insert K net position c no_change change =
    by_test K (phase_is_paused net.phase) _ _
    (λ _. by_test K (live_items net == 0) _ _
    (λ _. by_test K (length net.modules.order == max_filters net.head) _ _ (λ _. no_change refusal.Full)
    (λ _. by_test K (is_bad_position net position) _ _ (λ _. no_change refusal.BadPosition)
    (λ _. by_test K c.shelf_empty _ _ (λ _. no_change refusal.ShelfEmpty) (λ _. by_test K c.refuses _ _ (λ _. no_change refusal.AttachRefused) (λ _. change)))))
    (λ _. no_change (refusal.Busy (live_items net))))
    (λ _. no_change refusal.NotPaused)

-- and about a replacement
pub by_replace : (K : Outcome → Type 0) (net : Net) (old : ℕ) (c : Choice) → ((why : Refusal) → K (refused why)) → K (replaced net old) → K (replace_outcome net old c)
by_replace K net old c no_change change =
    by_test K (phase_is_paused net.phase) _ _
    (λ _. by_test K (live_items net == 0) _ _
    (λ _. by_test K (is_in old net.modules.order) _ _
    (λ _. by_test K c.shelf_empty _ _ (λ _. no_change refusal.ShelfEmpty) (λ _. by_test K c.refuses _ _ (λ _. no_change refusal.AttachRefused) (λ _. change)))
    (λ _. no_change refusal.NoModule))
    (λ _. no_change (refusal.Busy (live_items net))))
    (λ _. no_change refusal.NotPaused)

-- the drivers belong to numbers below this one
abbrev pub AreBelow : ℕ → List (ℕ × ℕ) → Type 0
AreBelow n drivers = All (λ d. d.0 < n) drivers

taken_below : (n m f : ℕ) (shelf : Shelf) (o : Option ℕ) → n ≤ m → f < m → AreBelow n shelf.drivers → AreBelow m (taken_from f shelf o).drivers
taken_below n m f shelf None more less h = All-weaker (λ d. d.0 < n) (λ d. d.0 < m) (λ d k. omega (arith, more, k)) shelf.drivers h
taken_below n m f shelf (Some place) more less h =
    All-push (λ d. d.0 < m) shelf.drivers (f, place) (All-weaker (λ d. d.0 < n) (λ d. d.0 < m) (λ d k. omega (arith, more, k)) shelf.drivers h) less

-- what an event tells leaves them so
KeepsBelow : List FilterKind → Net → Event → Outcome → Type 0
KeepsBelow kinds net e o = (shelf : Shelf) → AreBelow net.next.filter shelf.drivers → AreBelow (state_after net e o).next.filter (shelf_told kinds e o.reply shelf).drivers

same_below : (kinds : List FilterKind) (net : Net) (e : Event) (o : Outcome) → (state_after net e o).next.filter ≡ net.next.filter → ((shelf : Shelf) → shelf_told kinds e o.reply shelf ≡ shelf) → KeepsBelow kinds net e o
unfolding KeepsBelow
same_below kinds net e o same still shelf h =
    subst (λ (s : Shelf). AreBelow (state_after net e o).next.filter s.drivers) (sym (still shelf)) (subst (λ n. AreBelow n shelf.drivers) (sym same) h)

below_insert : (kinds : List FilterKind) (net : Net) (kind : FilterKind) (position : ℕ) (setup : Setup) (c : Choice) → KeepsBelow kinds net (event.Insert kind position setup) (insert_outcome net position c)
unfolding KeepsBelow
below_insert kinds net kind position setup c =
    by_insert (KeepsBelow kinds net (event.Insert kind position setup)) net position c (λ why. same_below kinds net (event.Insert kind position setup) (refused why) refl (λ s. refl))
    (λ shelf h. taken_below net.next.filter (net.next.filter + 1) net.next.filter shelf (find (is_of_kind kind kinds) shelf.places) (omega arith) (omega arith) h)

below_replace : (kinds : List FilterKind) (net : Net) (old : ℕ) (kind : FilterKind) (setup : Setup) (c : Choice) → KeepsBelow kinds net (event.Replace old kind setup) (replace_outcome net old c)
unfolding KeepsBelow
below_replace kinds net old kind setup c =
    by_replace (KeepsBelow kinds net (event.Replace old kind setup)) net old c (λ why. same_below kinds net (event.Replace old kind setup) (refused why) refl (λ s. refl))
    (λ shelf h. taken_below net.next.filter (net.next.filter + 1) net.next.filter shelf (find (is_of_kind kind kinds) shelf.places) (omega arith) (omega arith) h)

pub plain_still : (kinds : List FilterKind) (e : Event) (r : Reply) (shelf : Shelf) → is_plain e ≡ true → shelf_told kinds e r shelf ≡ shelf
plain_still kinds (event.Insert kind position setup) r shelf p = cc
plain_still kinds (event.Replace old kind setup) r shelf p = cc
plain_still kinds e r shelf p = refl

event_below : (kinds : List FilterKind) (net : Net) (e : Event) (c : Choice) → KeepsBelow kinds net e (outcome net e c)
event_below kinds net event.Initialize c = same_below kinds net event.Initialize _ (next_rows net _ (initialize_every SameNext of_next (λ config filters n. refl) net c.refuses)) (λ s. refl)
event_below kinds net (event.Insert kind position setup) c = below_insert kinds net kind position setup c
event_below kinds net (event.Remove g) c = same_below kinds net (event.Remove g) _ (next_rows net _ (remove_every SameNext of_next (λ config filters n. refl) net g)) (λ s. refl)
event_below kinds net (event.Replace old kind setup) c = below_replace kinds net old kind setup c
event_below kinds net event.BeginPause c = same_below kinds net event.BeginPause _ (next_rows net _ (begin_every SameNext of_next net)) (λ s. refl)
event_below kinds net event.PauseNext c = same_below kinds net event.PauseNext _ (next_rows net _ (pause_every SameNext of_next net)) (λ s. refl)
event_below kinds net event.RestartNext c = same_below kinds net event.RestartNext _ (next_rows net _ (restart_every SameNext of_next net)) (λ s. refl)
event_below kinds net event.Halt c = same_below kinds net event.Halt _ (next_rows net _ (halt_every SameNext of_next net)) (λ s. refl)
event_below kinds net e c = same_below kinds net e (outcome net e c) (plain_same net e c refl).filter (λ s. plain_still kinds e (outcome net e c).reply s refl)

-- rows put places onto the shelf, and no driver is another filter's
drivers_in_row : (r : Row) (shelf : Shelf) → (shelf_at r shelf).drivers ≡ shelf.drivers
drivers_in_row (row.Phase (of.Module (Filter f) state.Detached)) shelf = refl
drivers_in_row r shelf = refl

pub drivers_in_rows : (rows : List Row) (shelf : Shelf) → (shelf_in_rows rows shelf).drivers ≡ shelf.drivers
drivers_in_rows [] shelf = refl
drivers_in_rows (r ∷ rows) shelf = drivers_in_rows rows (shelf_at r shelf) ∙ drivers_in_row r shelf

pub turn_below : (kinds : List FilterKind) (net : Net) (t : Turn) (shelf : Shelf) → Next net t → AreBelow net.next.filter shelf.drivers
    → AreBelow (after_turn net t).next.filter (shelf_in_rows t.rows (shelf_told kinds t.event t.reply shelf)).drivers
unfolding KeepsBelow
turn_below kinds net t shelf n h =
    let told : AreBelow (state_after net t.event (outcome net t.event n.choice)).next.filter (shelf_told kinds t.event (outcome net t.event n.choice).reply shelf).drivers = event_below kinds net t.event n.choice shelf h in
    subst (λ ds. AreBelow (after_turn net t).next.filter ds) (sym (drivers_in_rows t.rows (shelf_told kinds t.event t.reply shelf)))
    (subst (λ r. AreBelow (after_turn net t).next.filter (shelf_told kinds t.event r shelf).drivers) (sym n.reply)
    (subst (λ (m : Net). AreBelow m.next.filter (shelf_told kinds t.event (outcome net t.event n.choice).reply shelf).drivers) (sym (turn_is net t n)) told))

turns_below : (kinds : List FilterKind) (net : Net) (turns : List Turn) (shelf : Shelf) → SoundFrom net turns → AreBelow net.next.filter shelf.drivers
    → AreBelow (after_turns net turns).next.filter (shelf_in_turns kinds turns shelf).drivers
turns_below kinds net [] shelf s h = h
turns_below kinds net (t ∷ ts) shelf s h = turns_below kinds (after_turn net t) ts (shelf_in_rows t.rows (shelf_told kinds t.event t.reply shelf)) s.1 (turn_below kinds net t shelf s.0 h)

pub shelf_below : (kinds : List FilterKind) (head : StackHead) (turns : List Turn) → Sound head turns → AreBelow (seen head turns).next.filter (shelf_of kinds turns).drivers
shelf_below kinds head turns s = turns_below kinds (start head) turns (record { places = places_from 0 kinds; drivers = [] }) s (All-nil (λ d. d.0 < (start head).next.filter))

-- so none is of the next number
pub none_below : (n : ℕ) (drivers : List (ℕ × ℕ)) → AreBelow n drivers → driver_of drivers n ≡ None
none_below n [] h = refl
none_below n (d ∷ ds) h =
    let less : d.0 < n = All-head (λ d. d.0 < n) d ds h in
    let other : (d.0 == n) ≡ false = grind (arith, nat_tests) in
    ap (λ b. option_map (λ (e : ℕ × ℕ). e.1) (cond b (Some d) (find (λ e. e.0 == n) ds))) other ∙ none_below n ds (All-tail (λ d. d.0 < n) d ds h)
