-- The step lemma for rows of phases: pauses, restarts, and what becomes of the bindings and the miniport. Hands,
-- seats and pools are left; only whether the drivers are set up has to be said for the new phase.
use Rattle.std.proofs.Common.{◌≡◌, ℕ, ◌≤◌, ◌<◌, ◌==◌, Bool, true, false, cond, List, [], ◌∷◌, Option, Some, None, length, map, slice_index_or, length-set, refl, sym, ap, ◌∙◌, subst}
use Rattle.ndis_base.specs.declared.ModuleId.{ModuleId}
use Rattle.ndis_base.specs.declared.ModuleId.TheVariants.{Miniport, Filter, Binding}
use Rattle.ndis_base.specs.declared.ModuleState.{ModuleState}
use Rattle.ndis_base.specs.declared.ModuleState.TheVariants as state
use Rattle.ndis_base.specs.declared.ProtocolKind.TheVariants as protocol_kind
use Rattle.journal_types.specs.declared.PhaseOf.{PhaseOf}
use Rattle.journal_types.specs.declared.PhaseOf.TheVariants as of
use Rattle.journal_types.specs.declared.Setup.{Setup}
use Rattle.journal_types.specs.declared.StackHead.{StackHead}
use Rattle.journal_types.specs.declared.Row.{Row}
use Rattle.journal_types.specs.declared.Row.TheVariants as row
use Rattle.stack_rules.specs.declared.Attached.{Attached}
use Rattle.stack_rules.specs.Heads.{kind_of_binding}
use Rattle.stack_rules.specs.Net.{Net, after, after_rows, attached, with_state, filters_after}
use Rattle.stack_rules.specs.Places.{pool_of, pool_in}
use Rattle.stack_rules.specs.Rewires.{is_in}
use Rattle.state_laws.specs.Laws.{IsThere}
use Rattle.agenda_items.specs.declared.Carried.{Carried}
use Rattle.hand_lemmas.specs.Hands.{Hands, Agrees}
use Rattle.hand_lemmas.proofs.Rows.{phased}
use Rattle.book_lemmas.specs.Views.{HeldView, hands_of, seat_of}
use Rattle.book_lemmas.specs.Leaves.{ArePhases, IsStaying, IsPhaseOnly, WasAttached, IsSeatedStill, Leaves}
use Rattle.book_lemmas.proofs.Standing.{places_still, resting_still, shelved_still}
use Rattle.book_lemmas.specs.Stands.{Stands, AllSized, IsSeated, DriversFit}

-- a filter takes another state
state_number : (g : ℕ) (s : ModuleState) (a : Attached) → (with_state g s a).filter ≡ a.filter
state_number g s a = elim (a.filter == g) as (λ b. (cond b (record a { state = s }) a).filter ≡ a.filter) [ true ↦ refl | false ↦ refl ]

state_kind : (g : ℕ) (s : ModuleState) (a : Attached) → (with_state g s a).kind ≡ a.kind
state_kind g s a = elim (a.filter == g) as (λ b. (cond b (record a { state = s }) a).kind ≡ a.kind) [ true ↦ refl | false ↦ refl ]

state_setup : (g : ℕ) (s : ModuleState) (a : Attached) → (with_state g s a).setup ≡ a.setup
state_setup g s a = elim (a.filter == g) as (λ b. (cond b (record a { state = s }) a).setup ≡ a.setup) [ true ↦ refl | false ↦ refl ]

-- how an attached filter looks in another state
abbrev changed : ℕ → ModuleState → Option Attached → Option Attached
changed g s None = None
changed g s (Some a) = Some (with_state g s a)

changed_attached : (f g : ℕ) (s : ModuleState) (entries : List Attached) → attached f (map (with_state g s) entries) ≡ changed g s (attached f entries)
changed_attached f g s [] = refl
changed_attached f g s (a ∷ entries) =
    ap (λ n. cond (n == f) (Some (with_state g s a)) (attached f (map (with_state g s) entries))) (state_number g s a)
    ∙ by_case f g s a entries (a.filter == f) (changed_attached f g s entries)
  where
    by_case : (f g : ℕ) (s : ModuleState) (a : Attached) (entries : List Attached) (b : Bool) → attached f (map (with_state g s) entries) ≡ changed g s (attached f entries)
        → cond b (Some (with_state g s a)) (attached f (map (with_state g s) entries)) ≡ changed g s (cond b (Some a) (attached f entries))
    by_case f g s a entries true more = refl
    by_case f g s a entries false more = more

staying_filters : (g : ℕ) (s : ModuleState) (entries : List Attached) → IsStaying s → filters_after g s entries ≡ map (with_state g s) entries
staying_filters g state.Halted entries h = refl
staying_filters g state.Unbound entries h = refl
staying_filters g state.Detached entries h = absurd h
staying_filters g _ entries h = refl

was_changed : (net : Net) (f g : ℕ) (s : ModuleState) (o : Option Attached) (a : Attached) → attached f net.modules.filters ≡ o → changed g s o ≡ Some a → WasAttached net a f
was_changed net f g s None a there e = cc
was_changed net f g s (Some was) a there e =
    let same : with_state g s was ≡ a = cc in
    record {
      was = was;
      there = there;
      number = sym (ap (λ (x : Attached). x.filter) same) ∙ state_number g s was;
      kind = sym (ap (λ (x : Attached). x.kind) same) ∙ state_kind g s was;
      setup = sym (ap (λ (x : Attached). x.setup) same) ∙ state_setup g s was;
    }

pool_changed : (g : ℕ) (s : ModuleState) (o : Option Attached) → pool_in (changed g s o) ≡ pool_in o
pool_changed g s None = refl
pool_changed g s (Some a) = ap (λ (x : Setup). x.pool) (state_setup g s a)

still_same : (net now : Net) → now.head ≡ net.head → now.modules.order ≡ net.modules.order → length now.modules.bindings ≡ length net.modules.bindings → now.modules.filters ≡ net.modules.filters
    → now.things ≡ net.things → now.next.list ≡ net.next.list → IsSeatedStill net now
still_same net now head order bindings filters things next = record {
  head = head;
  order = order;
  bindings = bindings;
  filters = λ f a e. record { was = a; there = ap (attached f) (sym filters) ∙ e; number = refl; kind = refl; setup = refl };
  pools = λ f. ap (λ entries. pool_in (attached f entries)) filters;
  things = things;
  next = next;
}

one_phase : (net : Net) (whose : PhaseOf) → IsPhaseOnly whose → IsSeatedStill net (after net (row.Phase whose))
one_phase net (of.Stack p) h = still_same net (after net (row.Phase (of.Stack p))) refl refl refl refl refl refl
one_phase net (of.Module Miniport s) h = still_same net (after net (row.Phase (of.Module Miniport s))) refl refl refl refl refl refl
one_phase net (of.Module (Binding b) s) h = still_same net (after net (row.Phase (of.Module (Binding b) s))) refl refl (length-set net.modules.bindings b s) refl refl refl
one_phase net (of.Module (Filter g) s) h =
    let is : (f : ℕ) → attached f (filters_after g s net.modules.filters) ≡ changed g s (attached f net.modules.filters) = λ f. ap (attached f) (staying_filters g s net.modules.filters h) ∙ changed_attached f g s net.modules.filters in
    record {
      head = refl;
      order = refl;
      bindings = refl;
      filters = λ f a e. was_changed net f g s (attached f net.modules.filters) a refl (sym (is f) ∙ e);
      pools = λ f. ap pool_in (is f) ∙ pool_changed g s (attached f net.modules.filters);
      things = refl;
      next = refl;
    }

still_then : (net mid now : Net) → IsSeatedStill net mid → IsSeatedStill mid now → IsSeatedStill net now
still_then net mid now s t = record {
  head = t.head ∙ s.head;
  order = t.order ∙ s.order;
  bindings = t.bindings ∙ s.bindings;
  filters = λ f a e.
      let later = t.filters f a e in
      let first = s.filters f later.was later.there in
      record { was = first.was; there = first.there; number = later.number ∙ first.number; kind = later.kind ∙ first.kind; setup = later.setup ∙ first.setup };
  pools = λ f. t.pools f ∙ s.pools f;
  things = t.things ∙ s.things;
  next = t.next ∙ s.next;
}

pub still_phases : (net : Net) (rows : List Row) → ArePhases rows → IsSeatedStill net (after_rows net rows)
still_phases net [] h = still_same net net refl refl refl refl refl refl
still_phases net (row.Phase whose ∷ rows) h = still_then net (after net (row.Phase whose)) (after_rows (after net (row.Phase whose)) rows) (one_phase net whose h.0) (still_phases (after net (row.Phase whose)) rows h.1)
still_phases net (row.Issue list owner config direction cancel origin frames ∷ rows) h = absurd h
still_phases net (row.Give list m handler ∷ rows) h = absurd h
still_phases net (row.Pass list way to ∷ rows) h = absurd h
still_phases net (row.Keep list m ∷ rows) h = absurd h
still_phases net (row.TurnBack list m status ∷ rows) h = absurd h
still_phases net (row.Home list owner status ∷ rows) h = absurd h
still_phases net (row.Wire list frames ∷ rows) h = absurd h
still_phases net (row.Deliver list binding how frames ∷ rows) h = absurd h
still_phases net (row.Config config filters ∷ rows) h = absurd h
still_phases net (row.OidIssue request parent binding kind code value ∷ rows) h = absurd h
still_phases net (row.OidGive request m ∷ rows) h = absurd h
still_phases net (row.OidDone request status value ∷ rows) h = absurd h
still_phases net (row.Status number name to ∷ rows) h = absurd h
still_phases net (row.Seen number m ∷ rows) h = absurd h
still_phases net (row.CrossOut message way frames ∷ rows) h = absurd h
still_phases net (row.CrossIn stack message way frames ∷ rows) h = absurd h

-- hands agree through rows of phases
pub phases_agree : (net : Net) (rows : List Row) (h : Hands) → ArePhases rows → Agrees net h → Agrees (after_rows net rows) h
phases_agree net [] h p a = a
phases_agree net (row.Phase whose ∷ rows) h p a = phases_agree (after net (row.Phase whose)) rows h p.1 (phased net whose h a)
phases_agree net (row.Issue list owner config direction cancel origin frames ∷ rows) h p a = absurd p
phases_agree net (row.Give list m handler ∷ rows) h p a = absurd p
phases_agree net (row.Pass list way to ∷ rows) h p a = absurd p
phases_agree net (row.Keep list m ∷ rows) h p a = absurd p
phases_agree net (row.TurnBack list m status ∷ rows) h p a = absurd p
phases_agree net (row.Home list owner status ∷ rows) h p a = absurd p
phases_agree net (row.Wire list frames ∷ rows) h p a = absurd p
phases_agree net (row.Deliver list binding how frames ∷ rows) h p a = absurd p
phases_agree net (row.Config config filters ∷ rows) h p a = absurd p
phases_agree net (row.OidIssue request parent binding kind code value ∷ rows) h p a = absurd p
phases_agree net (row.OidGive request m ∷ rows) h p a = absurd p
phases_agree net (row.OidDone request status value ∷ rows) h p a = absurd p
phases_agree net (row.Status number name to ∷ rows) h p a = absurd p
phases_agree net (row.Seen number m ∷ rows) h p a = absurd p
phases_agree net (row.CrossOut message way frames ∷ rows) h p a = absurd p
phases_agree net (row.CrossIn stack message way frames ∷ rows) h p a = absurd p

there_was : (net now : Net) → IsSeatedStill net now → (m : ModuleId) → IsThere now m → IsThere net m
there_was net now s Miniport t = tt
there_was net now s (Filter f) t = ap (is_in f) (sym s.order) ∙ t
there_was net now s (Binding b) t = subst (λ n. b < n) s.bindings t

pool_same : (net now : Net) → IsSeatedStill net now → (m : ModuleId) → pool_of now m ≡ pool_of net m
pool_same net now s Miniport = ap (λ (h : StackHead). h.port.pool) s.head
pool_same net now s (Binding b) = ap (λ (h : StackHead). (slice_index_or h.bindings b (protocol_kind.Log, 0)).1) s.head
pool_same net now s (Filter f) = s.pools f

seated_still : (net : Net) (held held' : HeldView) → Leaves held held' → (a : Attached) (f : ℕ) → WasAttached net a f → ((f : ℕ) (a : Attached) → attached f net.modules.filters ≡ Some a → IsSeated held a) → IsSeated held' a
seated_still net held held' l a f w seated =
    let s = seated f w.was w.there in
    record {
      place = s.place;
      seat = ap (λ seats. seat_of seats a.filter) l.seats ∙ ap (seat_of held.seats) w.number ∙ s.seat;
      kind = l.kinds s.place ∙ s.kind ∙ sym w.kind;
      setup = l.setups s.place ∙ s.setup ∙ ap (λ (x : Setup). Some x) (sym w.setup);
    }

-- A book stands again after rows of phases that leave its hands, where its drivers fit the new phase.
pub stands_phases : (net now : Net) (queue queue' : List Carried) (held held' : HeldView) (rows : List Row) → Stands net queue held [] → Leaves held held' → ArePhases rows → now ≡ after_rows net rows
    → Agrees (after_rows net rows) (hands_of queue' held' []) → AllSized queue' held' [] → length held'.miniport.kept ≤ net.head.port.ring → DriversFit net.head.port held' now.phase → Stands now queue' held' []
stands_phases net now queue queue' held held' rows s l phases is agrees sized ring drivers =
    let c : IsSeatedStill net now = subst (IsSeatedStill net) (sym is) (still_phases net rows phases) in
    record {
      agrees = subst (λ (n : Net). Agrees n (hands_of queue' held' [])) (sym is) agrees;
      pools = λ m there. let p = s.pools m (there_was net now c m there) in record { size = l.sizes m ∙ p.size ∙ sym (pool_same net now c m); bytes = l.bytes m ∙ p.bytes };
      sized = sized;
      ring = subst (λ (h : StackHead). length held'.miniport.kept ≤ h.port.ring) (sym c.head) ring;
      miniport_kind = l.miniport_kind ∙ s.miniport_kind ∙ ap (λ (h : StackHead). h.kind) (sym c.head);
      protocol_kinds = λ i within. l.protocol_kinds i ∙ s.protocol_kinds i (subst (λ (h : StackHead). i < length h.bindings) c.head within) ∙ ap (λ h. kind_of_binding h i) (sym c.head);
      protocols = l.protocols ∙ s.protocols ∙ ap (λ (h : StackHead). length h.bindings) (sym c.head);
      protocol_pools = l.protocol_pools ∙ s.protocol_pools ∙ ap (λ (h : StackHead). length h.bindings) (sym c.head);
      seated = λ f a there. seated_still net held held' l a f (c.filters f a there) s.seated;
      places = places_still held held' l s.places;
      shelved = shelved_still held held' l s.shelved;
      apart = λ f g place e k. s.apart f g place (ap (λ seats. seat_of seats f) (sym l.seats) ∙ e) (ap (λ seats. seat_of seats g) (sym l.seats) ∙ k);
      resting = resting_still held held' l s.resting;
      drivers = subst (λ (h : StackHead). DriversFit h.port held' now.phase) (sym c.head) drivers;
    }
