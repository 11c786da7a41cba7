-- One step lemma for every event but those of phases and rewires: where rows change no module and the drivers' calls
-- attach and open nothing, a book stands again as soon as its hands agree.
use Rattle.std.proofs.Common.{◌≡◌, ℕ, ◌≤◌, ◌<◌, List, [], ◌∷◌, Some, length, slice_index_or, refl, sym, ap, ◌∙◌, subst, All}
use Rattle.std.proofs.lemmas.List.Elements.{All-from_get_or, All-weaker}
use Rattle.ndis_base.specs.declared.ModuleId.{ModuleId}
use Rattle.ndis_base.specs.declared.ModuleId.TheVariants.{Miniport, Filter, Binding}
use Rattle.ndis_base.specs.declared.ProtocolKind.TheVariants as protocol_kind
use Rattle.stack_rules.specs.Rewires.{is_in}
use Rattle.ndis_base.specs.declared.Phase.{Phase}
use Rattle.ndis_base.specs.declared.Phase.TheVariants as phase
use Rattle.journal_types.specs.declared.PortSetup.{PortSetup}
use Rattle.journal_types.specs.declared.StackHead.{StackHead}
use Rattle.journal_types.specs.declared.Row.{Row}
use Rattle.journal_types.specs.declared.Row.TheVariants as row
use Rattle.buffer_pools.specs.Views.{ListView}
use Rattle.stack_rules.specs.declared.Attached.{Attached}
use Rattle.stack_rules.specs.Heads.{kind_of_binding}
use Rattle.stack_rules.specs.Net.{Net, Modules, after, after_rows, attached}
use Rattle.stack_rules.specs.Places.{pool_of, pool_in}
use Rattle.state_laws.specs.Laws.{IsThere}
use Rattle.agenda_items.specs.declared.Carried.{Carried}
use Rattle.hand_lemmas.specs.Hands.{Agrees}
use Rattle.book_lemmas.specs.Views.{filter_at, HeldView, IsVacant, IsPlace, IsOnShelf, no_protocol, seat_of, hands_of}
use Rattle.driver_views.specs.States.{ProtocolState}
use Rattle.book_lemmas.specs.Leaves.{ArePlain, IsCalm, Leaves}
use Rattle.book_lemmas.specs.Stands.{Stands, AllSized, IsSeated, IsClosed, DriversFit, IsResting}

calm_then : {net next now : Net} → IsCalm net next → IsCalm next now → IsCalm net now
calm_then c d = record { head = d.head ∙ c.head; modules = d.modules ∙ c.modules; phase = d.phase ∙ c.phase }

calm : {net now : Net} → now.head ≡ net.head → now.modules ≡ net.modules → now.phase ≡ net.phase → IsCalm net now
calm h m p = record { head = h; modules = m; phase = p }

pub plain_calm : (net : Net) (rows : List Row) → ArePlain rows → IsCalm net (after_rows net rows)
plain_calm net [] p = calm refl refl refl
plain_calm net (row.Issue list owner config direction cancel origin frames ∷ rows) p = calm_then (calm refl refl refl) (plain_calm (after net (row.Issue list owner config direction cancel origin frames)) rows p)
plain_calm net (row.Give list m handler ∷ rows) p = calm_then (calm refl refl refl) (plain_calm (after net (row.Give list m handler)) rows p)
plain_calm net (row.Pass list way to ∷ rows) p = calm_then (calm refl refl refl) (plain_calm (after net (row.Pass list way to)) rows p)
plain_calm net (row.Keep list m ∷ rows) p = calm_then (calm refl refl refl) (plain_calm (after net (row.Keep list m)) rows p)
plain_calm net (row.TurnBack list m status ∷ rows) p = calm_then (calm refl refl refl) (plain_calm (after net (row.TurnBack list m status)) rows p)
plain_calm net (row.Home list owner status ∷ rows) p = calm_then (calm refl refl refl) (plain_calm (after net (row.Home list owner status)) rows p)
plain_calm net (row.Wire list frames ∷ rows) p = calm_then (calm refl refl refl) (plain_calm (after net (row.Wire list frames)) rows p)
plain_calm net (row.Deliver list binding how frames ∷ rows) p = calm_then (calm refl refl refl) (plain_calm (after net (row.Deliver list binding how frames)) rows p)
plain_calm net (row.Phase whose ∷ rows) p = absurd p
plain_calm net (row.Config config filters ∷ rows) p = absurd p
plain_calm net (row.OidIssue request parent binding kind code value ∷ rows) p = calm_then (calm refl refl refl) (plain_calm (after net (row.OidIssue request parent binding kind code value)) rows p)
plain_calm net (row.OidGive request m ∷ rows) p = calm_then (calm refl refl refl) (plain_calm (after net (row.OidGive request m)) rows p)
plain_calm net (row.OidDone request status value ∷ rows) p = calm_then (calm refl refl refl) (plain_calm (after net (row.OidDone request status value)) rows p)
plain_calm net (row.Status number name to ∷ rows) p = calm_then (calm refl refl refl) (plain_calm (after net (row.Status number name to)) rows p)
plain_calm net (row.Seen number m ∷ rows) p = calm_then (calm refl refl refl) (plain_calm (after net (row.Seen number m)) rows p)
plain_calm net (row.CrossOut message way frames ∷ rows) p = calm_then (calm refl refl refl) (plain_calm (after net (row.CrossOut message way frames)) rows p)
plain_calm net (row.CrossIn stack message way frames ∷ rows) p = plain_calm net rows p

-- modules are there, and their pools have their sizes, as before
there_was : (net now : Net) → IsCalm net now → (m : ModuleId) → IsThere now m → IsThere net m
there_was net now c Miniport t = tt
there_was net now c (Filter f) t = ap (λ (ms : Modules). is_in f ms.order) (sym c.modules) ∙ t
there_was net now c (Binding b) t = subst (λ (ms : Modules). b < length ms.bindings) c.modules t

pool_same : (net now : Net) → IsCalm net now → (m : ModuleId) → pool_of now m ≡ pool_of net m
pool_same net now c Miniport = ap (λ (h : StackHead). h.port.pool) c.head
pool_same net now c (Binding b) = ap (λ (h : StackHead). (slice_index_or h.bindings b (protocol_kind.Log, 0)).1) c.head
pool_same net now c (Filter f) = ap (λ (ms : Modules). pool_in (attached f ms.filters)) c.modules

all_closed : (olds news : List ProtocolState) → length news ≡ length olds → ((i : ℕ) → (slice_index_or news i no_protocol).is_open ≡ (slice_index_or olds i no_protocol).is_open) → All IsClosed olds → All IsClosed news
all_closed olds news count same closed =
    All-from_get_or IsClosed news no_protocol (λ i within. same i ∙ closed i no_protocol (subst (λ n. i < n) count within))

fit_still : (held held' : HeldView) (port : PortSetup) → Leaves held held' → (p : Phase) → DriversFit port held p → DriversFit port held' p
fit_still held held' port l phase.Halted d = (l.port ∙ d.0, all_closed held.protocols held'.protocols l.protocols l.opened d.1)
fit_still held held' port l phase.Paused d = l.port ∙ d
fit_still held held' port l phase.Restarting d = l.port ∙ d
fit_still held held' port l phase.Running d = l.port ∙ d
fit_still held held' port l phase.Pausing d = l.port ∙ d

pub resting_still : (held held' : HeldView) → Leaves held held' → ((place : ℕ) → IsVacant held.seats place → IsResting (filter_at held.filters (Some place)))
    → (place : ℕ) → IsVacant held'.seats place → IsResting (filter_at held'.filters (Some place))
resting_still held held' l rest place none =
    let before : IsVacant held.seats place = λ f e. none f (ap (λ seats. seat_of seats f) l.seats ∙ e) in
    subst IsResting (sym (l.resting place before)) (rest place before)

place_still : (held held' : HeldView) → Leaves held held' → (place : ℕ) → IsPlace held place → IsPlace held' place
place_still held held' l place p = record { driver = subst (λ n. place < n) (sym l.drivers) p.driver; pool = subst (λ n. place < n) (sym l.filter_pools) p.pool }

pub places_still : (held held' : HeldView) → Leaves held held' → ((f place : ℕ) → seat_of held.seats f ≡ Some place → IsPlace held place) → (f place : ℕ) → seat_of held'.seats f ≡ Some place → IsPlace held' place
places_still held held' l places f place seat = place_still held held' l place (places f place (ap (λ seats. seat_of seats f) (sym l.seats) ∙ seat))

pub shelved_still : (held held' : HeldView) → Leaves held held' → All (IsOnShelf held) held.shelf → All (IsOnShelf held') held'.shelf
shelved_still held held' l shelved =
    subst (All (IsOnShelf held')) (sym l.shelf)
    (All-weaker (IsOnShelf held) (IsOnShelf held')
    (λ place s. record { is = place_still held held' l place s.is; vacant = λ f e. s.vacant f (ap (λ seats. seat_of seats f) (sym l.seats) ∙ e) }) held.shelf shelved)

seated_still : (held held' : HeldView) → Leaves held held' → (a : Attached) → IsSeated held a → IsSeated held' a
seated_still held held' l a s = record {
  place = s.place;
  seat = ap (λ seats. seat_of seats a.filter) l.seats ∙ s.seat;
  kind = l.kinds s.place ∙ s.kind;
  setup = l.setups s.place ∙ s.setup;
}

pub stands_step : (net now : Net) (queue queue' : List Carried) (held held' : HeldView) (loose loose' : List ListView) (rows : List Row) → Stands net queue held loose → Leaves held held' → ArePlain rows
    → now ≡ after_rows net rows → Agrees now (hands_of queue' held' loose') → AllSized queue' held' loose' → length held'.miniport.kept ≤ net.head.port.ring → Stands now queue' held' loose'
stands_step net now queue queue' held held' loose loose' rows s l plain is agrees sized ring =
    let c : IsCalm net now = subst (IsCalm net) (sym is) (plain_calm net rows plain) in
    record {
      agrees = agrees;
      pools = λ m there. let p = s.pools m (there_was net now c m there) in record { size = l.sizes m ∙ p.size ∙ sym (pool_same net now c m); bytes = l.bytes m ∙ p.bytes };
      sized = sized;
      ring = subst (λ (h : StackHead). length held'.miniport.kept ≤ h.port.ring) (sym c.head) ring;
      miniport_kind = l.miniport_kind ∙ s.miniport_kind ∙ ap (λ (h : StackHead). h.kind) (sym c.head);
      protocol_kinds = λ i within. l.protocol_kinds i ∙ s.protocol_kinds i (subst (λ (h : StackHead). i < length h.bindings) c.head within) ∙ ap (λ h. kind_of_binding h i) (sym c.head);
      protocols = l.protocols ∙ s.protocols ∙ ap (λ (h : StackHead). length h.bindings) (sym c.head);
      protocol_pools = l.protocol_pools ∙ s.protocol_pools ∙ ap (λ (h : StackHead). length h.bindings) (sym c.head);
      seated = λ f a there. seated_still held held' l a (s.seated f a (ap (λ (ms : Modules). attached f ms.filters) (sym c.modules) ∙ there));
      places = places_still held held' l s.places;
      shelved = shelved_still held held' l s.shelved;
      apart = λ f g place e k. s.apart f g place (ap (λ seats. seat_of seats f) (sym l.seats) ∙ e) (ap (λ seats. seat_of seats g) (sym l.seats) ∙ k);
      resting = resting_still held held' l s.resting;
      drivers = subst (λ (n : StackHead). DriversFit n.port held' now.phase) (sym c.head) (subst (DriversFit net.head.port held') (sym c.phase) (fit_still held held' net.head.port l net.phase s.drivers));
    }
