-- A stack is initialised: the book stands again with its drivers set up, and the rows are those of the rules.
use Rattle.std.proofs.Common.{◌≡◌, ℕ, ◌+◌, ◌*◌, ◌≤◌, ◌<◌, Bool, true, false, List, [], ◌∷◌, ◌++◌, Some, length, slice_index_or, refl, sym, ap, ◌∙◌, subst, arith, append_assoc, All}
use Rattle.std.proofs.lemmas.Bool.{cond-false}
use Rattle.std.proofs.lemmas.List.{length-map}
use Rattle.std.proofs.lemmas.List.Elements.{All-weaker}
use Rattle.ndis_base.specs.declared.ConfigNo.{ConfigNo}
use Rattle.ndis_base.specs.declared.ModuleId.{ModuleId}
use Rattle.ndis_base.specs.declared.ModuleId.TheVariants.{Miniport, Filter, Binding}
use Rattle.ndis_base.specs.declared.ModuleState.TheVariants as state
use Rattle.ndis_base.specs.declared.Phase.{Phase}
use Rattle.ndis_base.specs.declared.Phase.TheVariants as phase
use Rattle.ndis_base.specs.declared.ProtocolKind.TheVariants as protocol_kind
use Rattle.journal_types.specs.declared.Event.TheVariants as event
use Rattle.journal_types.specs.declared.PhaseOf.TheVariants as of
use Rattle.journal_types.specs.declared.PortSetup.{PortSetup}
use Rattle.journal_types.specs.declared.Refusal.TheVariants as refusal
use Rattle.journal_types.specs.declared.Reply.TheVariants as reply
use Rattle.journal_types.specs.declared.Row.{Row}
use Rattle.journal_types.specs.declared.Row.TheVariants as row
use Rattle.journal_types.specs.declared.Setup.{Setup}
use Rattle.journal_types.specs.declared.StackHead.{StackHead}
use Rattle.stack_rules.specs.declared.Attached.{Attached}
use Rattle.stack_rules.specs.declared.Choice.{Choice}
use Rattle.stack_rules.specs.Heads.{kind_of_binding}
use Rattle.stack_rules.specs.Net.{Net, after, after_rows, attached}
use Rattle.stack_rules.specs.Outcome.{Outcome, config_no, refused}
use Rattle.stack_rules.specs.Pauses.{initialize_outcome, initialize_rows, state_row}
use Rattle.stack_rules.specs.Tests.{phase_is_halted}
use Rattle.state_laws.specs.Laws.{IsThere}
use Rattle.agenda_items.specs.declared.Carried.{Carried}
use Rattle.driver_views.specs.States.{ProtocolState}
use Rattle.hand_lemmas.specs.Hands.{IsSame}
use Rattle.hand_lemmas.proofs.Rows.{agrees_same, configured}
use Rattle.driver_tray.specs.Tray.{TrayView, written}
use Rattle.driver_tray.specs.Tray as tray
use Rattle.book_lemmas.proofs.Keeps.{keeps_same, risen_most}
use Rattle.book_lemmas.specs.Did.{Did}
use Rattle.book_lemmas.specs.Leaves.{ArePhases, IsSeatedStill, WasAttached}
use Rattle.book_lemmas.specs.Stands.{Stands, IsSized, IsPoolOf, IsSeated, DriversFit}
use Rattle.book_lemmas.specs.Views.{BookView, HeldView, IsOnShelf, hands_of, held_pool, kept_of, seat_of}
use Rattle.book_lemmas.proofs.Called.{miniport_leaves}
use Rattle.book_lemmas.proofs.Goes.{after_rows-append, used_then}
use Rattle.book_lemmas.proofs.Phases.{phases_agree, still_phases}
use Rattle.book_parts.specs.Events.{IsBook, IsIdle, DidEvent}
use Rattle.book_parts.proofs.Events.{Begins, Ends, begins_stands, did_event, ends_still}
use Rattle.phase_work.specs.Written.{CountsNothing, each_written, bindings_from}
use Rattle.phase_work.proofs.EachBinding.{each_append}
use Rattle.phase_work.proofs.Pausing.{all_bindings}
use Rattle.phase_work.proofs.Written.{HasWritten, has_written, did_nothing, ends_phases}
use Rattle.setup_work.specs.SetUp.{opened, ported, set_up, phases_up, written_up, AreSetUp, HasRefused}
use Rattle.setup_work.proofs.Halted.{was_halted}
use Rattle.setup_work.proofs.Positions.{bindings_count, room_after}
use Rattle.setup_work.proofs.Protocols.{opened_field}
use Rattle.setup_work.proofs.Rows.{twice, twice_phases, twice_length, bare_config, config_written, config_calls, config_logs, written_then}

-- the drivers keep what they kept, and the pools are the same
kept_up : (port : PortSetup) (held : HeldView) (m : ModuleId) → kept_of (set_up port held) m ≡ kept_of held m
kept_up port held Miniport = refl
kept_up port held (Filter f) = refl
kept_up port held (Binding b) = opened_field (λ (s : ProtocolState). s.kept) (λ s. refl) held.protocols b

pool_up : (port : PortSetup) (held : HeldView) (m : ModuleId) → held_pool (set_up port held) m ≡ held_pool held m
pool_up port held Miniport = refl
pool_up port held (Filter f) = refl
pool_up port held (Binding b) = refl

counts_up : (port : PortSetup) (held : HeldView) → CountsNothing held (set_up port held)
counts_up port held = record {
  miniport = refl;
  protocols = opened_field (λ (s : ProtocolState). s.did) (λ s. refl) held.protocols;
  filters = λ place. refl;
  keeps = keeps_same held (set_up port held) (omega arith) refl;
}

hands_up : (port : PortSetup) (held : HeldView) (queue : List Carried) → IsSame (hands_of queue held []) (hands_of queue (set_up port held) [])
hands_up port held queue = record { queue = refl; loose = refl; kept = λ m. sym (kept_up port held m); pools = λ m. sym (pool_up port held m) }

-- the state after rows of phases and the row of a configuration without filters
abbrev bared : Net → List Row → ConfigNo → Net
bared net rows config = after (after_rows net rows) (row.Config config [])

pools_up : (net : Net) (held : HeldView) (queue : List Carried) (port : PortSetup) (rows : List Row) (config : ConfigNo) → Stands net queue held [] → IsSeatedStill net (after_rows net rows)
    → (m : ModuleId) → IsThere (bared net rows config) m → IsPoolOf (bared net rows config) m (held_pool (set_up port held) m)
pools_up net held queue port rows config s c Miniport there =
    let p = s.pools Miniport tt in
    record { size = p.size ∙ ap (λ (h : StackHead). h.port.pool) (sym c.head); bytes = p.bytes }
pools_up net held queue port rows config s c (Filter f) there = absurd (none there)
  where
    none : false ≡ true → ⊥
    none e = cc
pools_up net held queue port rows config s c (Binding b) there =
    let p = s.pools (Binding b) (subst (λ n. b < n) c.bindings there) in
    record { size = p.size ∙ ap (λ (h : StackHead). (slice_index_or h.bindings b (protocol_kind.Log, 0)).1) (sym c.head); bytes = p.bytes }

seated_up : (net : Net) (held : HeldView) (port : PortSetup) (a : Attached) (f : ℕ) → WasAttached net a f → ((f : ℕ) (a : Attached) → attached f net.modules.filters ≡ Some a → IsSeated held a) → IsSeated (set_up port held) a
seated_up net held port a f w seated =
    let s = seated f w.was w.there in
    record { place = s.place; seat = ap (seat_of held.seats) w.number ∙ s.seat; kind = s.kind ∙ sym w.kind; setup = s.setup ∙ ap (λ (x : Setup). Some x) (sym w.setup) }

-- a book whose drivers were set up stands again
stands_up : (net : Net) (queue : List Carried) (held : HeldView) (rows : List Row) (config : ConfigNo) → Stands net queue held [] → ArePhases rows → (after_rows net rows).phase ≡ phase.Paused
    → Stands (bared net rows config) queue (set_up net.head.port held) []
stands_up net queue held rows config s phases paused =
    let c : IsSeatedStill net (after_rows net rows) = still_phases net rows phases in
    let port : PortSetup = net.head.port in
    record {
      agrees = agrees_same (bared net rows config) (hands_of queue held []) (hands_of queue (set_up port held) []) (hands_up port held queue)
          (configured (after_rows net rows) config [] (hands_of queue held []) (phases_agree net rows (hands_of queue held []) phases s.agrees));
      pools = pools_up net held queue port rows config s c;
      sized = record { carried = s.sized.carried; loose_sized = s.sized.loose_sized; kept = λ m. subst (All IsSized) (sym (kept_up port held m)) (s.sized.kept m) };
      ring = subst (λ (h : StackHead). length held.miniport.kept ≤ h.port.ring) (sym c.head) s.ring;
      miniport_kind = s.miniport_kind ∙ ap (λ (h : StackHead). h.kind) (sym c.head);
      protocol_kinds = λ i within. opened_field (λ (x : ProtocolState). x.kind) (λ x. refl) held.protocols i
          ∙ s.protocol_kinds i (subst (λ (h : StackHead). i < length h.bindings) c.head within) ∙ ap (λ h. kind_of_binding h i) (sym c.head);
      protocols = length-map held.protocols opened ∙ s.protocols ∙ ap (λ (h : StackHead). length h.bindings) (sym c.head);
      protocol_pools = s.protocol_pools ∙ ap (λ (h : StackHead). length h.bindings) (sym c.head);
      seated = λ f a there. seated_up net held port a f (c.filters f a there) s.seated;
      places = λ f place seat. let p = s.places f place seat in record { driver = p.driver; pool = p.pool };
      shelved = All-weaker (IsOnShelf held) (IsOnShelf (set_up port held)) (λ place x. record { is = record { driver = x.is.driver; pool = x.is.pool }; vacant = x.vacant }) held.shelf s.shelved;
      apart = s.apart;
      resting = s.resting;
      drivers = subst (λ p. DriversFit (after_rows net rows).head.port (set_up port held) p) (sym paused) (ap (λ (h : StackHead). Some h.port) (sym c.head));
    }

-- the rows of phases
up_phases : (n : ℕ) → ArePhases (phases_up n)
up_phases n = (record {}, twice_phases state.Opening state.Paused (record {}) (record {}) (bindings_from 0 n) (row.Phase (of.Stack phase.Paused) ∷ []) (record {}, record {}))

up_paused : (n : ℕ) (net : Net) → (after_rows net (phases_up n)).phase ≡ phase.Paused
up_paused n net =
    ap (λ (x : Net). x.phase) (after_rows-append (after net (state_row state.Paused Miniport)) (twice state.Opening state.Paused (bindings_from 0 n)) (row.Phase (of.Stack phase.Paused) ∷ []))

-- all rows
abbrev pub rows_up : ℕ → List Row
rows_up n = phases_up n ++ bare_config (config_no 1)

rows_are : (n : ℕ) (net : Net) → n ≡ length net.modules.bindings → rows_up n ≡ initialize_rows net
rows_are n net e =
    let first : Row = state_row state.Paused Miniport in
    let paused : Row = row.Phase (of.Stack phase.Paused) in
    let config : Row = row.Config (config_no 1) [] in
    ap (λ rows. first ∷ rows) (append_assoc (twice state.Opening state.Paused (bindings_from 0 n)) (paused ∷ []) (config ∷ []))
    ∙ ap (λ ms. first ∷ (twice state.Opening state.Paused ms ++ paused ∷ config ∷ [])) (ap (bindings_from 0) e ∙ all_bindings 0 net.modules.bindings)

up_written : (n : ℕ) (b : TrayView) → HasWritten b (rows_up n) (written_up b n)
up_written n b =
    written_then b (each_written b (phases_up n)) (written_up b n) (phases_up n) (bare_config (config_no 1)) (has_written (phases_up n) b (up_phases n)) (config_written (each_written b (phases_up n)) (config_no 1))

ends_up : (old : BookView) (b : TrayView) (n : ℕ) → IsBook old → Begins old.tray b [] → Ends old (record { tray = written_up b n; held = set_up b.net.head.port old.held }) (rows_up n)
ends_up old b n k g =
    let t : TrayView = written_up b n in
    let rows : List Row = rows_up n in
    let port : PortSetup = b.net.head.port in
    let up : HeldView = set_up port old.held in
    let w : HasWritten b rows t = up_written n b in
    let used = used_then old.tray b t [] rows g.used w.used in
    let stands : Stands (bared b.net (phases_up n) (config_no 1)) b.queue up [] = stands_up b.net b.queue old.held (phases_up n) (config_no 1) (begins_stands k g) (up_phases n) (up_paused n b.net) in
    let net_is : t.net ≡ bared b.net (phases_up n) (config_no 1) = w.net ∙ after_rows-append b.net (phases_up n) (bare_config (config_no 1)) in
    record {
      head = w.head ∙ g.head;
      turns = w.turns ∙ g.turns;
      told_by = w.told_by ∙ g.told_by;
      net = w.net ∙ ap (λ x. after_rows x rows) g.net;
      rows_are = w.rows_are ∙ ap (λ rs. rs ++ rows) g.rows;
      used = record { rows_used = used.rows_used; frames = used.frames; bytes = used.bytes; slack = used.slack; turns = used.turns; payloads = used.payloads };
      did = subst (λ (x : Net). Did old.held.seats old.held up x rows) g.net
          (did_nothing old.held.seats old.held up b.net rows (config_calls b.net (phases_up n) (config_no 1) (up_phases n)) (λ m. config_logs m (phases_up n) (config_no 1) (up_phases n)) (counts_up port old.held));
      stands = subst (λ (x : Net). Stands x t.queue up []) (sym net_is) (subst (λ q. Stands (bared b.net (phases_up n) (config_no 1)) q up []) (sym w.queue) stands);
    }

-- what the rules have, by whether the miniport refuses
halted_outcome : (net : Net) (refuses : Bool) (o : Outcome) → phase.Halted ≡ net.phase → initialize_outcome (record net { phase = phase.Halted }) refuses ≡ o → initialize_outcome net refuses ≡ o
halted_outcome net refuses o e is = ap (λ p. initialize_outcome (record net { phase = p }) refuses) (sym e) ∙ is

abbrev choosing : Bool → Choice
choosing refuses = record { keeps = false; refuses = refuses; shelf_empty = false }

-- the miniport and the protocols were set up
pub held_up : (port : PortSetup) (old new : HeldView) → AreSetUp port old.miniport old.protocols new.miniport new.protocols → new ≡ record old { miniport = new.miniport; protocols = new.protocols } → new ≡ set_up port old
held_up port old new up is = is ∙ ap (λ m. record old { miniport = m; protocols = new.protocols }) up.miniport ∙ ap (λ ps. record old { miniport = ported port old.miniport; protocols = ps }) up.protocols

pub initialized : (old : BookView) (b t : TrayView) (held : HeldView) (n : ℕ) → IsBook old → IsIdle old → Begins old.tray b [] → phase.Halted ≡ b.net.phase → n ≡ length old.tray.net.modules.bindings
    → t ≡ written_up b n → held ≡ set_up b.net.head.port old.held → DidEvent old (record { tray = t; held = held }) event.Initialize reply.Ok
initialized old b t held n k i g halted all made up =
    let rows : List Row = rows_up n in
    let ends : Ends old (record { tray = t; held = held }) rows =
    subst (λ x. Ends old (record { tray = x; held = held }) rows) (sym made)
    (subst (λ h. Ends old (record { tray = written_up b n; held = h }) rows) (sym up) (ends_up old b n k g)) in
    let is : initialize_outcome old.tray.net false ≡ record { reply = reply.Ok; rows = initialize_rows old.tray.net } = halted_outcome old.tray.net false _ (sym (was_halted old b g halted)) refl in
    did_event old _ rows event.Initialize (choosing false) reply.Ok k i ends (ap (λ (o : Outcome). o.reply) (sym is)) (rows_are n old.tray.net all ∙ ap (λ (o : Outcome). o.rows) (sym is)) refl tt (ap (λ (h : HeldView). h.shelf) up, ap (λ (h : HeldView). h.seats) up)

-- the miniport refused
abbrev refusing : HeldView → ℕ → HeldView
refusing held r = record held { miniport = record held.miniport { refusals = r } }

kept_refused : (held : HeldView) (r : ℕ) (m : ModuleId) → kept_of (refusing held r) m ≡ kept_of held m
kept_refused held r Miniport = refl
kept_refused held r (Filter f) = refl
kept_refused held r (Binding b) = refl

pool_refused : (held : HeldView) (r : ℕ) (m : ModuleId) → held_pool (refusing held r) m ≡ held_pool held m
pool_refused held r Miniport = refl
pool_refused held r (Filter f) = refl
pool_refused held r (Binding b) = refl

fit_refused : (held : HeldView) (r : ℕ) (port : PortSetup) (p : Phase) → DriversFit port held p → DriversFit port (refusing held r) p
fit_refused held r port phase.Halted d = (d.0, d.1)
fit_refused held r port phase.Paused d = d
fit_refused held r port phase.Restarting d = d
fit_refused held r port phase.Running d = d
fit_refused held r port phase.Pausing d = d

ends_refused : (old : BookView) (b : TrayView) (r : ℕ) → IsBook old → Begins old.tray b [] → old.held.miniport.refusals ≤ r → Ends old (record { tray = b; held = refusing old.held r }) []
ends_refused old b r k g rose =
    let s : Stands b.net b.queue old.held [] = begins_stands k g in
    let now : HeldView = refusing old.held r in
    ends_phases now [] b k g (has_written [] b tt) tt
    (miniport_leaves old.held (record old.held.miniport { refusals = r }) old.held.miniport_pool refl refl refl refl)
    (record { miniport = refl; protocols = λ i. refl; filters = λ place. refl; keeps = keeps_same old.held now rose refl })
    (agrees_same b.net (hands_of b.queue old.held []) (hands_of b.queue now []) (record { queue = refl; loose = refl; kept = λ m. sym (kept_refused old.held r m); pools = λ m. sym (pool_refused old.held r m) }) s.agrees)
    (record { carried = s.sized.carried; loose_sized = s.sized.loose_sized; kept = λ m. subst (All IsSized) (sym (kept_refused old.held r m)) (s.sized.kept m) })
    s.ring (fit_refused old.held r b.net.head.port b.net.phase s.drivers)

held_refused : (old new : HeldView) (r : HasRefused old.miniport old.protocols new.miniport new.protocols) → new ≡ record old { miniport = new.miniport; protocols = new.protocols } → new ≡ refusing old new.miniport.refusals
held_refused old new r is = is ∙ ap (λ m. record old { miniport = m; protocols = new.protocols }) r.miniport.same ∙ ap (λ ps. record (refusing old new.miniport.refusals) { protocols = ps }) r.protocols

pub not_initialized : (old : BookView) (b : TrayView) (held : HeldView) → IsBook old → IsIdle old → Begins old.tray b [] → phase.Halted ≡ b.net.phase
    → HasRefused old.held.miniport old.held.protocols held.miniport held.protocols → held ≡ record old.held { miniport = held.miniport; protocols = held.protocols }
    → DidEvent old (record { tray = b; held = held }) event.Initialize (reply.Refused refusal.InitRefused)
not_initialized old b held k i g halted r same =
    let ends : Ends old (record { tray = b; held = held }) [] =
    subst (λ h. Ends old (record { tray = b; held = h }) []) (sym (held_refused old.held held r same)) (ends_refused old b held.miniport.refusals k g (risen_most old.held.miniport.refusals held.miniport.refusals r.miniport.rose)) in
    let is : initialize_outcome old.tray.net true ≡ refused refusal.InitRefused = halted_outcome old.tray.net true _ (sym (was_halted old b g halted)) refl in
    did_event old _ [] event.Initialize (choosing true) _ k i ends (ap (λ (o : Outcome). o.reply) (sym is)) (ap (λ (o : Outcome). o.rows) (sym is)) refl r.miniport.rose (ap (λ (h : HeldView). h.shelf) same, ap (λ (h : HeldView). h.seats) same)

-- the stack isn't Halted
not_halted : (p : Phase) → ¬ (p ≡ phase.Halted) → phase_is_halted p ≡ false
not_halted phase.Halted other = absurd (other refl)
not_halted phase.Paused other = refl
not_halted phase.Restarting other = refl
not_halted phase.Running other = refl
not_halted phase.Pausing other = refl

pub wrong_phase : (old : BookView) (t : TrayView) (now : Phase) → IsBook old → IsIdle old → Begins old.tray t [] → now ≡ t.net.phase → ¬ (now ≡ phase.Halted)
    → DidEvent old (record { tray = t; held = old.held }) event.Initialize (reply.Refused (refusal.WrongPhase now))
wrong_phase old t now k i g now_is other =
    let was : now ≡ old.tray.net.phase = now_is ∙ ap (λ (n : Net). n.phase) g.net in
    let is : initialize_outcome old.tray.net false ≡ refused (refusal.WrongPhase old.tray.net.phase) = cond-false (phase_is_halted old.tray.net.phase) _ _ (ap phase_is_halted (sym was) ∙ not_halted now other) in
    did_event old _ [] event.Initialize (choosing false) _ k i (ends_still t k g)
    (ap (λ p. reply.Refused (refusal.WrongPhase p)) was ∙ ap (λ (o : Outcome). o.reply) (sym is)) (ap (λ (o : Outcome). o.rows) (sym is)) refl tt (refl, refl)

-- room for a turn is left
pub turns_left : (b t : TrayView) (n : ℕ) → 1 ≤ b.room.turns → t ≡ written_up b n → 1 ≤ t.room.turns
turns_left b t n turns made =
    let used = (up_written n b).used.turns in
    omega (arith, turns, used, ap (λ (x : TrayView). x.room.turns) made)

-- the rows are written one after the other
pub room_up : (t a b : TrayView) (n : ℕ) → n * 2 + 3 ≤ t.room.rows → a ≡ written t (state_row state.Paused Miniport) → b ≡ each_written a (twice state.Opening state.Paused (bindings_from 0 n)) → 2 ≤ b.room.rows
room_up t a b n room first then =
    let many : length (twice state.Opening state.Paused (bindings_from 0 n)) ≡ n * 2 = twice_length state.Opening state.Paused (bindings_from 0 n) ∙ ap (λ k. k * 2) (bindings_count 0 n) in
    room_after a b (twice state.Opening state.Paused (bindings_from 0 n)) 2 then (omega (arith, many, room, ap (λ (x : TrayView). x.room.rows) first))

pub made_up : (t a b c d : TrayView) (n : ℕ) → a ≡ written t (state_row state.Paused Miniport) → b ≡ each_written a (twice state.Opening state.Paused (bindings_from 0 n)) → c ≡ written b (row.Phase (of.Stack phase.Paused))
    → d ≡ tray.configured c (config_no 1) [] → d ≡ written_up t n
made_up t a b c d n first second third last =
    let bound : List Row = twice state.Opening state.Paused (bindings_from 0 n) in
    let paused : Row = row.Phase (of.Stack phase.Paused) in
    last
    ∙ ap (λ x. tray.configured x (config_no 1) [])
    (third ∙ ap (λ x. written x paused) (second ∙ ap (λ x. each_written x bound) first)
    ∙ sym (each_append bound (paused ∷ []) (written t (state_row state.Paused Miniport))))
