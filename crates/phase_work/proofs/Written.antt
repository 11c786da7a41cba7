-- Rows of phases: they call and log nothing, and the book stands again.
use Rattle.std.proofs.Common.{◌≡◌, ℕ, ◌≤◌, false, cond, List, [], ◌∷◌, ◌++◌, length, count_by, refl, sym, ap, ◌∙◌, subst, arith, append_assoc, append-nil}
use Rattle.std.proofs.lemmas.List.Sums.{sum_by-cons}
use Rattle.flat_journal.proofs.Grown.{grows_nothing}
use Rattle.ndis_base.specs.declared.ModuleId.{ModuleId}
use Rattle.ndis_base.specs.declared.ModuleId.TheVariants.{Miniport, Filter, Binding}
use Rattle.journal_types.specs.declared.Row.{Row}
use Rattle.journal_types.specs.declared.Row.TheVariants as row
use Rattle.stack_rules.specs.Net.{Net, after, after_rows}
use Rattle.promise_rules.specs.Calls.{is_call_of, logged_at}
use Rattle.driver_views.specs.States.{Record, times}
use Rattle.hand_lemmas.specs.Hands.{Agrees}
use Rattle.driver_tray.specs.Tray.{TrayView, written}
use Rattle.book_lemmas.specs.Views.{BookView, HeldView, hands_of}
use Rattle.book_lemmas.specs.Did.{calls_in, logs_in, IsServed, Did}
use Rattle.book_lemmas.specs.Leaves.{ArePhases, Leaves}
use Rattle.book_lemmas.specs.Stands.{Stands, AllSized, DriversFit}
use Rattle.book_lemmas.specs.Turns.{HasUsed, row_frames, shown_bytes, is_way}
use Rattle.book_lemmas.proofs.Keeps.{keeps_none}
use Rattle.book_lemmas.proofs.Goes.{used_none, used_then}
use Rattle.book_lemmas.proofs.Phases.{phases_agree, stands_phases}
use Rattle.book_parts.specs.Events.{IsBook}
use Rattle.book_parts.proofs.Events.{Begins, Ends, begins_stands}
use Rattle.phase_work.specs.Written.{each_written, CountsNothing}

-- what of the tray changes as rows are written
pub record HasWritten (t : TrayView) (rows : List Row) (t' : TrayView) : Type 0 where
  pub net : t'.net ≡ after_rows t.net rows
  pub rows_are : t'.rows ≡ t.rows ++ rows
  pub head : t'.head ≡ t.head
  pub turns : t'.turns ≡ t.turns
  pub told_by : t'.told_by ≡ t.told_by
  pub queue : t'.queue ≡ t.queue
  pub used : HasUsed t rows t'

-- a row of a phase shows no frames and puts nothing on its way
quiet_row : (t : TrayView) (r : Row) → row_frames r ≡ 0 → shown_bytes r ≡ 0 → is_way r ≡ false → HasUsed t (r ∷ []) (written t r)
quiet_row t r frames bytes way =
    let one : length (r ∷ []) ≡ 1 = refl in
    let shown = sum_by-cons row_frames r [] in
    let long = sum_by-cons shown_bytes r [] in
    let ways = sum_by-cons (λ q. cond (is_way q) 1 0) r [] in
    record { rows_used = omega (arith, one); frames = omega (arith, shown); bytes = omega (arith, long); slack = omega (arith, ways); turns = omega arith; payloads = grows_nothing t.payloads }

pub has_written : (rows : List Row) (t : TrayView) → ArePhases rows → HasWritten t rows (each_written t rows)
has_written [] t p = record { net = refl; rows_are = sym (append-nil t.rows); head = refl; turns = refl; told_by = refl; queue = refl; used = used_none t }
has_written (row.Phase whose ∷ rows) t p =
    let r : Row = row.Phase whose in
    let more = has_written rows (written t r) p.1 in
    record {
      net = more.net;
      rows_are = more.rows_are ∙ append_assoc t.rows (r ∷ []) rows;
      head = more.head;
      turns = more.turns;
      told_by = more.told_by;
      queue = more.queue;
      used = used_then t (written t r) (each_written (written t r) rows) (r ∷ []) rows (quiet_row t r refl refl refl) more.used;
    }
has_written (row.Issue list owner config direction cancel origin frames ∷ rows) t p = absurd p
has_written (row.Give list m handler ∷ rows) t p = absurd p
has_written (row.Pass list way to ∷ rows) t p = absurd p
has_written (row.Keep list m ∷ rows) t p = absurd p
has_written (row.TurnBack list m status ∷ rows) t p = absurd p
has_written (row.Home list owner status ∷ rows) t p = absurd p
has_written (row.Wire list frames ∷ rows) t p = absurd p
has_written (row.Deliver list binding how frames ∷ rows) t p = absurd p
has_written (row.Config config filters ∷ rows) t p = absurd p
has_written (row.OidIssue request parent binding kind code value ∷ rows) t p = absurd p
has_written (row.OidGive request m ∷ rows) t p = absurd p
has_written (row.OidDone request status value ∷ rows) t p = absurd p
has_written (row.Status number name to ∷ rows) t p = absurd p
has_written (row.Seen number m ∷ rows) t p = absurd p
has_written (row.CrossOut message way frames ∷ rows) t p = absurd p
has_written (row.CrossIn stack message way frames ∷ rows) t p = absurd p

-- no driver is called and nothing is logged
pub phases_call : (net : Net) (rows : List Row) → ArePhases rows → calls_in net rows ≡ []
phases_call net [] p = refl
phases_call net (row.Phase whose ∷ rows) p = phases_call (after net (row.Phase whose)) rows p.1
phases_call net (row.Issue list owner config direction cancel origin frames ∷ rows) p = absurd p
phases_call net (row.Give list m handler ∷ rows) p = absurd p
phases_call net (row.Pass list way to ∷ rows) p = absurd p
phases_call net (row.Keep list m ∷ rows) p = absurd p
phases_call net (row.TurnBack list m status ∷ rows) p = absurd p
phases_call net (row.Home list owner status ∷ rows) p = absurd p
phases_call net (row.Wire list frames ∷ rows) p = absurd p
phases_call net (row.Deliver list binding how frames ∷ rows) p = absurd p
phases_call net (row.Config config filters ∷ rows) p = absurd p
phases_call net (row.OidIssue request parent binding kind code value ∷ rows) p = absurd p
phases_call net (row.OidGive request m ∷ rows) p = absurd p
phases_call net (row.OidDone request status value ∷ rows) p = absurd p
phases_call net (row.Status number name to ∷ rows) p = absurd p
phases_call net (row.Seen number m ∷ rows) p = absurd p
phases_call net (row.CrossOut message way frames ∷ rows) p = absurd p
phases_call net (row.CrossIn stack message way frames ∷ rows) p = absurd p

still : (whose : _) (m : ModuleId) → logged_at m (row.Phase whose) ≡ []
still whose Miniport = refl
still whose (Filter f) = refl
still whose (Binding b) = refl

pub phases_log : (m : ModuleId) (rows : List Row) → ArePhases rows → logs_in m rows ≡ []
phases_log m [] p = refl
phases_log m (row.Phase whose ∷ rows) p = ap (λ ls. ls ++ logs_in m rows) (still whose m) ∙ phases_log m rows p.1
phases_log m (row.Issue list owner config direction cancel origin frames ∷ rows) p = absurd p
phases_log m (row.Give list k handler ∷ rows) p = absurd p
phases_log m (row.Pass list way to ∷ rows) p = absurd p
phases_log m (row.Keep list k ∷ rows) p = absurd p
phases_log m (row.TurnBack list k status ∷ rows) p = absurd p
phases_log m (row.Home list owner status ∷ rows) p = absurd p
phases_log m (row.Wire list frames ∷ rows) p = absurd p
phases_log m (row.Deliver list binding how frames ∷ rows) p = absurd p
phases_log m (row.Config config filters ∷ rows) p = absurd p
phases_log m (row.OidIssue request parent binding kind code value ∷ rows) p = absurd p
phases_log m (row.OidGive request k ∷ rows) p = absurd p
phases_log m (row.OidDone request status value ∷ rows) p = absurd p
phases_log m (row.Status number name to ∷ rows) p = absurd p
phases_log m (row.Seen number k ∷ rows) p = absurd p
phases_log m (row.CrossOut message way frames ∷ rows) p = absurd p
phases_log m (row.CrossIn stack message way frames ∷ rows) p = absurd p

served_same : (m : ModuleId) (net : Net) (rows : List Row) (old new : Record) → calls_in net rows ≡ [] → logs_in m rows ≡ [] → new ≡ old → IsServed m net rows old new
served_same m net rows old new calls log same = record {
  calls = λ what.
      let count : count_by (is_call_of m what) (calls_in net rows) ≡ 0 = ap (count_by (is_call_of m what)) calls in
      let times_are : times new.served what ≡ times old.served what = ap (λ (r : Record). times r.served what) same in
      omega (arith, count, times_are);
  log = ap (λ (r : Record). r.log) same ∙ sym (append-nil old.log) ∙ ap (λ ls. old.log ++ ls) (sym log);
}

pub did_nothing : (seats : List (ℕ × ℕ)) (old new : HeldView) (net : Net) (rows : List Row) → calls_in net rows ≡ [] → ((m : ModuleId) → logs_in m rows ≡ []) → CountsNothing old new → Did seats old new net rows
did_nothing seats old new net rows calls log c = record {
  miniport = served_same Miniport net rows old.miniport.did new.miniport.did calls (log Miniport) c.miniport;
  protocols = λ i. served_same (Binding i) net rows _ _ calls (log (Binding i)) (c.protocols i);
  filters = λ f place seat. served_same (Filter f) net rows _ _ calls (log (Filter f)) (c.filters place);
  shelved = λ place none. record { calls = λ what. ap (λ (r : Record). times r.served what) (c.filters place); log = ap (λ (r : Record). r.log) (c.filters place) };
  keeps = c.keeps;
}

-- An event of such rows ends.
pub ends_phases : {old : BookView} {b : TrayView} (held : HeldView) (rows : List Row) (t : TrayView) → IsBook old → Begins old.tray b [] → HasWritten b rows t → ArePhases rows → Leaves old.held held → CountsNothing old.held held
    → Agrees (after_rows b.net rows) (hands_of t.queue held []) → AllSized t.queue held [] → length held.miniport.kept ≤ b.net.head.port.ring → DriversFit b.net.head.port held t.net.phase
    → Ends old (record { tray = t; held = held }) rows
ends_phases {old} {b} held rows t k g w phases l c agrees sized ring drivers =
    let used : HasUsed old.tray rows t = used_then old.tray b t [] rows g.used w.used in
    record {
      head = w.head ∙ g.head;
      turns = w.turns ∙ g.turns;
      told_by = w.told_by ∙ g.told_by;
      net = w.net ∙ ap (λ n. after_rows n rows) g.net;
      rows_are = w.rows_are ∙ ap (λ rs. rs ++ rows) g.rows;
      used = record { rows_used = used.rows_used; frames = used.frames; bytes = used.bytes; slack = used.slack; turns = used.turns; payloads = used.payloads };
      did = subst (λ (n : Net). Did old.held.seats old.held held n rows) g.net (did_nothing old.held.seats old.held held b.net rows (phases_call b.net rows phases) (λ m. phases_log m rows phases) c);
      stands = stands_phases b.net t.net b.queue t.queue old.held held rows (begins_stands k g) l phases w.net agrees sized ring drivers;
    }

-- where no driver changed
pub ends_moved : {old : BookView} {b : TrayView} (rows : List Row) → IsBook old → Begins old.tray b [] → ArePhases rows → DriversFit b.net.head.port old.held (after_rows b.net rows).phase
    → Ends old (record { tray = each_written b rows; held = old.held }) rows
ends_moved {old} {b} rows k g phases drivers =
    let w : HasWritten b rows (each_written b rows) = has_written rows b phases in
    let s : Stands b.net b.queue old.held [] = begins_stands k g in
    let q = w.queue in
    ends_phases old.held rows (each_written b rows) k g w phases leaves_same
    (record { miniport = refl; protocols = λ i. refl; filters = λ place. refl; keeps = keeps_none old.held })
    (subst (λ queue. Agrees (after_rows b.net rows) (hands_of queue old.held [])) (sym q) (phases_agree b.net rows (hands_of b.queue old.held []) phases s.agrees))
    (subst (λ queue. AllSized queue old.held []) (sym q) s.sized) s.ring
    (subst (λ (n : Net). DriversFit b.net.head.port old.held n.phase) (sym w.net) drivers)
  where
    leaves_same : Leaves old.held old.held
    leaves_same = record {
      seats = refl;
      shelf = refl;
      port = refl;
      miniport_kind = refl;
      protocol_kinds = λ i. refl;
      protocols = refl;
      drivers = refl;
      opened = λ i. refl;
      kinds = λ place. refl;
      setups = λ place. refl;
      resting = λ place none. refl;
      protocol_pools = refl;
      filter_pools = refl;
      sizes = λ m. refl;
      bytes = λ m. refl;
    }
