-- The drivers of a run count and log what its journal tells.
use Rattle.std.proofs.Common.{◌≡◌, ℕ, ◌+◌, List, [], ◌∷◌, ◌++◌, count_by, flat_map, length, slice_index_or, refl, sym, ap, ◌∙◌, subst, arith, append_assoc, append-nil}
use Rattle.ndis_base.specs.declared.ModuleId.{ModuleId}
use Rattle.ndis_base.specs.declared.ModuleId.TheVariants.{Miniport, Binding}
use Rattle.journal_types.specs.declared.Row.{Row}
use Rattle.journal_types.specs.declared.StackHead.{StackHead}
use Rattle.journal_types.specs.declared.Turn.{Turn}
use Rattle.script_types.specs.declared.Call.{Call}
use Rattle.script_types.specs.declared.FilterSetup.{FilterSetup}
use Rattle.stack_rules.specs.Net.{Net, seen, start, told, after_turn, after_turns}
use Rattle.stack_rules.specs.Sound.{Sound}
use Rattle.rule_basics.proofs.Counts.{count_by-append}
use Rattle.home_laws.specs.Rows.{rows_of}
use Rattle.promise_rules.specs.declared.Called.{Called}
use Rattle.promise_rules.specs.Calls.{is_call_of, logged_at}
use Rattle.driver_views.specs.States.{Record, times}
use Rattle.book_lemmas.specs.Did.{Did, IsServed, calls_in, calls_of, logs_in}
use Rattle.book_lemmas.specs.Views.{BookView, HeldView, no_protocol}
use Rattle.book_lemmas.proofs.Heads.{head_seen}
use Rattle.book_parts.proofs.Ended.{idle_state}
use Rattle.served_laws.proofs.Served.{each_is_served, each_is_logged}
use Rattle.book_runs.specs.Adds.{Adds}
use Rattle.book_runs.specs.Runs.{IsBetween}
use Rattle.book_scripts.specs.Scripts.{RunsWhole}
use Rattle.book_scripts.specs.Served.{AreServed, DriversServed, IsServedBy}
use Rattle.book_scripts.proofs.Followed.{runs_unless_refused}
use Rattle.book_scripts.proofs.Laws.{run_is_sound}
use Rattle.book_scripts.proofs.Refusals.{miniport_counted}
use Rattle.book_scripts.proofs.Whole.{added_turns, keeps_all}

flat_more : {X Y : Type 0} (f : X → List Y) (xs ys : List X) → flat_map f (xs ++ ys) ≡ flat_map f xs ++ flat_map f ys
flat_more f [] ys = refl
flat_more f (x ∷ xs) ys = ap (λ zs. f x ++ zs) (flat_more f xs ys) ∙ sym (append_assoc (f x) (flat_map f xs) (flat_map f ys))

turns_push : (net : Net) (before : List Turn) (t : Turn) → after_turns net (before ++ t ∷ []) ≡ after_turn (after_turns net before) t
turns_push net [] t = refl
turns_push net (b ∷ before) t = turns_push (after_turn net b) before t

-- a driver's counts and log rose by those of some turns, told by the state in which they begin
record IsCounted (m : ModuleId) (net : Net) (turns : List Turn) (old new : Record) : Type 0 where
  calls : (what : Called) → times new.served what ≡ times old.served what + count_by (is_call_of m what) (calls_of net turns)
  log : new.log ≡ old.log ++ logs_in m (rows_of turns)

counted_none : (m : ModuleId) (net : Net) (old : Record) → IsCounted m net [] old old
counted_none m net old = record {
  calls = λ what. let none : count_by (is_call_of m what) [] ≡ 0 = refl in omega (arith, none);
  log = sym (append-nil old.log);
}

counted_more : (m : ModuleId) (net : Net) (t : Turn) (ts : List Turn) (old mid new : Record) → IsServed m (told net t.event t.reply) t.rows old mid → IsCounted m (after_turn net t) ts mid new → IsCounted m net (t ∷ ts) old new
counted_more m net t ts old mid new s c = record {
  calls = λ what.
      let here = s.calls what in
      let more = c.calls what in
      let split = count_by-append (is_call_of m what) (calls_in (told net t.event t.reply) t.rows) (calls_of (after_turn net t) ts) in
      omega (arith, here, more, split);
  log =
      c.log
      ∙ ap (λ l. l ++ logs_in m (rows_of ts)) s.log
      ∙ append_assoc old.log (logs_in m t.rows) (logs_in m (rows_of ts))
      ∙ ap (λ l. old.log ++ l) (sym (flat_more (logged_at m) t.rows (rows_of ts)));
}

-- the driver that stands for a module among those that are held
module _ (m : ModuleId) (pick : HeldView → Record) (each : (seats : List (ℕ × ℕ)) (o n : HeldView) (net : Net) (rows : List Row) → Did seats o n net rows → IsServed m net rows (pick o) (pick n)) where
  counted_by : (old new : BookView) (ts : List Turn) → Adds old new ts → IsCounted m (seen old.tray.head old.tray.turns) ts (pick old.held) (pick new.held)
  counted_by old new [] p = subst (λ (v : BookView). IsCounted m (seen old.tray.head old.tray.turns) [] (pick old.held) (pick v.held)) p (counted_none m (seen old.tray.head old.tray.turns) (pick old.held))
  counted_by old new (t ∷ ts) p =
      let net : Net = seen old.tray.head old.tray.turns in
      let mid : BookView = p.0 in
      let one : IsServed m (told net t.event t.reply) t.rows (pick old.held) (pick mid.held) =
      subst (λ rows. IsServed m (told net t.event t.reply) rows (pick old.held) (pick mid.held)) (sym p.1.rows) (each old.held.seats old.held mid.held (told net t.event t.reply) p.1.adds.rows p.1.adds.did) in
      let then : seen mid.tray.head mid.tray.turns ≡ after_turn net t =
      ap (λ (h : StackHead). seen h mid.tray.turns) p.1.adds.head
      ∙ ap (seen old.tray.head) (added_turns old mid (t ∷ []) (mid, p.1, refl))
      ∙ turns_push (start old.tray.head) old.tray.turns t in
      counted_more m net t ts (pick old.held) (pick mid.held) (pick new.held) one
      (subst (λ (n : Net). IsCounted m n ts (pick mid.held) (pick new.held)) then (counted_by mid new ts p.2))

-- from no turn on, that is what is promised of the journal
served_as : (head : StackHead) (turns : List Turn) (m : ModuleId) (old new : Record) → Sound head turns → IsCounted m (start head) turns old new → IsServedBy turns m old new
served_as head turns m old new s c = record {
  calls = λ what. c.calls what ∙ ap (λ n. times old.served what + n) (sym (each_is_served head turns s m what));
  log = c.log ∙ ap (λ l. old.log ++ l) (sym (each_is_logged turns m));
}

-- as many protocols stand as the head has bindings
as_many_as_bindings : (v : BookView) → IsBetween v → length v.held.protocols ≡ length v.tray.head.bindings
as_many_as_bindings v k =
    k.book.stands.protocols
    ∙ ap (λ (n : Net). length n.head.bindings) (idle_state v k.book k.idle)
    ∙ ap (λ (h : StackHead). length h.bindings) (head_seen v.tray.head v.tray.turns)

all_served : (filters : List FilterSetup) (calls : List Call) (a b : BookView) → a.tray.turns ≡ [] → IsBetween a → RunsWhole filters calls a b → AreServed b.tray.turns a.held.miniport a.held.protocols b.held.miniport b.held.protocols
all_served filters calls a b none k w =
    let are : b.tray.turns ≡ w.added.more = w.turns ∙ ap (λ ts. ts ++ w.added.more) none in
    let sound : Sound a.tray.head w.added.more = subst (Sound a.tray.head) are (run_is_sound filters calls a b w) in
    let begun : seen a.tray.head a.tray.turns ≡ start a.tray.head = ap (seen a.tray.head) none in
    let all : AreServed w.added.more a.held.miniport a.held.protocols b.held.miniport b.held.protocols = record {
      miniport_served = served_as a.tray.head w.added.more Miniport a.held.miniport.did b.held.miniport.did sound
          (subst (λ (n : Net). IsCounted Miniport n w.added.more a.held.miniport.did b.held.miniport.did) begun
          (counted_by Miniport (λ (h : HeldView). h.miniport.did) (λ seats o n net rows d. d.miniport) a b w.added.more w.added.adds));
      protocols_served = λ i. served_as a.tray.head w.added.more (Binding i) (slice_index_or a.held.protocols i no_protocol).did (slice_index_or b.held.protocols i no_protocol).did sound
          (subst (λ (n : Net). IsCounted (Binding i) n w.added.more (slice_index_or a.held.protocols i no_protocol).did (slice_index_or b.held.protocols i no_protocol).did) begun
          (counted_by (Binding i) (λ (h : HeldView). (slice_index_or h.protocols i no_protocol).did) (λ seats o n net rows d. d.protocols i) a b w.added.more w.added.adds));
      as_many = as_many_as_bindings b w.now.between ∙ ap (λ (h : StackHead). length h.bindings) w.head_is ∙ sym (as_many_as_bindings a k);
      refusals = miniport_counted a b w.added.more w.added.adds;
    } in
    subst (λ ts. AreServed ts a.held.miniport a.held.protocols b.held.miniport b.held.protocols) (sym are) all

pub run_served : (filters : List FilterSetup) (calls : List Call) (a b : BookView) → a.tray.turns ≡ [] → IsBetween a → RunsWhole filters calls a b → DriversServed a.tray.head filters b.tray.turns a.held b.held
run_served filters calls a b none k w = record {
  are = all_served filters calls a b none k w;
  ran = runs_unless_refused filters calls a b none w;
  kinds = (keeps_all a b w.added.more w.added.adds).kinds;
}
