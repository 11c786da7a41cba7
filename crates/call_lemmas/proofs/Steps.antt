-- One step of a call after the other: a row is written, and a list goes from one hand to another.
use Rattle.std.proofs.Common.{◌≡◌, ℕ, ◌+◌, ◌≤◌, ◌-◌, Bool, true, false, cond, List, [], ◌∷◌, ◌++◌, Option, Some, None, All, length, sum_by, count_by, refl, sym, ap, ◌∙◌, subst, arith, append_assoc, append-nil, ◌==◌, eq-eqb}
use Rattle.std.proofs.lemmas.List.Sums.{sum_by-cons}
use Rattle.std.proofs.lemmas.Bool.{cond-true, cond-false}
use Rattle.std.proofs.lemmas.Bool.Decides.{nat_tests}
use Rattle.std.proofs.lemmas.List.Elements.{All-nil, All-cons, All-head, All-tail, All-append, All-push}
use Rattle.flat_journal.proofs.Grown.{grows_nothing, grown_by_frames}
use Rattle.flat_journal.specs.Grows.{Grows}
use Rattle.ndis_base.specs.declared.ModuleId.{ModuleId}
use Rattle.ndis_base.specs.declared.ModuleId.TheVariants.{Miniport, Filter, Binding}
use Rattle.ndis_base.specs.declared.ListNo.{ListNo}
use Rattle.ndis_base.specs.declared.ListStatus.{ListStatus}
use Rattle.ndis_base.specs.declared.Direction.{Direction}
use Rattle.ndis_base.specs.declared.Direction.TheVariants as direction
use Rattle.journal_types.specs.declared.Handler.{Handler}
use Rattle.journal_types.specs.declared.How.{How}
use Rattle.journal_types.specs.declared.PassWay.{PassWay}
use Rattle.journal_types.specs.declared.Target.{Target}
use Rattle.journal_types.specs.declared.Row.{Row}
use Rattle.journal_types.specs.declared.Row.TheVariants as row
use Rattle.buffer_pools.specs.Views.{ListView, PoolView, IsOf, Issues, Frees}
use Rattle.stack_rules.specs.declared.LiveList.{LiveList}
use Rattle.stack_rules.specs.Net.{Net, Modules, after, after_rows, lists, list_of}
use Rattle.stack_rules.specs.Targets.{onward, homeward_by}
use Rattle.stack_rules.specs.Tests.{same_module}
use Rattle.promise_rules.specs.declared.Call.{Call}
use Rattle.promise_rules.specs.Calls.{call, called_by, received_as, home_call, logged_at}
use Rattle.agenda_items.specs.declared.Carried.{Carried}
use Rattle.agenda_items.specs.declared.Carried.TheVariants.{List as a_list}
use Rattle.agenda_items.specs.Views.{passed_by}
use Rattle.hand_lemmas.specs.Hands.{Common, Hands, Agrees, IsSame, IsMine, in_state, in_hand, put_at}
use Rattle.hand_lemmas.proofs.Modules.{put_here, at_each}
use Rattle.hand_lemmas.proofs.Rows.{given, turned_back, wired, delivered, issued, agrees_same}
use Rattle.hand_lemmas.proofs.Tells.{next_list}
use Rattle.hand_lemmas.proofs.Steps.{passed_first, passed_kept, passed_loose, kept_first, homed_first, homed_kept, homed_loose}
use Rattle.book_lemmas.specs.Did.{calls_now, calls_in, logs_in, direction_of}
use Rattle.book_lemmas.specs.Leaves.{ArePlain}
use Rattle.book_lemmas.specs.Stands.{IsSized, IsCarriedSized}
use Rattle.book_lemmas.specs.Turns.{HasUsed, row_frames, shown_bytes, is_way}
use Rattle.book_lemmas.proofs.Goes.{after_rows-append, calls_in-append, used_then}
use Rattle.driver_tray.specs.Tray as tray
use Rattle.driver_tray.specs.Tray.{TrayView}
use Rattle.call_lemmas.specs.InCall.{Beside, hands_in, AreSizedIn, InCall}

-- a row of lists, statuses, requests or messages
abbrev IsPlain : Row → Type 0
IsPlain r = ArePlain (r ∷ [])

plain_push : (rows : List Row) (r : Row) → ArePlain rows → IsPlain r → ArePlain (rows ++ r ∷ [])
plain_push [] r p q = q
plain_push (row.Issue list owner config direction cancel origin frames ∷ rows) r p q = plain_push rows r p q
plain_push (row.Give list m handler ∷ rows) r p q = plain_push rows r p q
plain_push (row.Pass list way to ∷ rows) r p q = plain_push rows r p q
plain_push (row.Keep list m ∷ rows) r p q = plain_push rows r p q
plain_push (row.TurnBack list m status ∷ rows) r p q = plain_push rows r p q
plain_push (row.Home list owner status ∷ rows) r p q = plain_push rows r p q
plain_push (row.Wire list frames ∷ rows) r p q = plain_push rows r p q
plain_push (row.Deliver list binding how frames ∷ rows) r p q = plain_push rows r p q
plain_push (row.Phase whose ∷ rows) r p q = absurd p
plain_push (row.Config config filters ∷ rows) r p q = absurd p
plain_push (row.OidIssue request parent binding kind code value ∷ rows) r p q = plain_push rows r p q
plain_push (row.OidGive request m ∷ rows) r p q = plain_push rows r p q
plain_push (row.OidDone request status value ∷ rows) r p q = plain_push rows r p q
plain_push (row.Status number name to ∷ rows) r p q = plain_push rows r p q
plain_push (row.Seen number m ∷ rows) r p q = plain_push rows r p q
plain_push (row.CrossOut message way frames ∷ rows) r p q = plain_push rows r p q
plain_push (row.CrossIn stack message way frames ∷ rows) r p q = plain_push rows r p q

pub put_twice : {X : Type 0} (m : ModuleId) (x y : X) (f : ModuleId → X) (k : ModuleId) → put_at m x (put_at m y f) k ≡ put_at m x f k
put_twice m x y f k = elim (same_module k m) as (λ b. cond b x (cond b y (f k)) ≡ cond b x (f k)) [ true ↦ refl | false ↦ refl ]

pub put_same : {X : Type 0} (m : ModuleId) (x : X) (f : ModuleId → X) → f m ≡ x → (k : ModuleId) → f k ≡ put_at m x f k
put_same m x f e = at_each (λ k y. f k ≡ y) m x f e (λ k other. refl)

logs_push : (k : ModuleId) (rows : List Row) (r : Row) → logs_in k (rows ++ r ∷ []) ≡ logs_in k rows ++ logged_at k r
logs_push k [] r = append-nil (logged_at k r)
logs_push k (q ∷ rows) r = ap (λ ls. logged_at k q ++ ls) (logs_push k rows r) ∙ sym (append_assoc (logged_at k q) (logs_in k rows) (logged_at k r))

-- the elements of both parts
all_front : (xs ys : List ListView) → All IsSized (xs ++ ys) → All IsSized xs
all_front [] ys all = All-nil IsSized
all_front (x ∷ xs) ys all = All-cons IsSized x xs (All-head IsSized x (xs ++ ys) all) (all_front xs ys (All-tail IsSized x (xs ++ ys) all))

all_back : (xs ys : List ListView) → All IsSized (xs ++ ys) → All IsSized ys
all_back [] ys all = all
all_back (x ∷ xs) ys all = all_back xs ys (All-tail IsSized x (xs ++ ys) all)

eqb_sym_false : (a b : ℕ) → (a == b) ≡ false → (b == a) ≡ false
eqb_sym_false a b e = grind (arith, nat_tests)

-- what of the tray a step leaves as it was
pub record Wrote (t : TrayView) (r : Row) (t' : TrayView) : Type 0 where
  pub net : t'.net ≡ after t.net r
  pub rows : t'.rows ≡ t.rows ++ r ∷ []
  pub head : t'.head ≡ t.head
  pub turns : t'.turns ≡ t.turns
  pub told_by : t'.told_by ≡ t.told_by
  pub caller : t'.caller ≡ t.caller
  pub size : t'.pool.size ≡ t.pool.size
  pub bytes : t'.pool.bytes ≡ t.pool.bytes
  pub used : HasUsed t (r ∷ []) t'

-- one more row, whatever it moves, calls and logs
pub in_row : {b : TrayView} {h : Hands} {m : ModuleId} {rows : List Row} {calls : List Call} {log : List (List (List ℕ))} {t : TrayView} {x : Beside} (r : Row) (cs : List Call) (more : List (List (List ℕ))) (t' : TrayView) (x' : Beside)
    → InCall b h m rows calls log t x → Wrote t r t' → IsPlain r → calls_now t.net r ≡ cs → logged_at m r ≡ more → ((k : ModuleId) → same_module k m ≡ false → logged_at k r ≡ []) → Agrees t'.net (hands_in h m t' x') → AreSizedIn t' x'
    → InCall b h m (rows ++ r ∷ []) (calls ++ cs) (log ++ more) t' x'
in_row {b} {h} {m} {rows} {calls} {log} {t} {x} r cs more t' x' i w plain now logs others agrees sized = record {
  agrees = agrees;
  net = w.net ∙ ap (λ n. after n r) i.net ∙ sym (after_rows-append b.net rows (r ∷ []));
  rows_are = w.rows ∙ ap (λ rs. rs ++ r ∷ []) i.rows_are ∙ append_assoc b.rows rows (r ∷ []);
  head = w.head ∙ i.head;
  turns = w.turns ∙ i.turns;
  told_by = w.told_by ∙ i.told_by;
  plain = plain_push rows r i.plain plain;
  calls_are =
      calls_in-append b.net rows (r ∷ [])
      ∙ ap (λ cs. cs ++ calls_in (after_rows b.net rows) (r ∷ [])) i.calls_are
      ∙ ap (λ n. calls ++ calls_in n (r ∷ [])) (sym i.net)
      ∙ ap (λ cs. calls ++ cs) (append-nil (calls_now t.net r) ∙ now);
  log_is = logs_push m rows r ∙ ap (λ ls. ls ++ logged_at m r) i.log_is ∙ ap (λ ls. log ++ ls) logs;
  quiet = λ k other. logs_push k rows r ∙ ap (λ ls. ls ++ logged_at k r) (i.quiet k other) ∙ others k other;
  caller = w.caller ∙ i.caller;
  sized = sized;
  size = w.size ∙ i.size;
  bytes = w.bytes ∙ i.bytes;
  used = used_then b t t' rows (r ∷ []) i.used w.used;
}

-- a row that calls and logs nothing
pub in_still : {b : TrayView} {h : Hands} {m : ModuleId} {rows : List Row} {calls : List Call} {log : List (List (List ℕ))} {t : TrayView} {x : Beside} (r : Row) (t' : TrayView) (x' : Beside)
    → InCall b h m rows calls log t x → Wrote t r t' → IsPlain r → calls_now t.net r ≡ [] → ((k : ModuleId) → logged_at k r ≡ []) → Agrees t'.net (hands_in h m t' x') → AreSizedIn t' x'
    → InCall b h m (rows ++ r ∷ []) calls log t' x'
in_still {b} {h} {m} {rows} {calls} {log} {t} {x} r t' x' i w plain now logs agrees sized =
    subst (λ ls. InCall b h m (rows ++ r ∷ []) calls ls t' x') (append-nil log)
    (subst (λ cs. InCall b h m (rows ++ r ∷ []) cs (log ++ []) t' x') (append-nil calls)
    (in_row r [] [] t' x' i w plain now (logs m) (λ k other. logs k) agrees sized))

-- how much room a row uses
pub used_row : (t t' : TrayView) (r : Row) → t.room.rows ≤ t'.room.rows + 1 → t.room.frames ≤ t'.room.frames + row_frames r → t.room.bytes ≤ t'.room.bytes + shown_bytes r
    → t.slack ≤ t'.slack + cond (is_way r) 1 0 → t.room.turns ≤ t'.room.turns → Grows t.payloads t'.payloads → HasUsed t (r ∷ []) t'
used_row t t' r rows frames bytes slack turns payloads =
    let many : length (r ∷ []) ≡ 1 = refl in
    let shown = sum_by-cons row_frames r [] in
    let long = sum_by-cons shown_bytes r [] in
    let ways = sum_by-cons (λ q. cond (is_way q) 1 0) r [] in
    record {
      rows_used = omega (arith, rows, many);
      frames = omega (arith, frames, shown);
      bytes = omega (arith, bytes, long);
      slack = omega (arith, slack, ways);
      turns = turns;
      payloads = payloads;
    }

-- the tray with one more row, another queue and another pool of the same size
abbrev turned : TrayView → Row → List Carried → ℕ → PoolView → TrayView
turned t r queue slack pool = record (tray.written t r) { queue = queue; slack = slack; pool = pool }

pub wrote : (t : TrayView) (r : Row) (queue : List Carried) (slack : ℕ) (pool : PoolView) → t.slack ≤ slack + cond (is_way r) 1 0 → pool.size ≡ t.pool.size → pool.bytes ≡ t.pool.bytes → Wrote t r (turned t r queue slack pool)
wrote t r queue slack pool way size bytes = record {
  net = refl;
  rows = refl;
  head = refl;
  turns = refl;
  told_by = refl;
  caller = refl;
  size = size;
  bytes = bytes;
  used = used_row t (turned t r queue slack pool) r (omega arith) (omega arith) (omega arith) way (omega arith) (grows_nothing t.payloads);
}

-- Rows that move nothing.

-- the queue is the same
same_sized : {t t' : TrayView} {x : Beside} → AreSizedIn t x → t'.queue ≡ t.queue → AreSizedIn t' x
same_sized s e = record { front = s.front; queue = subst (All IsCarriedSized) (sym e) s.queue; loose = s.loose; kept = s.kept }

still_give : (n : ListNo) (m : ModuleId) (handler : Handler) (k : ModuleId) → logged_at k (row.Give n m handler) ≡ []
still_give n m handler Miniport = refl
still_give n m handler (Filter f) = refl
still_give n m handler (Binding b) = refl

pub in_given : {b : TrayView} {h : Hands} {m : ModuleId} {rows : List Row} {calls : List Call} {log : List (List (List ℕ))} {t : TrayView} {x : Beside} (n : ListNo) (handler : Handler)
    → InCall b h m rows calls log t x → InCall b h m (rows ++ row.Give n m handler ∷ []) (calls ++ call m (called_by handler)) log (tray.given t n handler) x
in_given {b} {h} {m} {rows} {calls} {log} {t} {x} n handler i =
    subst (λ k. InCall b h m (rows ++ row.Give n k handler ∷ []) (calls ++ call k (called_by handler)) log (tray.given t n handler) x) i.caller
    (subst (λ ls. InCall b h m (rows ++ row.Give n t.caller handler ∷ []) (calls ++ call t.caller (called_by handler)) ls (tray.given t n handler) x) (append-nil log)
    (in_row (row.Give n t.caller handler) (call t.caller (called_by handler)) [] (tray.given t n handler) x i (wrote t (row.Give n t.caller handler) t.queue t.slack t.pool (omega arith) refl refl) tt refl
    (still_give n t.caller handler m) (λ k other. still_give n t.caller handler k)
    (given t.net n t.caller handler (hands_in h m t x) i.agrees) (same_sized i.sized refl)))

still_turn : (n : ListNo) (m : ModuleId) (status : ListStatus) (k : ModuleId) → logged_at k (row.TurnBack n m status) ≡ []
still_turn n m status Miniport = refl
still_turn n m status (Filter f) = refl
still_turn n m status (Binding b) = refl

pub in_turned_back : {b : TrayView} {h : Hands} {m : ModuleId} {rows : List Row} {calls : List Call} {log : List (List (List ℕ))} {t : TrayView} {x : Beside} (n : ListNo) (status : ListStatus)
    → InCall b h m rows calls log t x → InCall b h m (rows ++ row.TurnBack n m status ∷ []) calls log (tray.written t (row.TurnBack n t.caller status)) x
in_turned_back {b} {h} {m} {rows} {calls} {log} {t} {x} n status i =
    let t' : TrayView = tray.written t (row.TurnBack n t.caller status) in
    subst (λ k. InCall b h m (rows ++ row.TurnBack n k status ∷ []) calls log t' x) i.caller
    (in_still (row.TurnBack n t.caller status) t' x i (wrote t (row.TurnBack n t.caller status) t.queue t.slack t.pool (omega arith) refl refl) tt refl (still_turn n t.caller status)
    (turned_back t.net n t.caller status (hands_in h m t x) i.agrees) (same_sized i.sized refl))

-- the tray that shows more frames by a row
framed_wrote : (t : TrayView) (r : Row) (frames : List (List ℕ)) → row_frames r ≡ length frames → shown_bytes r ≡ sum_by length frames → is_way r ≡ false → Wrote t r (tray.written (tray.framed t frames) r)
framed_wrote t r frames many long way = record {
  net = refl;
  rows = refl;
  head = refl;
  turns = refl;
  told_by = refl;
  caller = refl;
  size = refl;
  bytes = refl;
  used = used_row t (tray.written (tray.framed t frames) r) r (omega arith) (omega (arith, many)) (omega (arith, long)) (omega arith) (omega arith) (grown_by_frames t.payloads _ frames refl refl refl);
}

-- the miniport's log is the wire
pub in_wired : {b : TrayView} {h : Hands} {rows : List Row} {calls : List Call} {log : List (List (List ℕ))} {t : TrayView} {x : Beside} (l : ListView)
    → InCall b h Miniport rows calls log t x → InCall b h Miniport (rows ++ row.Wire l.label.number l.frames ∷ []) calls (log ++ l.frames ∷ []) (tray.wired t l) x
in_wired {b} {h} {rows} {calls} {log} {t} {x} l i =
    let r : Row = row.Wire l.label.number l.frames in
    subst (λ cs. InCall b h Miniport (rows ++ r ∷ []) cs (log ++ l.frames ∷ []) (tray.wired t l) x) (append-nil calls)
    (in_row r [] (l.frames ∷ []) (tray.wired t l) x i (framed_wrote t r l.frames refl refl refl) tt refl refl others
    (wired t.net l.label.number l.frames (hands_in h Miniport t x) i.agrees) (record { front = i.sized.front; queue = i.sized.queue; loose = i.sized.loose; kept = i.sized.kept }))
  where
    others : (k : ModuleId) → same_module k Miniport ≡ false → logged_at k (row.Wire l.label.number l.frames) ≡ []
    others Miniport other = cc
    others (Filter f) other = refl
    others (Binding b) other = refl

-- a binding's log has what was delivered to it
pub in_delivered : {b : TrayView} {h : Hands} {n : ℕ} {rows : List Row} {calls : List Call} {log : List (List (List ℕ))} {t : TrayView} {x : Beside} (l : ListView) (how : How)
    → InCall b h (Binding n) rows calls log t x → InCall b h (Binding n) (rows ++ row.Deliver l.label.number n how l.frames ∷ []) (calls ++ call (Binding n) (received_as how)) (log ++ l.frames ∷ []) (tray.delivered t l n how) x
in_delivered {b} {h} {n} {rows} {calls} {log} {t} {x} l how i =
    let r : Row = row.Deliver l.label.number n how l.frames in
    in_row r (call (Binding n) (received_as how)) (l.frames ∷ []) (tray.delivered t l n how) x i (framed_wrote t r l.frames refl refl refl) tt refl (cond-true (n == n) (l.frames ∷ []) [] (eq-eqb n n refl)) others
    (delivered t.net l.label.number n how l.frames (hands_in h (Binding n) t x) i.agrees) (record { front = i.sized.front; queue = i.sized.queue; loose = i.sized.loose; kept = i.sized.kept })
  where
    others : (k : ModuleId) → same_module k (Binding n) ≡ false → logged_at k (row.Deliver l.label.number n how l.frames) ≡ []
    others Miniport other = refl
    others (Filter f) other = refl
    others (Binding c) other = cond-false (n == c) (l.frames ∷ []) [] (eqb_sym_false c n other)

-- Rows by which a list goes on its way.

-- a row that passes this list
pub record IsPass (l : ListView) (r : Row) : Type 0 where
  pub way : PassWay
  pub to : Target
  pub is : r ≡ row.Pass l.label.number way to

onward_pass : (ms : Modules) (l : ListView) (d : Direction) (i : ℕ) → IsPass l (onward ms l.label.number d i)
onward_pass ms l direction.Down i = record { way = _; to = _; is = refl }
onward_pass ms l direction.Up i = record { way = _; to = _; is = refl }
onward_pass ms l direction.Lent i = record { way = _; to = _; is = refl }

homeward_pass : (ms : Modules) (l : ListView) (owner : ModuleId) (d : Direction) (i : ℕ) (status : ListStatus) → IsPass l (homeward_by ms l.label.number owner d i status)
homeward_pass ms l owner direction.Down i status = record { way = _; to = _; is = refl }
homeward_pass ms l owner direction.Up i status = record { way = _; to = _; is = refl }
homeward_pass ms l owner direction.Lent i status = record { way = _; to = _; is = refl }

pub onward_is : (t : TrayView) (l : ListView) → IsPass l (tray.onward_row t l)
onward_is t l = onward_pass t.net.modules l l.label.direction _

pub homeward_is : (t : TrayView) (l : ListView) (status : ListStatus) → IsPass l (tray.homeward_row t l status)
homeward_is t l status = homeward_pass t.net.modules l l.label.owner l.label.direction _ status

one_sized : (l : ListView) (way : PassWay) (to : Target) → IsSized l → All IsCarriedSized (a_list l way to ∷ [])
one_sized l way to s = All-cons IsCarriedSized (a_list l way to) [] s (All-nil IsCarriedSized)

still_pass : (n : ListNo) (way : PassWay) (to : Target) (k : ModuleId) → logged_at k (row.Pass n way to) ≡ []
still_pass n way to Miniport = refl
still_pass n way to (Filter f) = refl
still_pass n way to (Binding b) = refl

-- a Pass row is written, and the list goes behind what is on its way
in_pass : {b : TrayView} {h : Hands} {m : ModuleId} {rows : List Row} {calls : List Call} {log : List (List (List ℕ))} {t : TrayView} {x : Beside} (l : ListView) (way : PassWay) (to : Target) (x' : Beside)
    → InCall b h m rows calls log t x → Agrees (after t.net (row.Pass l.label.number way to)) (hands_in h m (tray.passed t l (row.Pass l.label.number way to)) x') → IsSized l
    → All IsCarriedSized x'.front → All IsSized x'.loose → All IsSized x'.kept
    → InCall b h m (rows ++ row.Pass l.label.number way to ∷ []) calls log (tray.passed t l (row.Pass l.label.number way to)) x'
in_pass {b} {h} {m} {rows} {calls} {log} {t} {x} l way to x' i agrees sized front loose kept =
    let r : Row = row.Pass l.label.number way to in
    in_still r (tray.passed t l r) x' i (wrote t r (t.queue ++ a_list l way to ∷ []) (t.slack - 1) t.pool (omega arith) refl refl) tt refl (still_pass l.label.number way to) agrees
    (record { front = front; queue = All-append IsCarriedSized t.queue (a_list l way to ∷ []) i.sized.queue (one_sized l way to sized); loose = loose; kept = kept })

-- the list that is worked
pub in_passed_front : {b : TrayView} {h : Hands} {m : ModuleId} {rows : List Row} {calls : List Call} {log : List (List (List ℕ))} {t : TrayView} {loose kept : List ListView} (l : ListView) (was : PassWay) (at : Target) (r : Row)
    → InCall b h m rows calls log t (record { front = a_list l was at ∷ []; loose = loose; kept = kept }) → IsPass l r
    → InCall b h m (rows ++ r ∷ []) calls log (tray.passed t l r) (record { front = []; loose = loose; kept = kept })
in_passed_front {b} {h} {m} {rows} {calls} {log} {t} {loose} {kept} l was at r i p =
    let x : Beside = record { front = a_list l was at ∷ []; loose = loose; kept = kept } in
    let x' : Beside = record { front = []; loose = loose; kept = kept } in
    subst (λ q. InCall b h m (rows ++ q ∷ []) calls log (tray.passed t l q) x') (sym p.is)
    (in_pass l p.way p.to x' i (passed_first t.net l was at p.way p.to (hands_in h m t x) t.queue i.agrees refl) (All-head IsCarriedSized (a_list l was at) [] i.sized.front)
    (All-nil IsCarriedSized) i.sized.loose i.sized.kept)

-- a list that was issued in this turn
pub in_passed_loose : {b : TrayView} {h : Hands} {m : ModuleId} {rows : List Row} {calls : List Call} {log : List (List (List ℕ))} {t : TrayView} {front : List Carried} {kept : List ListView} (before back : List ListView) (l : ListView) (r : Row)
    → InCall b h m rows calls log t (record { front = front; loose = before ++ l ∷ back; kept = kept }) → IsPass l r
    → InCall b h m (rows ++ r ∷ []) calls log (tray.passed t l r) (record { front = front; loose = before ++ back; kept = kept })
in_passed_loose {b} {h} {m} {rows} {calls} {log} {t} {front} {kept} before back l r i p =
    let x : Beside = record { front = front; loose = before ++ l ∷ back; kept = kept } in
    let x' : Beside = record { front = front; loose = before ++ back; kept = kept } in
    let now : Net = after t.net (row.Pass l.label.number p.way p.to) in
    let all : All IsSized (l ∷ back) = all_back before (l ∷ back) i.sized.loose in
    subst (λ q. InCall b h m (rows ++ q ∷ []) calls log (tray.passed t l q) x') (sym p.is)
    (in_pass l p.way p.to x' i
    (subst (λ q. Agrees now (record (hands_in h m t x') { queue = q })) (append_assoc front t.queue (a_list l p.way p.to ∷ []))
    (passed_loose t.net l p.way p.to (hands_in h m t x) before back i.agrees refl))
    (All-head IsSized l back all) i.sized.front (All-append IsSized before back (all_front before (l ∷ back) i.sized.loose) (All-tail IsSized l back all)) i.sized.kept)

-- a list that the module keeps
pub in_passed_kept : {b : TrayView} {h : Hands} {m : ModuleId} {rows : List Row} {calls : List Call} {log : List (List (List ℕ))} {t : TrayView} {front : List Carried} {loose : List ListView} (before back : List ListView) (l : ListView) (r : Row)
    → InCall b h m rows calls log t (record { front = front; loose = loose; kept = before ++ l ∷ back }) → IsPass l r
    → InCall b h m (rows ++ r ∷ []) calls log (tray.passed t l r) (record { front = front; loose = loose; kept = before ++ back })
in_passed_kept {b} {h} {m} {rows} {calls} {log} {t} {front} {loose} before back l r i p =
    let x : Beside = record { front = front; loose = loose; kept = before ++ l ∷ back } in
    let x' : Beside = record { front = front; loose = loose; kept = before ++ back } in
    let now : Net = after t.net (row.Pass l.label.number p.way p.to) in
    let all : All IsSized (l ∷ back) = all_back before (l ∷ back) i.sized.kept in
    let t' : TrayView = tray.passed t l (row.Pass l.label.number p.way p.to) in
    subst (λ q. InCall b h m (rows ++ q ∷ []) calls log (tray.passed t l q) x') (sym p.is)
    (in_pass l p.way p.to x' i
    (agrees_same now _ (hands_in h m t' x')
    (record { queue = append_assoc front t.queue (a_list l p.way p.to ∷ []); loose = refl; kept = put_twice m (before ++ back) (before ++ l ∷ back) h.kept; pools = λ k. refl })
    (passed_kept t.net m l p.way p.to (hands_in h m t x) before back i.agrees (put_here m (before ++ l ∷ back) h.kept)))
    (All-head IsSized l back all) i.sized.front i.sized.loose (All-append IsSized before back (all_front before (l ∷ back) i.sized.kept) (All-tail IsSized l back all)))

-- The module keeps the list that is worked.

still_keep : (n : ListNo) (m k : ModuleId) → logged_at k (row.Keep n m) ≡ []
still_keep n m Miniport = refl
still_keep n m (Filter f) = refl
still_keep n m (Binding b) = refl

pub in_kept : {b : TrayView} {h : Hands} {m : ModuleId} {rows : List Row} {calls : List Call} {log : List (List (List ℕ))} {t : TrayView} {loose kept : List ListView} (l : ListView) (was : PassWay) (at : Target)
    → InCall b h m rows calls log t (record { front = a_list l was at ∷ []; loose = loose; kept = kept })
    → InCall b h m (rows ++ row.Keep l.label.number m ∷ []) calls log (tray.noted t l.label.number) (record { front = []; loose = loose; kept = kept ++ l ∷ [] })
in_kept {b} {h} {m} {rows} {calls} {log} {t} {loose} {kept} l was at i =
    let x : Beside = record { front = a_list l was at ∷ []; loose = loose; kept = kept } in
    let x' : Beside = record { front = []; loose = loose; kept = kept ++ l ∷ [] } in
    let r : Row = row.Keep l.label.number m in
    let now : Net = after t.net r in
    let t' : TrayView = tray.written t r in
    subst (λ k. InCall b h m (rows ++ r ∷ []) calls log (tray.written t (row.Keep l.label.number k)) x') (sym i.caller)
    (in_still r t' x' i (wrote t r t.queue t.slack t.pool (omega arith) refl refl) tt refl (still_keep l.label.number m)
    (agrees_same now _ (hands_in h m t' x')
    (record {
      queue = refl;
      loose = refl;
      kept = λ k. put_twice m (put_at m kept h.kept m ++ l ∷ []) kept h.kept k ∙ ap (λ ls. put_at m (ls ++ l ∷ []) h.kept k) (put_here m kept h.kept);
      pools = λ k. refl;
    })
    (kept_first t.net l was at m (hands_in h m t x) t.queue i.agrees refl))
    (record { front = All-nil IsCarriedSized; queue = i.sized.queue; loose = i.sized.loose; kept = All-push IsSized kept l i.sized.kept (All-head IsCarriedSized (a_list l was at) [] i.sized.front) }))

-- A list of the module's own pool is home.

still_home : (n : ListNo) (owner : ModuleId) (status : ListStatus) (k : ModuleId) → logged_at k (row.Home n owner status) ≡ []
still_home n owner status Miniport = refl
still_home n owner status (Filter f) = refl
still_home n owner status (Binding b) = refl

pub in_spent : {b : TrayView} {h : Hands} {m : ModuleId} {rows : List Row} {calls : List Call} {log : List (List (List ℕ))} {t : TrayView} {loose kept : List ListView} (l : ListView) (was : PassWay) (at : Target) (status : ListStatus) (pool : PoolView)
    → InCall b h m rows calls log t (record { front = a_list l was at ∷ []; loose = loose; kept = kept }) → l.label.owner ≡ m → Frees t.pool l pool
    → InCall b h m (rows ++ row.Home l.label.number l.label.owner status ∷ []) (calls ++ home_call l.label.owner l.label.direction) log (tray.spent t l status pool) (record { front = []; loose = loose; kept = kept })
in_spent {b} {h} {m} {rows} {calls} {log} {t} {loose} {kept} l was at status pool i own frees =
    let x : Beside = record { front = a_list l was at ∷ []; loose = loose; kept = kept } in
    let x' : Beside = record { front = []; loose = loose; kept = kept } in
    let r : Row = row.Home l.label.number l.label.owner status in
    let now : Net = after t.net r in
    let t' : TrayView = tray.spent t l status pool in
    let mine = (next_list t.net (hands_in h m t x) l was at t.queue i.agrees refl).mine in
    let way : direction_of (list_of l.label.number.0 (lists t.net.things)) ≡ l.label.direction = ap direction_of mine.live ∙ ap (λ (c : Common). c.direction) mine.same in
    let pool_is : put_at m t.pool h.pools l.label.owner ≡ t.pool = ap (put_at m t.pool h.pools) own ∙ put_here m t.pool h.pools in
    subst (λ ls. InCall b h m (rows ++ r ∷ []) (calls ++ home_call l.label.owner l.label.direction) ls t' x') (append-nil log)
    (in_row r (home_call l.label.owner l.label.direction) [] t' x' i (wrote t r t.queue t.slack pool (omega arith) frees.size frees.bytes) tt (ap (home_call l.label.owner) way)
    (still_home l.label.number l.label.owner status m) (λ k other. still_home l.label.number l.label.owner status k)
    (agrees_same now _ (hands_in h m t' x')
    (record { queue = refl; loose = refl; kept = λ k. refl; pools = λ k. ap (λ o. put_at o pool (put_at m t.pool h.pools) k) own ∙ put_twice m pool t.pool h.pools k })
    (homed_first t.net l was at l.label.owner status pool (hands_in h m t x) t.queue i.agrees refl (subst (λ p. Frees p l pool) (sym pool_is) frees)))
    (record { front = All-nil IsCarriedSized; queue = i.sized.queue; loose = i.sized.loose; kept = i.sized.kept }))

-- A list is issued from the module's own pool.

abbrev issue_of : ListView → Row
issue_of l = row.Issue l.label.number l.label.owner l.label.config l.label.direction l.label.cancel l.label.origin l.frames

still_issue : (l : ListView) (k : ModuleId) → logged_at k (issue_of l) ≡ []
still_issue l Miniport = refl
still_issue l (Filter f) = refl
still_issue l (Binding b) = refl

-- in a tray that has the pool with the list, with or without more frames
pub in_issued : {b : TrayView} {h : Hands} {m : ModuleId} {rows : List Row} {calls : List Call} {log : List (List (List ℕ))} {t : TrayView} {front : List Carried} {loose kept : List ListView} (l : ListView) (pool : PoolView) (t' : TrayView)
    → InCall b h m rows calls log t (record { front = front; loose = loose; kept = kept }) → l.label.owner ≡ m → l.label.number.0 ≡ t.net.next.list → Issues t.pool l pool → IsSized l
    → Wrote t (issue_of l) t' → t'.queue ≡ t.queue → t'.pool ≡ pool
    → InCall b h m (rows ++ issue_of l ∷ []) calls log t' (record { front = front; loose = loose ++ l ∷ []; kept = kept })
in_issued {b} {h} {m} {rows} {calls} {log} {t} {front} {loose} {kept} l pool t' i own number issues sized w queue is =
    let x : Beside = record { front = front; loose = loose; kept = kept } in
    let x' : Beside = record { front = front; loose = loose ++ l ∷ []; kept = kept } in
    let now : Net = after t.net (issue_of l) in
    let pool_is : put_at m t.pool h.pools l.label.owner ≡ t.pool = ap (put_at m t.pool h.pools) own ∙ put_here m t.pool h.pools in
    in_still (issue_of l) t' x' i w tt refl (still_issue l)
    (subst (λ n. Agrees n (hands_in h m t' x')) (sym w.net)
    (agrees_same now _ (hands_in h m t' x')
    (record {
      queue = ap (λ q. front ++ q) (sym queue);
      loose = refl;
      kept = λ k. refl;
      pools = λ k. ap (λ o. put_at o pool (put_at m t.pool h.pools) k) own ∙ put_twice m pool t.pool h.pools k ∙ ap (λ p. put_at m p h.pools k) (sym is);
    })
    (issued t.net l l.label.config pool (hands_in h m t x) i.agrees number (subst (λ p. Issues p l pool) (sym pool_is) issues))))
    (record { front = i.sized.front; queue = subst (All IsCarriedSized) (sym queue) i.sized.queue; loose = All-push IsSized loose l i.sized.loose sized; kept = i.sized.kept })
