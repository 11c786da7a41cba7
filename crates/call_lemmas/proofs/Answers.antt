-- A request is done: the filter that it was given to completes it, and its binding hears of it where it is no clone. The
-- two are called for one row.
use Rattle.std.proofs.Common.{◌≡◌, ℕ, ◌+◌, ◌≤◌, ◌<◌, ◌&&◌, not, Bool, true, false, filter, List, [], ◌∷◌, ◌++◌, Option, Some, None, All, length, slice_index_or, slice_set, sum_by, count_by, refl, sym, ap, ◌∙◌, subst, arith, append-nil, get_or-set_same, get_or-set_other, eq-eqb, ne_eqb, ◌⊎◌, inl, inr}
use Rattle.std.proofs.lemmas.Bool.{cases_eq}
use Rattle.std.proofs.lemmas.List.Sums.{sum_by-cons}
use Rattle.std.proofs.lemmas.List.Elements.{All-nil, All-cons, All-append, All-filter}
use Rattle.ndis_base.specs.declared.ModuleId.{ModuleId}
use Rattle.ndis_base.specs.declared.ModuleId.TheVariants.{Miniport, Filter, Binding}
use Rattle.ndis_base.specs.declared.OidNo.{OidNo}
use Rattle.ndis_base.specs.declared.OidStatus.{OidStatus}
use Rattle.flat_journal.proofs.Grown.{grown_by_frames}
use Rattle.journal_types.specs.declared.Row.{Row}
use Rattle.journal_types.specs.declared.Row.TheVariants as row
use Rattle.buffer_pools.specs.Views.{ListView}
use Rattle.stack_rules.specs.declared.Request.{Request}
use Rattle.stack_rules.specs.Net.{after, request_of}
use Rattle.stack_rules.specs.Tests.{same_module}
use Rattle.rule_basics.proofs.Counts.{count_by-cons, one_if}
use Rattle.promise_rules.specs.declared.Call.{Call}
use Rattle.promise_rules.specs.declared.Called.{Called}
use Rattle.promise_rules.specs.Calls.{is_call_of, same_called, logged_at}
use Rattle.agenda_items.specs.declared.Carried.{Carried}
use Rattle.agenda_items.specs.declared.Carried.TheVariants.{Answer as an_answer}
use Rattle.agenda_items.specs.Views.{carries_answer}
use Rattle.driver_views.specs.States.{Record, FilterState, MiniportState, ProtocolState, times}
use Rattle.hand_lemmas.specs.Hands.{Hands, Agrees, request_done}
use Rattle.hand_lemmas.proofs.Modules.{same_is}
use Rattle.hand_lemmas.proofs.Rows.{oid_done}
use Rattle.book_lemmas.specs.Called.{SitsAt}
use Rattle.book_lemmas.specs.Did.{Did, IsServed, IsIdle, KeepsCounts, completes, logs_in}
use Rattle.book_lemmas.specs.Stands.{IsCarriedSized}
use Rattle.book_lemmas.specs.Views.{HeldView, no_filter, no_protocol, filter_at, seat_of, IsVacant}
use Rattle.book_lemmas.proofs.Keeps.{keeps_same, keeps_set, keeps_then}
use Rattle.driver_tray.specs.Tray as tray
use Rattle.driver_tray.specs.Tray.{TrayView, queue_after_answer, queue_after_done, slack_after_answer, slack_after_done}
use Rattle.call_lemmas.specs.InCall.{Beside, hands_in, InCall}
use Rattle.call_lemmas.specs.Served.{AreCallsOf, Counts}
use Rattle.call_lemmas.proofs.Served.{counts_then}
use Rattle.call_lemmas.proofs.Steps.{in_row, used_row, Wrote}

-- What is in hand once a request is done.

-- the hands that have this queue
abbrev with_queue : Hands → List Carried → Hands
with_queue h queue = record h { queue = queue }

answered_hands : (parent : Option OidNo) (request : OidNo) (status : OidStatus) (value : List ℕ) (h : Hands) (r : Request) → r.parent ≡ parent
    → request_done (Some r) request status value h ≡ with_queue h (queue_after_done (Some r) request status value h.queue)
answered_hands None request status value h r e = rw e refl
answered_hands (Some parent) request status value h r e = rw e refl

done_hands : (o : Option Request) (request : OidNo) (status : OidStatus) (value : List ℕ) (h : Hands) → request_done o request status value h ≡ with_queue h (queue_after_done o request status value h.queue)
done_hands None request status value h = refl
done_hands (Some r) request status value h = answered_hands r.parent request status value h r refl

answered_sized : (parent : Option OidNo) (request : OidNo) (status : OidStatus) (value : List ℕ) (queue : List Carried) → All IsCarriedSized queue → All IsCarriedSized (queue_after_answer parent request status value queue)
answered_sized None request status value queue all = all
answered_sized (Some parent) request status value queue all =
    let a : Carried = an_answer (record { request = request; parent = parent; status = status; value = value }) in
    All-append IsCarriedSized queue (a ∷ []) all (All-cons IsCarriedSized a [] tt (All-nil IsCarriedSized))

done_sized : (o : Option Request) (request : OidNo) (status : OidStatus) (value : List ℕ) (queue : List Carried) → All IsCarriedSized queue → All IsCarriedSized (queue_after_done o request status value queue)
done_sized None request status value queue all = all
done_sized (Some r) request status value queue all =
    answered_sized r.parent request status value (filter (λ c. not (carries_answer request.0 c)) queue) (All-filter (λ c. not (carries_answer request.0 c)) IsCarriedSized queue all)

answered_slack : (parent : Option OidNo) (slack : ℕ) → slack ≤ slack_after_answer parent slack + 1
answered_slack None slack = omega arith
answered_slack (Some parent) slack = omega arith

done_slack : (o : Option Request) (slack : ℕ) → slack ≤ slack_after_done o slack + 1
done_slack None slack = omega arith
done_slack (Some r) slack = answered_slack r.parent slack

-- the tray that shows the value
completed_wrote : (t : TrayView) (request : OidNo) (status : OidStatus) (value : List ℕ) → Wrote t (row.OidDone request status value) (tray.completed t request status value)
completed_wrote t request status value =
    let r : Row = row.OidDone request status value in
    let long : sum_by length (value ∷ []) ≡ length value + 0 = sum_by-cons length value [] in
    let slack = done_slack (request_of request.0 t.net.requests) t.slack in
    record {
      net = refl;
      rows = refl;
      head = refl;
      turns = refl;
      told_by = refl;
      caller = refl;
      size = refl;
      bytes = refl;
      used = used_row t (tray.completed t request status value) r (omega arith) (omega arith) (omega (arith, long)) (omega (arith, slack)) (omega arith) (grown_by_frames t.payloads _ (value ∷ []) refl refl refl);
    }

still_done : (request : OidNo) (status : OidStatus) (value : List ℕ) (k : ModuleId) → logged_at k (row.OidDone request status value) ≡ []
still_done request status value Miniport = refl
still_done request status value (Filter f) = refl
still_done request status value (Binding b) = refl

-- a request is done, for which these drivers are called
pub in_completed : {b : TrayView} {h : Hands} {m : ModuleId} {rows : List Row} {calls : List Call} {log : List (List (List ℕ))} {t : TrayView} {loose kept : List ListView} (request : OidNo) (status : OidStatus) (value : List ℕ) (o : Option Request)
    → request_of request.0 t.net.requests ≡ o → InCall b h m rows calls log t (record { front = []; loose = loose; kept = kept })
    → InCall b h m (rows ++ row.OidDone request status value ∷ []) (calls ++ completes o) log (tray.completed t request status value) (record { front = []; loose = loose; kept = kept })
in_completed {b} {h} {m} {rows} {calls} {log} {t} {loose} {kept} request status value o found i =
    let r : Row = row.OidDone request status value in
    let x : Beside = record { front = []; loose = loose; kept = kept } in
    let t' : TrayView = tray.completed t request status value in
    let asked : Option Request = request_of request.0 t.net.requests in
    subst (λ ls. InCall b h m (rows ++ r ∷ []) (calls ++ completes o) ls t' x) (append-nil log)
    (in_row r (completes o) [] t' x i (completed_wrote t request status value) tt (ap completes found)
    (still_done request status value m) (λ k other. still_done request status value k)
    (subst (Agrees (after t.net r)) (done_hands asked request status value (hands_in h m t x)) (oid_done t.net request status value (hands_in h m t x) i.agrees))
    (record { front = All-nil IsCarriedSized; queue = done_sized asked request status value t.queue i.sized.queue; loose = i.sized.loose; kept = i.sized.kept }))

-- Which drivers counted what, driver by driver.

-- the drivers counted these calls, each those of its module, and logged nothing
pub record Tally (seats : List (ℕ × ℕ)) (calls : List Call) (old new : HeldView) : Type 0 where
  pub miniport : Counts Miniport calls [] old.miniport.did new.miniport.did
  pub protocols : (i : ℕ) → Counts (Binding i) calls [] (slice_index_or old.protocols i no_protocol).did (slice_index_or new.protocols i no_protocol).did
  pub filters : (f place : ℕ) → seat_of seats f ≡ Some place → Counts (Filter f) calls [] (filter_at old.filters (Some place)).did (filter_at new.filters (Some place)).did
  pub shelved : (place : ℕ) → IsVacant seats place → IsIdle (filter_at old.filters (Some place)).did (filter_at new.filters (Some place)).did
  pub keeps : KeepsCounts old new

-- one after the other
pub tally_then : {seats : List (ℕ × ℕ)} {calls more : List Call} {a b c : HeldView} → Tally seats calls a b → Tally seats more b c → Tally seats (calls ++ more) a c
tally_then {seats} {calls} {more} {a} {b} {c} s t = record {
  miniport = counts_then Miniport calls more [] [] _ _ _ s.miniport t.miniport;
  protocols = λ i. counts_then (Binding i) calls more [] [] _ _ _ (s.protocols i) (t.protocols i);
  filters = λ f place seat. counts_then (Filter f) calls more [] [] _ _ _ (s.filters f place seat) (t.filters f place seat);
  shelved = λ place none. record { calls = λ what. (t.shelved place none).calls what ∙ (s.shelved place none).calls what; log = (t.shelved place none).log ∙ (s.shelved place none).log };
  keeps = keeps_then a b c s.keeps t.keeps;
}

turned : (m k : ModuleId) → same_module k m ≡ false → same_module m k ≡ false
turned Miniport Miniport e = e
turned (Filter f) (Filter g) e = ne_eqb f g (λ same. cc (eq-eqb g f (sym same), e))
turned (Binding f) (Binding g) e = ne_eqb f g (λ same. cc (eq-eqb g f (sym same), e))
turned _ _ e = refl

none_of : (m k : ModuleId) (what : Called) (calls : List Call) → same_module k m ≡ false → AreCallsOf m calls → count_by (is_call_of k what) calls ≡ 0
none_of m k what [] other are = refl
none_of m k what (c ∷ calls) other are =
    let none : one_if (is_call_of k what c) ≡ 0 = ap (λ j. one_if (same_module j k && same_called c.what what)) are.0 ∙ ap (λ b. one_if (b && same_called c.what what)) (turned m k other) in
    omega (arith, count_by-cons (is_call_of k what) c calls, none, none_of m k what calls other are.1)

-- another module's driver counts nothing
counts_there : (m k : ModuleId) (calls : List Call) (r : Record) → same_module k m ≡ false → AreCallsOf m calls → Counts k calls [] r r
counts_there m k calls r other are = record { counted = λ what. let none = none_of m k what calls other are in omega (arith, none); logged = sym (append-nil r.log) }

-- the miniport was called
pub tally_miniport : (held : HeldView) (s : MiniportState) (calls : List Call) → AreCallsOf Miniport calls → Counts Miniport calls [] held.miniport.did s.did → held.miniport.refusals ≤ s.refusals
    → Tally held.seats calls held (record held { miniport = s })
tally_miniport held s calls are c rose = record {
  miniport = c;
  protocols = λ i. counts_there Miniport (Binding i) calls _ refl are;
  filters = λ f place seat. counts_there Miniport (Filter f) calls _ refl are;
  shelved = λ place none. record { calls = λ what. refl; log = refl };
  keeps = keeps_same held (record held { miniport = s }) rose refl;
}

-- nobody was
pub tally_none : (held : HeldView) → Tally held.seats [] held held
tally_none held = tally_miniport held held.miniport [] tt (record { counted = λ what. omega arith; logged = sym (append-nil held.miniport.did.log) }) (omega arith)

-- the protocol of a binding was
pub tally_protocol : (held : HeldView) (n : ℕ) (s : ProtocolState) (calls : List Call) → n < length held.protocols → AreCallsOf (Binding n) calls → Counts (Binding n) calls [] (slice_index_or held.protocols n no_protocol).did s.did
    → Tally held.seats calls held (record held { protocols = slice_set held.protocols n s })
tally_protocol held n s calls within are c = record {
  miniport = counts_there (Binding n) Miniport calls _ refl are;
  protocols = λ j. by_number j (cases_eq j n);
  filters = λ f place seat. counts_there (Binding n) (Filter f) calls _ refl are;
  shelved = λ place none. record { calls = λ what. refl; log = refl };
  keeps = keeps_same held (record held { protocols = slice_set held.protocols n s }) (omega arith) refl;
}
  where
    by_number : (j : ℕ) → (j ≡ n) ⊎ (j ≡ n → ⊥) → Counts (Binding j) calls [] (slice_index_or held.protocols j no_protocol).did (slice_index_or (slice_set held.protocols n s) j no_protocol).did
    by_number j (inl e) =
        subst (λ k. Counts (Binding k) calls [] (slice_index_or held.protocols k no_protocol).did (slice_index_or (slice_set held.protocols n s) k no_protocol).did) (sym e)
        (subst (λ (y : ProtocolState). Counts (Binding n) calls [] (slice_index_or held.protocols n no_protocol).did y.did) (sym (get_or-set_same held.protocols n s no_protocol within)) c)
    by_number j (inr ne) =
        subst (λ (y : ProtocolState). Counts (Binding j) calls [] (slice_index_or held.protocols j no_protocol).did y.did) (sym (get_or-set_other held.protocols n j s no_protocol ne))
        (counts_there (Binding n) (Binding j) calls (slice_index_or held.protocols j no_protocol).did (ne_eqb j n ne) are)

some_is : (x y : ℕ) → Some x ≡ Some y → x ≡ y
some_is x y e = cc

-- the filter at a place was
pub tally_filter : (held : HeldView) (f place : ℕ) (s : FilterState) (calls : List Call) → SitsAt held f place → AreCallsOf (Filter f) calls → Counts (Filter f) calls [] (filter_at held.filters (Some place)).did s.did
    → s.kind ≡ (filter_at held.filters (Some place)).kind → (filter_at held.filters (Some place)).refusals ≤ s.refusals → Tally held.seats calls held (record held { filters = slice_set held.filters place s })
tally_filter held f place s calls sits are c kind rose = record {
  miniport = counts_there (Filter f) Miniport calls _ refl are;
  protocols = λ i. counts_there (Filter f) (Binding i) calls _ refl are;
  filters = λ g q seat. by_place g q seat (cases_eq q place);
  shelved = λ q vacant. subst (λ (y : FilterState). IsIdle (filter_at held.filters (Some q)).did y.did) (sym (get_or-set_other held.filters place q s no_filter (λ e. vacant f (sits.seat ∙ ap Some (sym e))))) (record { calls = λ what. refl; log = refl });
  keeps = keeps_set held (record held { filters = slice_set held.filters place s }) place s (omega arith) refl sits.is.driver kind rose;
}
  where
    by_place : (g q : ℕ) → seat_of held.seats g ≡ Some q → (q ≡ place) ⊎ (q ≡ place → ⊥) → Counts (Filter g) calls [] (filter_at held.filters (Some q)).did (filter_at (slice_set held.filters place s) (Some q)).did
    by_place g q seat (inl e) =
        let same : f ≡ g = sits.apart f g place sits.seat (seat ∙ ap Some e) in
        subst (λ k. Counts (Filter k) calls [] (filter_at held.filters (Some q)).did (filter_at (slice_set held.filters place s) (Some q)).did) same
        (subst (λ p. Counts (Filter f) calls [] (filter_at held.filters (Some p)).did (filter_at (slice_set held.filters place s) (Some p)).did) (sym e)
        (subst (λ (y : FilterState). Counts (Filter f) calls [] (filter_at held.filters (Some place)).did y.did) (sym (get_or-set_same held.filters place s no_filter sits.is.driver)) c))
    by_place g q seat (inr ne) =
        subst (λ (y : FilterState). Counts (Filter g) calls [] (filter_at held.filters (Some q)).did y.did) (sym (get_or-set_other held.filters place q s no_filter ne))
        (counts_there (Filter f) (Filter g) calls (filter_at held.filters (Some q)).did (ne_eqb g f (λ e. ne (some_is q place (sym seat ∙ ap (seat_of held.seats) e ∙ sits.seat)))) are)

-- So the drivers did what the rows of a call say that log nothing.

quiet_by : (m k : ModuleId) (rows : List Row) (same : Bool) → same_module k m ≡ same → logs_in m rows ≡ [] → (same_module k m ≡ false → logs_in k rows ≡ []) → logs_in k rows ≡ []
quiet_by m k rows true e own others = ap (λ j. logs_in j rows) (same_is k m e) ∙ own
quiet_by m k rows false e own others = others e

served_by : {b : TrayView} {h : Hands} {m : ModuleId} {rows : List Row} {calls : List Call} {t : TrayView} {x : Beside} {old new : Record} (k : ModuleId) → InCall b h m rows calls [] t x → Counts k calls [] old new → IsServed k b.net rows old new
served_by {m = m} {rows = rows} {old = old} k i c = record {
  calls = λ what. c.counted what ∙ ap (λ cs. times old.served what + count_by (is_call_of k what) cs) (sym i.calls_are);
  log = c.logged ∙ ap (λ ls. old.log ++ ls) (sym (quiet_by m k rows (same_module k m) refl i.log_is (λ other. i.quiet k other)));
}

pub did_tally : {seats : List (ℕ × ℕ)} {b : TrayView} {h : Hands} {m : ModuleId} {rows : List Row} {calls : List Call} {t : TrayView} {x : Beside} {old new : HeldView} → InCall b h m rows calls [] t x → Tally seats calls old new → Did seats old new b.net rows
did_tally i t = record {
  miniport = served_by Miniport i t.miniport;
  protocols = λ j. served_by (Binding j) i (t.protocols j);
  filters = λ f place seat. served_by (Filter f) i (t.filters f place seat);
  shelved = t.shelved;
  keeps = t.keeps;
}
