-- A module was called, and its driver counted the calls: the drivers did what the rows of the call say.
use Rattle.std.proofs.Common.{◌≡◌, ℕ, ◌+◌, ◌<◌, ◌==◌, ◌&&◌, Bool, true, false, cond, List, [], ◌∷◌, ◌++◌, Some, ◌≤◌, length, slice_index_or, slice_set, count_by, refl, sym, ap, ◌∙◌, subst, arith, append_assoc, append-nil, get_or-set_same, get_or-set_other, eq-eqb, ne_eqb, ◌⊎◌, inl, inr}
use Rattle.std.proofs.lemmas.Bool.{cases_eq}
use Rattle.ndis_base.specs.declared.ModuleId.{ModuleId}
use Rattle.ndis_base.specs.declared.ModuleId.TheVariants.{Miniport, Filter, Binding}
use Rattle.journal_types.specs.declared.Row.{Row}
use Rattle.buffer_pools.specs.Views.{ListView, PoolView}
use Rattle.stack_rules.specs.Net.{Net}
use Rattle.stack_rules.specs.Tests.{same_module}
use Rattle.rule_basics.proofs.Counts.{count_by-cons, count_by-append, one_if}
use Rattle.promise_rules.specs.declared.Call.{Call}
use Rattle.promise_rules.specs.declared.Called.{Called}
use Rattle.promise_rules.specs.declared.Called.TheVariants as called
use Rattle.promise_rules.specs.Calls.{call, is_call_of, same_called}
use Rattle.driver_views.specs.declared.Served.{Served}
use Rattle.driver_views.specs.States.{Record, FilterState, MiniportState, ProtocolState, times, one_more, called_for, logs}
use Rattle.hand_lemmas.specs.Hands.{Hands}
use Rattle.hand_lemmas.proofs.Modules.{same_self}
use Rattle.book_lemmas.proofs.Keeps.{keeps_same, keeps_set}
use Rattle.book_lemmas.specs.Views.{HeldView, no_filter, no_protocol, filter_at, seat_of}
use Rattle.book_lemmas.specs.Called.{SitsAt, filter_called, miniport_called, protocol_called}
use Rattle.book_lemmas.specs.Did.{logs_in, IsServed, IsIdle, Did}
use Rattle.driver_tray.specs.Tray.{TrayView}
use Rattle.call_lemmas.specs.InCall.{Beside, InCall}
use Rattle.call_lemmas.specs.Served.{AreCallsOf, Counts}

-- How a driver's counts and log go on.

times_more : (what w : Called) (s : Served) → times (one_more what s) w ≡ times s w + one_if (same_called what w)
times_more called.Send called.Send s = refl
times_more called.SendComplete called.SendComplete s = refl
times_more called.Receive called.Receive s = refl
times_more called.ReceiveLent called.ReceiveLent s = refl
times_more called.Returned called.Returned s = refl
times_more called.Oid called.Oid s = refl
times_more called.OidComplete called.OidComplete s = refl
times_more called.Status called.Status s = refl
times_more _ _ s = omega arith

pub counts_none : (m : ModuleId) (r : Record) → Counts m [] [] r r
counts_none m r = record { counted = λ what. omega arith; logged = sym (append-nil r.log) }

-- it was called once
pub counts_call : (m : ModuleId) (what : Called) (r : Record) → Counts m (call m what) [] r (called_for what r)
counts_call m what r = record {
  counted = λ w.
      let one = count_by-cons (is_call_of m w) (record { module_id = m; what = what }) [] in
      let here : one_if (same_module m m && same_called what w) ≡ one_if (same_called what w) = ap (λ b. one_if (b && same_called what w)) (same_self m) in
      omega (arith, times_more what w r.served, one, here);
  logged = sym (append-nil r.log);
}

-- it logged frames
pub counts_log : (m : ModuleId) (frames : List (List ℕ)) (r : Record) → Counts m [] (frames ∷ []) r (logs frames r)
counts_log m frames r = record { counted = λ w. omega arith; logged = refl }

pub counts_then : (m : ModuleId) (calls more : List Call) (log also : List (List (List ℕ))) (a b c : Record) → Counts m calls log a b → Counts m more also b c → Counts m (calls ++ more) (log ++ also) a c
counts_then m calls more log also a b c first then = record {
  counted = λ w. omega (arith, first.counted w, then.counted w, count_by-append (is_call_of m w) calls more);
  logged = then.logged ∙ ap (λ ls. ls ++ also) first.logged ∙ append_assoc a.log log also;
}

-- Other modules were not called.

turned : (m k : ModuleId) → same_module k m ≡ false → same_module m k ≡ false
turned Miniport Miniport e = e
turned (Filter f) (Filter g) e = ne_eqb f g (λ same. cc (eq-eqb g f (sym same), e))
turned (Binding f) (Binding g) e = ne_eqb f g (λ same. cc (eq-eqb g f (sym same), e))
turned _ _ e = refl

no_calls : (m k : ModuleId) (what : Called) (calls : List Call) → same_module k m ≡ false → AreCallsOf m calls → count_by (is_call_of k what) calls ≡ 0
no_calls m k what [] other are = refl
no_calls m k what (c ∷ calls) other are =
    let none : one_if (is_call_of k what c) ≡ 0 = ap (λ j. one_if (same_module j k && same_called c.what what)) are.0 ∙ ap (λ b. one_if (b && same_called c.what what)) (turned m k other) in
    omega (arith, count_by-cons (is_call_of k what) c calls, none, no_calls m k what calls other are.1)

-- the module that was called
served_here : {b : TrayView} {h : Hands} {m : ModuleId} {rows : List Row} {calls : List Call} {log : List (List (List ℕ))} {t : TrayView} {x : Beside} {old new : Record} → InCall b h m rows calls log t x → Counts m calls log old new
    → IsServed m b.net rows old new
served_here {m = m} {old = old} i c = record { calls = λ what. c.counted what ∙ ap (λ cs. times old.served what + count_by (is_call_of m what) cs) (sym i.calls_are); log = c.logged ∙ ap (λ ls. old.log ++ ls) (sym i.log_is) }

-- another one
served_there : {b : TrayView} {h : Hands} {m : ModuleId} {rows : List Row} {calls : List Call} {log : List (List (List ℕ))} {t : TrayView} {x : Beside} (k : ModuleId) (r : Record) → InCall b h m rows calls log t x → AreCallsOf m calls
    → same_module k m ≡ false → IsServed k b.net rows r r
served_there {m = m} {calls = calls} k r i are other = record {
  calls = λ what.
      let none = ap (count_by (is_call_of k what)) i.calls_are ∙ no_calls m k what calls other are in
      omega (arith, none);
  log = sym (ap (λ ls. r.log ++ ls) (i.quiet k other) ∙ append-nil r.log);
}

some_is : (x y : ℕ) → Some x ≡ Some y → x ≡ y
some_is x y e = cc

pub did_filter : {b : TrayView} {h : Hands} {f : ℕ} {rows : List Row} {calls : List Call} {log : List (List (List ℕ))} {t : TrayView} {x : Beside} (held : HeldView) (place : ℕ) (s : FilterState) (pool : PoolView)
    → InCall b h (Filter f) rows calls log t x → SitsAt held f place → AreCallsOf (Filter f) calls → Counts (Filter f) calls log (filter_at held.filters (Some place)).did s.did
    → s.kind ≡ (filter_at held.filters (Some place)).kind → (filter_at held.filters (Some place)).refusals ≤ s.refusals → Did held.seats held (filter_called held place s pool) b.net rows
did_filter {b} {f = f} {rows = rows} held place s pool i sits are c kind rose = record {
  miniport = served_there Miniport held.miniport.did i are refl;
  protocols = λ n. served_there (Binding n) _ i are refl;
  filters = λ g q seat. by_place g q seat (cases_eq q place);
  shelved = λ q vacant. subst (λ (y : FilterState). IsIdle (filter_at held.filters (Some q)).did y.did) (sym (get_or-set_other held.filters place q s no_filter (λ e. vacant f (sits.seat ∙ ap Some (sym e))))) (record { calls = λ what. refl; log = refl });
  keeps = keeps_set held (filter_called held place s pool) place s (omega arith) refl sits.is.driver kind rose;
}
  where
    by_place : (g q : ℕ) → seat_of held.seats g ≡ Some q → (q ≡ place) ⊎ (q ≡ place → ⊥) → IsServed (Filter g) b.net rows (filter_at held.filters (Some q)).did (filter_at (slice_set held.filters place s) (Some q)).did
    by_place g q seat (inl e) =
        let same : f ≡ g = sits.apart f g place sits.seat (seat ∙ ap Some e) in
        subst (λ k. IsServed (Filter k) b.net rows (filter_at held.filters (Some q)).did (filter_at (slice_set held.filters place s) (Some q)).did) same
        (subst (λ p. IsServed (Filter f) b.net rows (filter_at held.filters (Some p)).did (filter_at (slice_set held.filters place s) (Some p)).did) (sym e)
        (subst (λ (y : FilterState). IsServed (Filter f) b.net rows (filter_at held.filters (Some place)).did y.did) (sym (get_or-set_same held.filters place s no_filter sits.is.driver)) (served_here i c)))
    by_place g q seat (inr ne) =
        subst (λ (y : FilterState). IsServed (Filter g) b.net rows (filter_at held.filters (Some q)).did y.did) (sym (get_or-set_other held.filters place q s no_filter ne))
        (served_there (Filter g) (filter_at held.filters (Some q)).did i are (ne_eqb g f (λ e. ne (some_is q place (sym seat ∙ ap (seat_of held.seats) e ∙ sits.seat)))))

pub did_miniport : {b : TrayView} {h : Hands} {rows : List Row} {calls : List Call} {log : List (List (List ℕ))} {t : TrayView} {x : Beside} (held : HeldView) (s : MiniportState) (pool : PoolView)
    → InCall b h Miniport rows calls log t x → AreCallsOf Miniport calls → Counts Miniport calls log held.miniport.did s.did
    → held.miniport.refusals ≤ s.refusals → Did held.seats held (miniport_called held s pool) b.net rows
did_miniport held s pool i are c rose = record {
  miniport = served_here i c;
  protocols = λ n. served_there (Binding n) _ i are refl;
  filters = λ g q seat. served_there (Filter g) _ i are refl;
  shelved = λ q vacant. record { calls = λ what. refl; log = refl };
  keeps = keeps_same held (miniport_called held s pool) rose refl;
}

pub did_protocol : {b : TrayView} {h : Hands} {n : ℕ} {rows : List Row} {calls : List Call} {log : List (List (List ℕ))} {t : TrayView} {x : Beside} (held : HeldView) (s : ProtocolState) (pool : PoolView)
    → InCall b h (Binding n) rows calls log t x → n < length held.protocols → AreCallsOf (Binding n) calls → Counts (Binding n) calls log (slice_index_or held.protocols n no_protocol).did s.did
    → Did held.seats held (protocol_called held n s pool) b.net rows
did_protocol {b} {n = n} {rows = rows} held s pool i within are c = record {
  miniport = served_there Miniport held.miniport.did i are refl;
  protocols = λ j. by_number j (cases_eq j n);
  filters = λ g q seat. served_there (Filter g) _ i are refl;
  shelved = λ q vacant. record { calls = λ what. refl; log = refl };
  keeps = keeps_same held (protocol_called held n s pool) (omega arith) refl;
}
  where
    by_number : (j : ℕ) → (j ≡ n) ⊎ (j ≡ n → ⊥) → IsServed (Binding j) b.net rows (slice_index_or held.protocols j no_protocol).did (slice_index_or (slice_set held.protocols n s) j no_protocol).did
    by_number j (inl e) =
        subst (λ k. IsServed (Binding k) b.net rows (slice_index_or held.protocols k no_protocol).did (slice_index_or (slice_set held.protocols n s) k no_protocol).did) (sym e)
        (subst (λ (y : ProtocolState). IsServed (Binding n) b.net rows (slice_index_or held.protocols n no_protocol).did y.did) (sym (get_or-set_same held.protocols n s no_protocol within)) (served_here i c))
    by_number j (inr ne) =
        subst (λ (y : ProtocolState). IsServed (Binding j) b.net rows (slice_index_or held.protocols j no_protocol).did y.did) (sym (get_or-set_other held.protocols n j s no_protocol ne))
        (served_there (Binding j) (slice_index_or held.protocols j no_protocol).did i are (ne_eqb j n ne))
