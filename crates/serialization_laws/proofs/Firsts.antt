-- A request is given to a module that has none, and before those with greater numbers that wait at the same place.
use Rattle.std.proofs.Common.{◌≡◌, ℕ, ◌+◌, ◌≤◌, ◌<◌, ◌==◌, ◌&&◌, ◌||◌, not, Bool, true, false, cond, List, [], ◌∷◌, ◌++◌, Option, Some, None, ◌⊎◌, inl, inr, find, map, filter, refl, arith, ap, sym, subst, ◌∙◌}
use Rattle.std.proofs.lemmas.Bool.Decides.{nat_tests}
use Rattle.ndis_base.specs.declared.ModuleId.{ModuleId}
use Rattle.ndis_base.specs.declared.ModuleId.TheVariants.{Miniport, Filter, Binding}
use Rattle.journal_types.specs.declared.Event.{Event}
use Rattle.journal_types.specs.declared.Event.TheVariants as event
use Rattle.journal_types.specs.declared.Row.{Row}
use Rattle.journal_types.specs.declared.Row.TheVariants as row
use Rattle.journal_types.specs.declared.Turn.{Turn}
use Rattle.stack_rules.specs.declared.Choice.{Choice}
use Rattle.stack_rules.specs.declared.Request.{Request}
use Rattle.stack_rules.specs.declared.RequestAt.{RequestAt}
use Rattle.stack_rules.specs.declared.RequestAt.TheVariants as at
use Rattle.stack_rules.specs.declared.Thing.{Thing}
use Rattle.stack_rules.specs.declared.Thing.TheVariants as thing
use Rattle.stack_rules.specs.Tests.{is_unbound, phase_is_paused, phase_is_halted}
use Rattle.stack_rules.specs.Net.{Net, start, told, after, after_rows, after_turn, after_turns, request_of, given_to, first_oid, place_of_request}
use Rattle.stack_rules.specs.Outcome.{Outcome, oid_no}
use Rattle.stack_rules.specs.Places.{agenda_first, state_of}
use Rattle.stack_rules.specs.Pumps.{request_pump, pump_of, is_pump_moving}
use Rattle.stack_rules.specs.Drains.{drain_rows, drained}
use Rattle.stack_rules.specs.Requests.{Giving, is_waiting_at, is_at_entry, is_busy, has_waiting, first_waiting, oid_modules, giving_to, lowest_giving, entry_giving, or_else, next_giving, given_rows_by}
use Rattle.stack_rules.specs.Sound.{outcome, SoundFrom}
use Rattle.state_laws.specs.Shape.{IsShaped}
use Rattle.state_laws.proofs.Rows.{by_test}
use Rattle.state_laws.proofs.Calm.{calm_moved, calm_status, calm_drained, calm_event}
use Rattle.state_laws.proofs.Events.{shaped_start}
use Rattle.request_laws.proofs.Asked.{none_some, some_same}
use Rattle.request_laws.proofs.Finds.{requests_but, number_given, found_by_number, EachRequest-implies}
use Rattle.request_laws.proofs.Orders.{same_is}
use Rattle.request_laws.proofs.Rows.{IsKept, kept_start}
use Rattle.rule_basics.specs.Live.{EachRequest}
use Rattle.completion_laws.proofs.Tells.{AreMute}
use Rattle.completion_laws.proofs.Mutes.{AsksAlike, calm_mute, mute_change, mute_after}
use Rattle.completion_laws.proofs.Sorts.{Sorts, mute, asked, done, low, on}
use Rattle.completion_laws.proofs.Events.{kept_turn, shaped_turn, sorted_turn}
use Rattle.serialization_laws.specs.Dones.{IsGivenFirst, EachGiven, AllAreGivenFirst}

-- the requests stand in rising order of their numbers, all below the next one
abbrev pub AreRising : ℕ → List Request → Type 0
AreRising next [] = Unit {0}
AreRising next (r ∷ rs) = (r.request.0 < next) × (EachRequest (λ q. r.request.0 < q.request.0) rs × AreRising next rs)

EachRequest-snoc : (P : Request → Type 0) (rs : List Request) (r : Request) → EachRequest P rs → P r → EachRequest P (rs ++ r ∷ [])
EachRequest-snoc P [] r h p = (p, tt)
EachRequest-snoc P (q ∷ rs) r h p = (h.0, EachRequest-snoc P rs r h.1 p)

rising_push : (next : ℕ) (rs : List Request) (r : Request) → r.request.0 ≡ next → AreRising next rs → AreRising (next + 1) (rs ++ r ∷ [])
rising_push next [] r e h = (omega (arith, e), (tt, tt))
rising_push next (q ∷ rs) r e h =
    let less = h.0 in
    (omega (arith, less), (EachRequest-snoc (λ x. q.request.0 < x.request.0) rs r h.1.0 (omega (arith, less, e)), rising_push next rs r e h.1.1))

above_given : (k n : ℕ) (m : ModuleId) (rs : List Request) → EachRequest (λ q. k < q.request.0) rs → EachRequest (λ q. k < q.request.0) (map (given_to n m) rs)
above_given k n m [] h = tt
above_given k n m (r ∷ rs) h = (let less = h.0 in let same = number_given n m r in omega (arith, less, same), above_given k n m rs h.1)

rising_given : (next n : ℕ) (m : ModuleId) (rs : List Request) → AreRising next rs → AreRising next (map (given_to n m) rs)
rising_given next n m [] h = tt
rising_given next n m (r ∷ rs) h =
    let same = number_given n m r in
    let less = h.0 in
    (omega (arith, less, same), (above_given (given_to n m r).request.0 n m rs (EachRequest-implies (λ q. r.request.0 < q.request.0) (λ q. (given_to n m r).request.0 < q.request.0) (λ q l. omega (arith, l, same)) rs h.1.0), rising_given next n m rs h.1.1))

each_but : (P : Request → Type 0) (n : ℕ) (rs : List Request) → EachRequest P rs → EachRequest P (requests_but n rs)
each_but P n [] h = tt
each_but P n (r ∷ rs) h = elim (r.request.0 == n) as (λ b. EachRequest P (cond (not b) (r ∷ requests_but n rs) (requests_but n rs))) [ true ↦ each_but P n rs h.1 | false ↦ (h.0, each_but P n rs h.1) ]

rising_but : (next n : ℕ) (rs : List Request) → AreRising next rs → AreRising next (requests_but n rs)
rising_but next n [] h = tt
rising_but next n (r ∷ rs) h = elim (r.request.0 == n) as (λ b. AreRising next (cond (not b) (r ∷ requests_but n rs) (requests_but n rs))) [
  | true ↦ rising_but next n rs h.1.1
  | false ↦ (h.0, (each_but (λ q. r.request.0 < q.request.0) n rs h.1.0, rising_but next n rs h.1.1))
]

abbrev pub Rising : Net → Type 0
Rising net = AreRising net.next.request net.requests

rising_alike : (net next : Net) → AsksAlike net next → Rising net → Rising next
rising_alike net next s h = subst (λ (rs : List Request). AreRising next.next.request rs) (sym s.requests) (subst (λ n. AreRising n net.requests) (sym s.number) h)

rising_now : (net now : Net) (rows : List Row) → now ≡ net → Rising (after_rows net rows) → Rising (after_rows now rows)
rising_now net now rows s h = subst (λ (x : Net). Rising (after_rows x rows)) (sym s) h

pub rising_sort : (net now : Net) (rows : List Row) → ((rows : List Row) → AreMute rows → AsksAlike net (after_rows now rows)) → Sorts net now rows → Rising net → Rising (after_rows now rows)
rising_sort net now _ alike (mute rows h) o = rising_alike net (after_rows now rows) (alike rows h) o
rising_sort net now _ alike (asked binding kind code value s) o =
    let rows : List Row = row.OidIssue (oid_no net.next.request) None binding kind code value ∷ [] in
    let made : Request = record { request = oid_no net.next.request; parent = None; binding = binding; kind = kind; code = code; value = value; at = at.Entry } in
    rising_now net now rows s (rising_push net.next.request net.requests made refl o)
rising_sort net now _ alike (done a first s) o = rising_now net now (row.OidDone a.parent a.status a.value ∷ []) s (rising_but net.next.request a.parent.0 net.requests o)
rising_sort net now _ alike (low r status value f w s) o =
    rising_now net now (row.OidGive r.request Miniport ∷ row.OidDone r.request status value ∷ []) s
    (rising_but net.next.request r.request.0 (map (given_to r.request.0 Miniport) net.requests) (rising_given net.next.request r.request.0 Miniport net.requests o))
rising_sort net now _ alike (on r filter f w s) o =
    let give : Row = row.OidGive r.request (Filter filter) in
    let rows : List Row = give ∷ row.OidIssue (oid_no net.next.request) (Some r.request) r.binding r.kind r.code r.value ∷ [] in
    let given : Net = after net give in
    let made : Request = record { request = oid_no net.next.request; parent = Some r.request; binding = r.binding; kind = r.kind; code = r.code; value = r.value; at = place_of_request given.modules given.requests (Some r.request) } in
    rising_now net now rows s (rising_push net.next.request given.requests made refl (rising_given net.next.request r.request.0 (Filter filter) net.requests o))

-- what a test finds first has the lowest number of all that pass it
lowest : (test : Request → Bool) (next : ℕ) (rs : List Request) (r : Request) → AreRising next rs → find test rs ≡ Some r → EachRequest (λ q. test q ≡ true → r.request.0 ≤ q.request.0) rs
lowest test next [] r h f = tt
lowest test next (q ∷ rs) r h f =
    let cases : (b : Bool) → test q ≡ b → cond b (Some q) (find test rs) ≡ Some r → EachRequest (λ x. test x ≡ true → r.request.0 ≤ x.request.0) (q ∷ rs) = elim [
      | true ↦ λ t e.
          let same : q.request.0 ≡ r.request.0 = ap (λ (x : Request). x.request.0) (some_same q r e) in
          (λ _. omega (arith, same), EachRequest-implies (λ x. q.request.0 < x.request.0) (λ x. test x ≡ true → r.request.0 ≤ x.request.0) (λ x l _. omega (arith, l, same)) rs h.1.0)
      | false ↦ λ t e. (λ u. absurd (clash (sym t ∙ u)), lowest test next rs r h.1.1 e)
    ] in
    cases (test q) refl f
  where
    clash : false ≡ true → ⊥
    clash e = cc

each_of : (P : Request → Type 0) (n : ℕ) (rs : List Request) (q : Request) → EachRequest P rs → request_of n rs ≡ Some q → P q × (q.request.0 ≡ n)
each_of P n [] q h f = absurd (none_some q f)
each_of P n (r ∷ rs) q h f =
    let cases : (b : Bool) → (r.request.0 == n) ≡ b → cond b (Some r) (request_of n rs) ≡ Some q → P q × (q.request.0 ≡ n) = elim [
      | true ↦ λ t e. subst (λ (x : Request). P x × (x.request.0 ≡ n)) (some_same r q e) (h.0, equal r.request.0 n t)
      | false ↦ λ t e. each_of P n rs q h.1 e
    ] in
    cases (r.request.0 == n) refl f
  where
    equal : (a b : ℕ) → (a == b) ≡ true → a ≡ b
    equal a b t = grind (arith, nat_tests)

find_true : (p : Request → Bool) (rs : List Request) (r : Request) → find p rs ≡ Some r → p r ≡ true
find_true p [] r f = absurd (none_some r f)
find_true p (q ∷ rs) r f =
    let cases : (b : Bool) → p q ≡ b → cond b (Some q) (find p rs) ≡ Some r → p r ≡ true = elim [
      | true ↦ λ t e. subst (λ (k : Request). p k ≡ true) (some_same q r e) t
      | false ↦ λ t e. find_true p rs r e
    ] in
    cases (p q) refl f

waiting_is : (m : ModuleId) (a : RequestAt) → is_waiting_at m a ≡ true → a ≡ at.Waiting m
waiting_is m at.Entry e = cc
waiting_is m (at.Waiting k) e = ap (λ i. at.Waiting i) (same_is k m e)
waiting_is m (at.Given k) e = cc

entry_is : (a : RequestAt) → is_at_entry a ≡ true → a ≡ at.Entry
entry_is at.Entry e = refl
entry_is (at.Waiting m) e = cc
entry_is (at.Given m) e = cc

module _ (net : Net) (k : IsKept net) (o : Rising net) where
  -- what a test of places finds
  found_first : (m : ModuleId) (test : RequestAt → Bool) (place : RequestAt) (r : Request) → find (λ (r : Request). test r.at) net.requests ≡ Some r → ((a : RequestAt) → test a ≡ true → a ≡ place) → is_busy net.requests m ≡ false → (place ≡ at.Waiting m) ⊎ ((place ≡ at.Entry) × (m ≡ first_oid net.modules net.modules.order)) → IsGivenFirst net r.request m
  found_first m test place r f only idle where_it =
      let passes : test r.at ≡ true = find_true (λ (r : Request). test r.at) net.requests r f in
      let here : r.at ≡ place = only r.at passes in
      record {
        given = r;
        found = found_by_number (λ (r : Request). test r.at) net.requests r k.apart f;
        idle = idle;
        place = subst (λ (p : RequestAt). (p ≡ at.Waiting m) ⊎ ((p ≡ at.Entry) × (m ≡ first_oid net.modules net.modules.order))) (sym here) where_it;
        first = λ i other g same.
            let x = each_of (λ q. test q.at ≡ true → r.request.0 ≤ q.request.0) i net.requests other (lowest (λ (r : Request). test r.at) net.next.request net.requests r o f) g in
            let less = x.0 (ap test same ∙ passes) in
            let name = x.1 in
            omega (arith, less, name);
      }

  given_by : (m : ModuleId) (test : RequestAt → Bool) (place : RequestAt) (f : Option Request) (g : Giving) → find (λ (r : Request). test r.at) net.requests ≡ f → giving_to m f ≡ Some g → ((a : RequestAt) → test a ≡ true → a ≡ place) → is_busy net.requests m ≡ false → (place ≡ at.Waiting m) ⊎ ((place ≡ at.Entry) × (m ≡ first_oid net.modules net.modules.order)) → IsGivenFirst net g.request.request g.module_id
  given_by m test place None g e h only idle w = absurd (none_some g h)
  given_by m test place (Some r) g e h only idle w = subst (λ (x : Giving). IsGivenFirst net x.request.request x.module_id) (some_same (record { request = r; module_id = m }) g h) (found_first m test place r e only idle w)

  idle_when : (a b : Bool) → (a && not b) ≡ true → b ≡ false
  idle_when true true e = cc
  idle_when false true e = cc
  idle_when a false e = refl

  lowest_given : (ms : List ModuleId) (g : Giving) → lowest_giving net.requests ms ≡ Some g → IsGivenFirst net g.request.request g.module_id
  lowest_given [] g e = absurd (none_some g e)
  lowest_given (m ∷ ms) g e =
      let cases : (b : Bool) → (has_waiting net.requests m && not (is_busy net.requests m)) ≡ b → cond b (giving_to m (first_waiting net.requests m)) (lowest_giving net.requests ms) ≡ Some g → IsGivenFirst net g.request.request g.module_id = elim [
        | true ↦ λ t f. given_by m (is_waiting_at m) (at.Waiting m) (first_waiting net.requests m) g refl f (waiting_is m) (idle_when _ _ t) (inl refl)
        | false ↦ λ t f. lowest_given ms g f
      ] in
      cases _ refl e

  idle_at : (a b c : Bool) → (a || (b || c)) ≡ false → b ≡ false
  idle_at false false c e = refl
  idle_at false true c e = cc
  idle_at true b c e = cc

  entry_given : (g : Giving) → entry_giving net ≡ Some g → IsGivenFirst net g.request.request g.module_id
  entry_given g e =
      let m : ModuleId = first_oid net.modules net.modules.order in
      let cases : (b : Bool) → ((phase_is_paused net.phase || phase_is_halted net.phase) || (is_busy net.requests m || has_waiting net.requests m)) ≡ b → cond b None (giving_to m (find (λ (r : Request). is_at_entry r.at) net.requests)) ≡ Some g → IsGivenFirst net g.request.request g.module_id = elim [
        | true ↦ λ t f. absurd (none_some g f)
        | false ↦ λ t f. given_by m is_at_entry at.Entry (find (λ (r : Request). is_at_entry r.at) net.requests) g refl f entry_is (idle_at _ _ _ t) (inr (refl, refl))
      ] in
      cases _ refl e

  next_given : (g : Giving) → next_giving net ≡ Some g → IsGivenFirst net g.request.request g.module_id
  next_given g e = cases (lowest_giving net.requests (oid_modules net.modules)) refl e
    where
      cases : (x : Option Giving) → lowest_giving net.requests (oid_modules net.modules) ≡ x → or_else x (entry_giving net) ≡ Some g → IsGivenFirst net g.request.request g.module_id
      cases None f e = entry_given g e
      cases (Some y) f e = lowest_given (oid_modules net.modules) g (f ∙ e)

  abbrev Firsts : List Row → Type 0
  Firsts rows = EachGiven (IsGivenFirst net) rows

  mute_first : (rows : List Row) → AreMute rows → Firsts rows
  mute_first [] h = tt
  mute_first (row.OidGive request m ∷ rows) h = cc
  mute_first (r ∷ rows) h = mute_first rows h.1

  first_request : (x : Option Giving) → next_giving net ≡ x → Firsts (request_pump net x).rows
  first_request None e = tt
  first_request (Some g) e = (next_given g e, by g.module_id)
    where
      by : (m : ModuleId) → Firsts (given_rows_by net g.request m)
      by Miniport = tt
      by (Filter f) = tt
      by (Binding b) = tt

  first_pump : (keeps : Bool) (x : Option Thing) → agenda_first net ≡ x → Firsts (pump_of net keeps x).rows
  first_pump keeps None e = first_request (next_giving net) refl
  first_pump keeps (Some (thing.List l)) e = mute_first _ (calm_mute _ (calm_moved net l l.stand keeps))
  first_pump keeps (Some (thing.Status a)) e = mute_first _ (calm_mute _ (calm_status net a.number a.name a.to))
  first_pump keeps (Some (thing.Answer a)) e = tt

  pub firsts : (e : Event) (c : Choice) → Firsts (outcome net e c).rows
  firsts event.Initialize c = mute_first _ (mute_change net event.Initialize c refl)
  firsts (event.Insert kind position setup) c = mute_first _ (mute_change net (event.Insert kind position setup) c refl)
  firsts (event.Remove f) c = mute_first _ (mute_change net (event.Remove f) c refl)
  firsts (event.Replace old kind setup) c = mute_first _ (mute_change net (event.Replace old kind setup) c refl)
  firsts event.BeginPause c = mute_first _ (mute_change net event.BeginPause c refl)
  firsts event.PauseNext c = mute_first _ (mute_change net event.PauseNext c refl)
  firsts event.RestartNext c = mute_first _ (mute_change net event.RestartNext c refl)
  firsts event.Halt c = mute_first _ (mute_change net event.Halt c refl)
  firsts (event.Ask binding kind code value) c = by_test (λ (o : Outcome). Firsts o.rows) (is_unbound (state_of net (Binding binding))) _ _ (λ _. tt) (λ _. tt)
  firsts event.Pump c = first_pump c.keeps (agenda_first net) refl
  firsts event.Drain c =
      by_test (λ (o : Outcome). Firsts o.rows) (is_pump_moving net) _ _ (λ _. first_pump c.keeps (agenda_first net) refl)
      (λ _. mute_first (drained (drain_rows net)).rows (calm_mute (drained (drain_rows net)).rows (calm_drained net)))
  firsts e c = mute_first _ (calm_mute _ (calm_event net e c refl))

first_turns : (net : Net) (before : List Turn) (turn : Turn) (later : List Turn) → IsShaped net → IsKept net → Rising net → SoundFrom net (before ++ turn ∷ later) → EachGiven (IsGivenFirst (after_turns net before)) turn.rows
first_turns net [] turn later s k o h = subst (EachGiven (IsGivenFirst net)) (sym h.0.rows) (firsts net k o turn.event h.0.choice)
first_turns net (t ∷ before) turn later s k o h =
    first_turns (after_turn net t) before turn later (shaped_turn net t s h.0) (kept_turn net t s k h.0)
    (rising_sort net (told net t.event t.reply) t.rows (λ rows q. mute_after net t.event t.reply rows q) (sorted_turn net t k h.0) o) h.1

pub all_are_given_first : AllAreGivenFirst
all_are_given_first head before turn later h = first_turns (start head) before turn later (shaped_start head) (kept_start head) tt h
