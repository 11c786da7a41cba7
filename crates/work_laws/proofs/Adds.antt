-- What sends, receives, statuses and requests add to the work.
use Rattle.std.proofs.Common.{◌≡◌, ℕ, ◌+◌, ◌-◌, ◌*◌, ◌≤◌, ◌==◌, ◌||◌, not, Bool, true, false, cond, List, [], ◌∷◌, ◌++◌, Option, Some, None, length, refl, arith, ap, sum_by, count_by, mul-le-mul_left}
use Rattle.std.proofs.lemmas.List.Sums.{sum_by_push, sum_by-le-sum_by}
use Rattle.ndis_base.specs.declared.ModuleId.{ModuleId}
use Rattle.ndis_base.specs.declared.ModuleId.TheVariants.{Miniport, Filter, Binding}
use Rattle.ndis_base.specs.declared.ModuleState.{ModuleState}
use Rattle.ndis_base.specs.declared.Phase.TheVariants as phase
use Rattle.ndis_base.specs.declared.ListNo.{ListNo}
use Rattle.ndis_base.specs.declared.OidKind.{OidKind}
use Rattle.ndis_base.specs.declared.StatusName.{StatusName}
use Rattle.ndis_base.specs.declared.StatusNo.{StatusNo}
use Rattle.ndis_base.specs.declared.ConfigNo.{ConfigNo}
use Rattle.ndis_base.specs.declared.CrossNo.{CrossNo}
use Rattle.ndis_base.specs.declared.Direction.{Direction}
use Rattle.ndis_base.specs.declared.Direction.TheVariants as direction
use Rattle.ndis_base.specs.declared.Origin.{Origin}
use Rattle.journal_types.specs.declared.PassWay.{PassWay}
use Rattle.journal_types.specs.declared.PassWay.TheVariants as way
use Rattle.journal_types.specs.declared.PhaseOf.TheVariants as of
use Rattle.journal_types.specs.declared.OutWay.TheVariants as out
use Rattle.journal_types.specs.declared.Target.{Target}
use Rattle.journal_types.specs.declared.Row.{Row}
use Rattle.journal_types.specs.declared.Row.TheVariants as row
use Rattle.stack_rules.specs.declared.LiveList.{LiveList}
use Rattle.stack_rules.specs.declared.Request.{Request}
use Rattle.stack_rules.specs.declared.RequestAt.{RequestAt}
use Rattle.stack_rules.specs.declared.RequestAt.TheVariants as at
use Rattle.stack_rules.specs.declared.Thing.{Thing}
use Rattle.stack_rules.specs.declared.Thing.TheVariants as thing
use Rattle.ndis_base.specs.declared.ModuleState.TheVariants as state
use Rattle.stack_rules.specs.declared.Stand.{Stand}
use Rattle.stack_rules.specs.declared.Stand.TheVariants as stand
use Rattle.stack_rules.specs.Tests.{is_echo, is_down, is_running, is_halted, is_unbound, phase_is_running, phase_is_pausing}
use Rattle.stack_rules.specs.Heads.{kind_of_binding, binding_numbers}
use Rattle.stack_rules.specs.Net.{Net, Modules, after, after_rows, request_of, modules_after, taken_by, is_status, without_status}
use Rattle.stack_rules.specs.Places.{has_clone, is_full, state_of, outstanding, position, position_of_target, is_crossed}
use Rattle.stack_rules.specs.Targets.{next_down, next_up, next_status}
use Rattle.stack_rules.specs.Outcome.{Outcome, root, list_no, config_no, status_no, oid_no, cross_no}
use Rattle.ndis_base.specs.declared.Origin.TheVariants as origin
use Rattle.program_types.specs.Apply.{pushed}
use Rattle.stack_rules.specs.Sends.{send_outcome}
use Rattle.stack_rules.specs.Receives.{indicated, indicate_outcome}
use Rattle.stack_rules.specs.Statuses.{status_outcome}
use Rattle.stack_rules.specs.Requests.{ask_outcome}
use Rattle.stack_rules.specs.Crosses.{is_too_long_tagged, mux_binding_for, put_outcome, put_up_outcome, take_of, first_uncrossed, take_outcome}
use Rattle.stack_rules.specs.Pauses.{state_rows, state_row, binding_ids, begin_outcome, paused_rows, pause_outcome, first_unpaused, floors}
use Rattle.stack_rules.specs.Work.{bottom, echo_count, up_work, kept_work, given_position, holder_position, request_work, list_work, work}
use Rattle.std.specs.List.{list_any}
use Rattle.std.proofs.Common.{map, nat_lt, get_or}
use Rattle.rule_basics.specs.Numbers.{IsNumbered}
use Rattle.home_laws.proofs.Known.{by_test}
use Rattle.work_laws.specs.Bounds.{send_room, receive_room}
use Rattle.work_laws.proofs.Sums.{sum_filter, sum_last, sum_changed}
use Rattle.work_laws.proofs.Weights.{Stay, weight, asked_work, load, work_least, work_after, load_pass, load_issue, passed_work}
use Rattle.work_laws.proofs.Clones.{clones_rows}
use Rattle.work_laws.proofs.Ways.{down_least, up_near, status_near}

-- the rows add at most so much
abbrev pub AddsAtMost : Net → ℕ → List Row → Type 0
AddsAtMost net k rows = work (after_rows net rows) ≤ work net + k

abbrev pub OutcomeAdds : Net → ℕ → Outcome → Type 0
OutcomeAdds net k o = AddsAtMost net k o.rows

pub adds_none : (net : Net) (k : ℕ) → AddsAtMost net k []
adds_none net k = omega arith

-- a list is issued and goes on
pub issued_adds : (net : Net) (list : ListNo) (owner : ModuleId) (config : ConfigNo) (direction : Direction) (cancel : Option ℕ) (origin : Origin) (frames : List (List ℕ)) (way : PassWay) (to : Target) → IsNumbered net → list.0 ≡ net.next.list →
    AddsAtMost net (passed_work net way to) (row.Issue list owner config direction cancel origin frames ∷ row.Pass list way to ∷ [])
issued_adds net list owner config direction cancel origin frames way to h e =
    let rows : List Row = row.Issue list owner config direction cancel origin frames ∷ row.Pass list way to ∷ [] in
    let next : Net = after net (row.Issue list owner config direction cancel origin frames) in
    let stay : Stay (has_clone net) (has_clone (after_rows net rows)) = clones_rows net rows h (e, (tt, tt)) (refl, (refl, tt)) in
    let first = load_issue net (has_clone net) list owner config direction cancel origin frames in
    let second = load_pass next (has_clone net) list way to in
    let most = work_after (after_rows net rows) (has_clone net) stay in
    let least = work_least net in
    omega (arith, first, second, most, least)

pub down_room : (net : Net) (i : ℕ) → passed_work net way.Down (next_down net.modules i) ≤ send_room net
down_room net i = let far = down_least net.modules i in omega (arith, far)

pub up_room : (net : Net) (i : ℕ) → i ≤ bottom net → passed_work net way.Up (next_up net.modules i) ≤ receive_room net
up_room net i a =
    let near = up_near net.modules i in
    let whole : 3 * bottom net * (1 + echo_count net) ≡ 3 * bottom net + 3 * bottom net * echo_count net = omega arith in
    omega (arith, near, whole)

pub root_adds : (net : Net) (owner : ModuleId) (direction : Direction) (cancel : Option ℕ) (frames : List (List ℕ)) (way : PassWay) (to : Target) → IsNumbered net →
    AddsAtMost net (passed_work net way to) (root net net.next.list owner direction cancel frames ∷ row.Pass (list_no net.next.list) way to ∷ [])
root_adds net owner direction cancel frames way to h = issued_adds net (list_no net.next.list) owner (config_no net.modules.config) direction cancel origin.Root frames way to h refl

down_adds : (net : Net) (owner : ModuleId) (cancel : Option ℕ) (frames : List (List ℕ)) → IsNumbered net →
    AddsAtMost net (send_room net) (root net net.next.list owner direction.Down cancel frames ∷ row.Pass (list_no net.next.list) way.Down (next_down net.modules 0) ∷ [])
down_adds net owner cancel frames h =
    let most = root_adds net owner direction.Down cancel frames way.Down (next_down net.modules 0) h in
    let room = down_room net 0 in
    omega (arith, most, room)

indicated_adds : (net : Net) (frames : List (List ℕ)) → IsNumbered net → AddsAtMost net (receive_room net) (indicated net frames)
indicated_adds net frames h =
    let most = root_adds net Miniport direction.Up None frames way.Up (next_up net.modules (position net.modules.order Miniport)) h in
    let room = up_room net (position net.modules.order Miniport) (omega arith) in
    omega (arith, most, room)

pub send_adds : (net : Net) (binding : ℕ) (cancel : Option ℕ) (frames : List (List ℕ)) → IsNumbered net → OutcomeAdds net (send_room net) (send_outcome net binding cancel frames)
send_adds net binding cancel frames h =
    by_test (OutcomeAdds net (send_room net)) (phase_is_running net.phase) _ _
    (λ _. by_test (OutcomeAdds net (send_room net)) (is_full net (Binding binding)) _ _ (λ _. adds_none net (send_room net)) (λ _. down_adds net (Binding binding) cancel frames h))
    (λ _. adds_none net (send_room net))

pub put_adds : (net : Net) (stack : ℕ) (message : CrossNo) (vlan : ℕ) (frames : List (List ℕ)) → IsNumbered net → OutcomeAdds net (send_room net) (put_outcome net stack message vlan frames)
put_adds net stack message vlan frames h =
    by_test (OutcomeAdds net (send_room net)) (phase_is_running net.phase) _ _
    (λ _. by_test (OutcomeAdds net (send_room net)) (list_any (is_too_long_tagged net.head) frames) _ _
    (λ _. adds_none net (send_room net))
    (λ _. by_test (OutcomeAdds net (send_room net)) (is_full net (Binding (mux_binding_for net.head stack))) _ _
    (λ _. adds_none net (send_room net))
    (λ _. down_adds net (Binding (mux_binding_for net.head stack)) None (map (pushed vlan) frames) h)))
    (λ _. adds_none net (send_room net))

pub indicate_adds : (net : Net) (frames : List (List ℕ)) → IsNumbered net → OutcomeAdds net (receive_room net) (indicate_outcome net frames)
indicate_adds net frames h =
    by_test (OutcomeAdds net (receive_room net)) (is_running net.modules.miniport) _ _
    (λ _. by_test (OutcomeAdds net (receive_room net)) (is_full net Miniport) _ _ (λ _. adds_none net (receive_room net)) (λ _. indicated_adds net frames h))
    (λ _. adds_none net (receive_room net))

pub put_up_adds : (net : Net) (stack : ℕ) (message : CrossNo) (frames : List (List ℕ)) → IsNumbered net → OutcomeAdds net (receive_room net) (put_up_outcome net stack message frames)
put_up_adds net stack message frames h =
    by_test (OutcomeAdds net (receive_room net)) (is_running net.modules.miniport) _ _
    (λ _. by_test (OutcomeAdds net (receive_room net)) (is_full net Miniport) _ _ (λ _. adds_none net (receive_room net)) (λ _. indicated_adds net frames h))
    (λ _. adds_none net (receive_room net))

-- a status
pub load_status : (net : Net) (cloned : ℕ → Bool) (number : StatusNo) (name : StatusName) (to : Target) → load (after net (row.Status number name to)) cloned ≤ load net cloned + (position_of_target net.modules.order to + 1)
load_status net cloned number name to =
    let kept = sum_filter (weight net cloned) (λ t. not (is_status number.0 t)) net.things in
    let last = sum_last (weight net cloned) (without_status number.0 net.things) (thing.Status (record { number = number; name = name; to = to })) in
    omega (arith, kept, last)

pub status_adds : (net : Net) (name : StatusName) → IsNumbered net → OutcomeAdds net (bottom net) (status_outcome net name)
status_adds net name h =
    by_test (OutcomeAdds net (bottom net)) (is_halted net.modules.miniport) _ _
    (λ _. adds_none net (bottom net))
    (λ _.
    let to : Target = next_status net.modules (position net.modules.order Miniport) in
    let rows : List Row = row.Status (status_no net.next.status) name to ∷ [] in
    let stay : Stay (has_clone net) (has_clone (after_rows net rows)) = clones_rows net rows h (tt, tt) (refl, tt) in
    let near = status_near net.modules (position net.modules.order Miniport) in
    let more = load_status net (has_clone net) (status_no net.next.status) name to in
    let most = work_after (after_rows net rows) (has_clone net) stay in
    let least = work_least net in
    omega (arith, near, more, most, least))

-- a request that is new gives no answer a place
pub new_holder : (net : Net) (n : ℕ) (rs : List Request) (r : Request) → given_position net r.at ≡ 0 → holder_position net (request_of n (rs ++ r ∷ [])) ≤ holder_position net (request_of n rs)
new_holder net n [] r e = elim (r.request.0 == n) as (λ b. holder_position net (cond b (Some r) None) ≤ 0) [ true ↦ omega (arith, e) | false ↦ omega arith ]
new_holder net n (q ∷ rs) r e =
    let rest = new_holder net n rs r e in
    elim (q.request.0 == n) as (λ b. holder_position net (cond b (Some q) (request_of n (rs ++ r ∷ []))) ≤ holder_position net (cond b (Some q) (request_of n rs))) [ true ↦ omega arith | false ↦ rest ]

asked_lighter : (net : Net) (new : Request) → given_position net new.at ≡ 0 → (t : Thing) → weight (record net { requests = net.requests ++ new ∷ [] }) (has_clone net) t ≤ weight net (has_clone net) t
asked_lighter net new e (thing.List l) = omega arith
asked_lighter net new e (thing.Status s) = omega arith
asked_lighter net new e (thing.Answer a) = new_holder net a.parent.0 net.requests new e

pub ask_adds : (net : Net) (binding : ℕ) (kind : OidKind) (code : ℕ) (value : List ℕ) → IsNumbered net → OutcomeAdds net (2 * bottom net - 1) (ask_outcome net binding kind code value)
ask_adds net binding kind code value h =
    by_test (OutcomeAdds net (2 * bottom net - 1)) (is_unbound (state_of net (Binding binding))) _ _
    (λ _. adds_none net (2 * bottom net - 1))
    (λ _.
    let rows : List Row = row.OidIssue (oid_no net.next.request) None binding kind code value ∷ [] in
    let next : Net = after_rows net rows in
    let new : Request = record { request = oid_no net.next.request; parent = None; binding = binding; kind = kind; code = code; value = value; at = at.Entry } in
    let less = sum_by-le-sum_by (weight next (has_clone net)) (weight net (has_clone net)) net.things (asked_lighter net new refl) in
    let more = sum_by_push (λ (r : Request). request_work net r.at) net.requests new in
    let most = work_after next (has_clone net) (λ n t. t) in
    let least = work_least net in
    omega (arith, less, more, most, least))

-- a list that is taken to the other stack has no more to do here
taken_lighter : (net : Net) (cloned : ℕ → Bool) (list : ListNo) (message : CrossNo) (frames : List (List ℕ)) → load (after net (row.CrossOut message (out.Down list) frames)) cloned ≤ load net cloned
taken_lighter net cloned list message frames =
    let less = sum_changed (weight net cloned) list.0 (taken_by message.0) (λ l. omega arith) net.things in
    omega (arith, less)

taken_adds : (net : Net) (o : Option LiveList) → IsNumbered net → OutcomeAdds net 0 (take_of net o)
taken_adds net None h = adds_none net 0
taken_adds net (Some l) h =
    let rows : List Row = row.CrossOut (cross_no net.next.message) (out.Down l.list) l.frames ∷ [] in
    let stay : Stay (has_clone net) (has_clone (after_rows net rows)) = clones_rows net rows h (tt, tt) (refl, tt) in
    let less = taken_lighter net (has_clone net) l.list (cross_no net.next.message) l.frames in
    let most = work_after (after_rows net rows) (has_clone net) stay in
    let least = work_least net in
    omega (arith, less, most, least)

pub take_adds : (net : Net) → IsNumbered net → OutcomeAdds net 0 (take_outcome net)
take_adds net h = taken_adds net (first_uncrossed net) h

-- states and phases change
abbrev pub is_phasing : Row → Bool
is_phasing (row.Phase (of.Module m s)) = true
is_phasing (row.Phase (of.Stack p)) = not (phase_is_running p)
is_phasing _ = false

abbrev pub ArePhasing : List Row → Type 0
ArePhasing [] = Unit {0}
ArePhasing (r ∷ rows) = (is_phasing r ≡ true) × ArePhasing rows

-- fewer echo bindings send
pub record IsFewer (net next : Net) : Type 0 where
  pub order : next.modules.order ≡ net.modules.order
  pub requests : next.requests ≡ net.requests
  pub things : next.things ≡ net.things
  pub echoes : echo_count next ≤ echo_count net

fewer_up : (net next : Net) → IsFewer net next → (t : ℕ) → up_work next t ≤ up_work net t
fewer_up net next h t =
    let order = h.order in
    let less : 3 * bottom net * echo_count next ≤ 3 * bottom net * echo_count net = mul-le-mul_left (3 * bottom net) h.echoes in
    let most : 2 * t + bottom net + 1 + 3 * bottom net * echo_count next ≤ up_work net t = omega (arith, less) in
    rw order most

fewer_kept : (net next : Net) → IsFewer net next → (b : Bool) (m : ModuleId) → kept_work next b m ≤ kept_work net b m
fewer_kept net next h true m = let order = h.order in rw order (omega arith)
fewer_kept net next h false (Binding b) = let order = h.order in rw order (omega arith)
fewer_kept net next h false (Filter f) =
    let up = fewer_up net next h (position next.modules.order (Filter f)) in
    let same : position next.modules.order (Filter f) ≡ position net.modules.order (Filter f) = ap (λ order. position order (Filter f)) h.order in
    omega (arith, up, same)
fewer_kept net next h false Miniport =
    let up = fewer_up net next h (position next.modules.order Miniport) in
    let same : position next.modules.order Miniport ≡ position net.modules.order Miniport = ap (λ order. position order Miniport) h.order in
    omega (arith, up, same)

fewer_list : (net next : Net) → IsFewer net next → (l : LiveList) (s : Stand) → list_work next l s ≤ list_work net l s
fewer_list net next h l stand.Unplaced = omega arith
fewer_list net next h l (stand.Kept m) = fewer_kept net next h (is_down l.direction) m
fewer_list net next h l (stand.Passed way.Down to) = let order = h.order in rw order (omega arith)
fewer_list net next h l (stand.Passed (way.Done status) to) = let order = h.order in rw order (omega arith)
fewer_list net next h l (stand.Passed way.Up to) =
    let up = fewer_up net next h (position_of_target next.modules.order to) in
    let same : position_of_target next.modules.order to ≡ position_of_target net.modules.order to = ap (λ order. position_of_target order to) h.order in
    omega (arith, up, same)
fewer_list net next h l (stand.Passed (way.Back status) to) = let order = h.order in rw order (omega arith)

fewer_at : (net next : Net) → IsFewer net next → (o : Option Request) → holder_position next o ≤ holder_position net o
fewer_at net next h None = omega arith
fewer_at net next h (Some r) = place r.at
  where
    place : (a : RequestAt) → given_position next a ≤ given_position net a
    place at.Entry = omega arith
    place (at.Waiting m) = omega arith
    place (at.Given m) = let order = h.order in rw order (omega arith)

cond_less : (b : Bool) (j k : ℕ) → j ≤ k → cond b 0 j ≤ cond b 0 k
cond_less true j k h = omega arith
cond_less false j k h = h

fewer : (net next : Net) (cloned : ℕ → Bool) → IsFewer net next → (t : Thing) → weight next cloned t ≤ weight net cloned t
fewer net next cloned h (thing.List l) = cond_less (is_crossed l.crossed || cloned l.list.0) (list_work next l l.stand) (list_work net l l.stand) (fewer_list net next h l l.stand)
fewer net next cloned h (thing.Status s) = let order = h.order in rw order (omega arith)
fewer net next cloned h (thing.Answer a) = rw h.requests (fewer_at net next h (request_of a.parent.0 net.requests))

fewer_asked : (net next : Net) → IsFewer net next → (r : RequestAt) → request_work next r ≤ request_work net r
fewer_asked net next h at.Entry = let order = h.order in rw order (omega arith)
fewer_asked net next h (at.Waiting m) = let order = h.order in rw order (omega arith)
fewer_asked net next h (at.Given m) = omega arith

fewer_load : (net next : Net) → IsFewer net next → load next (has_clone net) ≤ load net (has_clone net)
fewer_load net next h =
    let things = sum_by-le-sum_by (weight next (has_clone net)) (weight net (has_clone net)) net.things (fewer net next (has_clone net) h) in
    let requests = sum_by-le-sum_by (λ (r : Request). request_work next r.at) (λ (r : Request). request_work net r.at) net.requests (λ r. fewer_asked net next h r.at) in
    let same_things : sum_by (weight next (has_clone net)) next.things ≡ sum_by (weight next (has_clone net)) net.things = ap (sum_by (weight next (has_clone net))) h.things in
    let same_requests : asked_work next ≡ sum_by (λ (r : Request). request_work next r.at) net.requests = ap (sum_by (λ (r : Request). request_work next r.at)) h.requests in
    omega (arith, things, requests, same_things, same_requests)

pub fewer_work : (net next : Net) → IsFewer net next → work next ≤ work net
fewer_work net next h =
    let less = fewer_load net next h in
    let most = work_after next (has_clone net) (λ n t. rw h.things t) in
    let least = work_least net in
    omega (arith, less, most, least)

order_stays : (ms : Modules) (m : ModuleId) (s : ModuleState) → (modules_after ms m s).order ≡ ms.order
order_stays ms Miniport s = refl
order_stays ms (Binding b) s = refl
order_stays ms (Filter f) s = refl

not_running : (b : Bool) (k : ℕ) → not b ≡ true → cond b k 0 ≤ 0
not_running true k h = cc
not_running false k h = omega arith

phasing_step : (net : Net) (r : Row) → is_phasing r ≡ true → work (after net r) ≤ work net
phasing_step net (row.Phase (of.Module m s)) q =
    fewer_work net (after net (row.Phase (of.Module m s))) record { order = order_stays net.modules m s; requests = refl; things = refl; echoes = omega arith }
phasing_step net (row.Phase (of.Stack p)) q =
    let none = not_running (phase_is_running p) (count_by (λ b. is_echo (kind_of_binding net.head b)) (binding_numbers net.head)) q in
    fewer_work net (after net (row.Phase (of.Stack p))) record { order = refl; requests = refl; things = refl; echoes = omega (arith, none) }
phasing_step net (row.Issue list owner config direction cancel origin frames) q = cc
phasing_step net (row.Give list m handler) q = cc
phasing_step net (row.Pass list way to) q = cc
phasing_step net (row.Keep list m) q = cc
phasing_step net (row.TurnBack list m status) q = cc
phasing_step net (row.Home list owner status) q = cc
phasing_step net (row.Wire list frames) q = cc
phasing_step net (row.Deliver list binding how frames) q = cc
phasing_step net (row.Config config filters) q = cc
phasing_step net (row.OidIssue request parent binding kind code value) q = cc
phasing_step net (row.OidGive request m) q = cc
phasing_step net (row.OidDone request status value) q = cc
phasing_step net (row.Status number name to) q = cc
phasing_step net (row.Seen number m) q = cc
phasing_step net (row.CrossOut message way frames) q = cc
phasing_step net (row.CrossIn stack message way frames) q = cc

pub phasing_rows : (net : Net) (rows : List Row) → ArePhasing rows → AddsAtMost net 0 rows
phasing_rows net [] q = omega arith
phasing_rows net (r ∷ rows) q = let first = phasing_step net r q.0 in let rest = phasing_rows (after net r) rows q.1 in omega (arith, first, rest)

phasing-append : (rows others : List Row) → ArePhasing rows → ArePhasing others → ArePhasing (rows ++ others)
phasing-append [] others p q = q
phasing-append (r ∷ rows) others p q = (p.0, phasing-append rows others p.1 q)

phasing-map : (m : ModuleId) (ss : List ModuleState) → ArePhasing (map (λ s. state_row s m) ss)
phasing-map m [] = tt
phasing-map m (s ∷ ss) = (refl, phasing-map m ss)

phasing-states : (ss : List ModuleState) (ms : List ModuleId) → ArePhasing (state_rows ss ms)
phasing-states ss [] = tt
phasing-states ss (m ∷ ms) = phasing-append (map (λ s. state_row s m) ss) (state_rows ss ms) (phasing-map m ss) (phasing-states ss ms)

pub begin_adds : (net : Net) → OutcomeAdds net 0 (begin_outcome net)
begin_adds net =
    by_test (OutcomeAdds net 0) (phase_is_running net.phase) _ _
    (λ _. phasing_rows net (row.Phase (of.Stack phase.Pausing) ∷ state_rows (state.Pausing ∷ []) (binding_ids 0 net.modules.bindings)) (refl, phasing-states (state.Pausing ∷ []) (binding_ids 0 net.modules.bindings)))
    (λ _. adds_none net 0)

paused_phasing : (net : Net) (i : ℕ) → ArePhasing (paused_rows net i)
paused_phasing net i =
    phasing-append (state_rows (state.Paused ∷ []) (get_or (floors net.modules) i [])) _ (phasing-states (state.Paused ∷ []) (get_or (floors net.modules) i []))
    (by_test ArePhasing (nat_lt (i + 1) (length (floors net.modules))) (state_rows (state.Pausing ∷ []) (get_or (floors net.modules) (i + 1) [])) (row.Phase (of.Stack phase.Paused) ∷ [])
    (λ _. phasing-states (state.Pausing ∷ []) (get_or (floors net.modules) (i + 1) []))
    (λ _. (refl, tt)))

pub pause_adds : (net : Net) → OutcomeAdds net 0 (pause_outcome net)
pause_adds net =
    let i : ℕ = first_unpaused net in
    by_test (OutcomeAdds net 0) (phase_is_pausing net.phase) _ _
    (λ _. by_test (OutcomeAdds net 0) (outstanding net i == 0) _ _
    (λ _. phasing_rows net (paused_rows net i) (paused_phasing net i))
    (λ _. adds_none net 0))
    (λ _. adds_none net 0)
