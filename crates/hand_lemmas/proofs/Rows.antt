-- What each row changes in hand, and that hands and state still agree: one lemma for each kind of row, for every
-- stack, every event and every moment of a turn.
use Rattle.std.proofs.Common.{◌≡◌, ℕ, zero, suc, ◌==◌, not, true, false, cond, List, [], ◌∷◌, ◌++◌, Option, Some, None, map, filter, slice_index_or, is_some, count_by, refl, sym, ap, ◌∙◌, subst, All, arith}
use Rattle.std.proofs.lemmas.List.Sums.{sum_by-cons}
use Rattle.std.proofs.lemmas.List.Elements.{All-nil, All-weaker}
use Rattle.ndis_base.specs.declared.ListNo.{ListNo}
use Rattle.ndis_base.specs.declared.OidNo.{OidNo}
use Rattle.ndis_base.specs.declared.OidKind.{OidKind}
use Rattle.ndis_base.specs.declared.OidStatus.{OidStatus}
use Rattle.ndis_base.specs.declared.StatusNo.{StatusNo}
use Rattle.ndis_base.specs.declared.StatusName.{StatusName}
use Rattle.ndis_base.specs.declared.CrossNo.{CrossNo}
use Rattle.ndis_base.specs.declared.ConfigNo.{ConfigNo}
use Rattle.ndis_base.specs.declared.ListStatus.{ListStatus}
use Rattle.ndis_base.specs.declared.ModuleId.{ModuleId}
use Rattle.journal_types.specs.declared.Way.{Way}
use Rattle.journal_types.specs.declared.Handler.{Handler}
use Rattle.journal_types.specs.declared.PassWay.{PassWay}
use Rattle.journal_types.specs.declared.Target.{Target}
use Rattle.journal_types.specs.declared.How.{How}
use Rattle.journal_types.specs.declared.PhaseOf.{PhaseOf}
use Rattle.journal_types.specs.declared.PhaseOf.TheVariants as of
use Rattle.journal_types.specs.declared.OutWay.{OutWay}
use Rattle.journal_types.specs.declared.OutWay.TheVariants as out_way
use Rattle.journal_types.specs.declared.Row.TheVariants as row
use Rattle.buffer_pools.specs.Views.{ListView, PoolView, IsOf, Issues, Frees, live_count}
use Rattle.stack_rules.specs.declared.LiveList.{LiveList}
use Rattle.stack_rules.specs.declared.Request.{Request}
use Rattle.stack_rules.specs.declared.StatusAway.{StatusAway}
use Rattle.stack_rules.specs.declared.Stand.TheVariants as stand
use Rattle.stack_rules.specs.declared.Thing.{Thing}
use Rattle.stack_rules.specs.declared.Thing.TheVariants as thing
use Rattle.stack_rules.specs.Net.{Net, lists, after, without, at_end, as_passed, as_kept, had_by, taken_by, request_of, things_after_done, after_answer, is_answer_to}
use Rattle.stack_rules.specs.Net as net_of
use Rattle.stack_rules.specs.Places.{owned}
use Rattle.rule_basics.specs.Numbers.{IsNumbered}
use Rattle.rule_basics.proofs.Numbered.{numbered_after, lists-without_status, lists-status, lists-things_done}
use Rattle.agenda_items.specs.declared.Carried.{Carried}
use Rattle.hand_lemmas.specs.Hands.{Common, in_hand, carried, Hands, IsHoused, IsCarriedHome, Agrees, IsMine, IsSame, taken, queued, loosed, put_at, kept_at, pooled, without_status, without_answer, answered_to, request_done}
use Rattle.agenda_items.specs.declared.Carried.TheVariants.{List as a_list, Status as a_status, Answer as an_answer}
use Rattle.hand_lemmas.proofs.Modules.{at_each}
use Rattle.hand_lemmas.proofs.Shows.{Shows, IsQuiet, shows_taken, shows_queued, shows_kept, shows_loosed, shows_changed, shows_unstatused, shows_unanswered, shows_status_pushed, shows_answer_pushed}
use Rattle.hand_lemmas.proofs.Pools.{shows_freed, shows_issued, housed_new, housed_still}
use Rattle.hand_lemmas.proofs.Counts.{Counted, counted_same, counted_moved, counted_changed, counted_home, counted_issued}

pub shows_of : {net : Net} {h : Hands} → Agrees net h → Shows net.things h
shows_of a = record {
  queue_is = a.queue_is;
  loose_is = a.loose_is;
  kept_is = a.kept_is;
  queue_housed = a.queue_housed;
  loose_housed = a.loose_housed;
  kept_housed = a.kept_housed;
}

agrees_here : (net : Net) (h : Hands) → Shows net.things h → Counted net.things h.pools → IsNumbered net → Agrees net h
agrees_here net h s c n = record {
  queue_is = s.queue_is;
  loose_is = s.loose_is;
  kept_is = s.kept_is;
  numbered = n;
  queue_housed = s.queue_housed;
  loose_housed = s.loose_housed;
  kept_housed = s.kept_housed;
  counts = c;
}

pub agrees_of : (net : Net) (ts : List Thing) (h : Hands) → net.things ≡ ts → Shows ts h → Counted ts h.pools → IsNumbered net → Agrees net h
agrees_of net ts h e s c n =
    agrees_here net h (subst (λ us. Shows us h) (sym e) s) (subst (λ us. Counted us h.pools) (sym e) c) n

-- before the first row: nothing is in hand
pub agrees_start : (net : Net) (pools : ModuleId → PoolView) → net.things ≡ [] → ((m : ModuleId) → live_count (pools m) ≡ 0) → IsNumbered net
    → Agrees net (record { queue = []; loose = []; kept = λ m. []; pools = pools })
agrees_start net pools none empty n =
    agrees_of net [] (record { queue = []; loose = []; kept = λ m. []; pools = pools }) none
    (record { queue_is = refl; loose_is = refl; kept_is = λ m. refl; queue_housed = All-nil (IsCarriedHome pools); loose_housed = All-nil (IsHoused pools); kept_housed = λ m. All-nil (IsHoused pools) })
    empty n

-- Rows that leave the things as they are.

pub same_things : (net now : Net) (h : Hands) → Agrees net h → now.things ≡ net.things → IsNumbered now → Agrees now h
same_things net now h a e n = agrees_of now net.things h e (shows_of a) a.counts n

pub wired : (net : Net) (list : ListNo) (frames : List (List ℕ)) (h : Hands) → Agrees net h → Agrees (after net (row.Wire list frames)) h
wired net list frames h a = same_things net (after net (row.Wire list frames)) h a refl (numbered_after net (row.Wire list frames) tt a.numbered)

pub delivered : (net : Net) (list : ListNo) (binding : ℕ) (how : How) (frames : List (List ℕ)) (h : Hands) → Agrees net h → Agrees (after net (row.Deliver list binding how frames)) h
delivered net list binding how frames h a = same_things net (after net (row.Deliver list binding how frames)) h a refl (numbered_after net (row.Deliver list binding how frames) tt a.numbered)

pub phased : (net : Net) (whose : PhaseOf) (h : Hands) → Agrees net h → Agrees (after net (row.Phase whose)) h
phased net (of.Module m s) h a = same_things net (after net (row.Phase (of.Module m s))) h a refl (numbered_after net (row.Phase (of.Module m s)) tt a.numbered)
phased net (of.Stack p) h a = same_things net (after net (row.Phase (of.Stack p))) h a refl (numbered_after net (row.Phase (of.Stack p)) tt a.numbered)

pub configured : (net : Net) (config : ConfigNo) (filters : List ℕ) (h : Hands) → Agrees net h → Agrees (after net (row.Config config filters)) h
configured net config filters h a = same_things net (after net (row.Config config filters)) h a refl (numbered_after net (row.Config config filters) tt a.numbered)

pub asked : (net : Net) (request : OidNo) (parent : Option OidNo) (binding : ℕ) (kind : OidKind) (code : ℕ) (value : List ℕ) (h : Hands)
    → Agrees net h → Agrees (after net (row.OidIssue request parent binding kind code value)) h
asked net request parent binding kind code value h a =
    same_things net (after net (row.OidIssue request parent binding kind code value)) h a refl (numbered_after net (row.OidIssue request parent binding kind code value) tt a.numbered)

pub oid_given : (net : Net) (request : OidNo) (m : ModuleId) (h : Hands) → Agrees net h → Agrees (after net (row.OidGive request m)) h
oid_given net request m h a = same_things net (after net (row.OidGive request m)) h a refl (numbered_after net (row.OidGive request m) tt a.numbered)

pub crossed_in : (net : Net) (stack : ℕ) (message : CrossNo) (way : Way) (frames : List (List ℕ)) (h : Hands) → Agrees net h → Agrees (after net (row.CrossIn stack message way frames)) h
crossed_in net stack message way frames h a = a

-- Rows that change a list in its place.

had_quiet : (m : ModuleId) → IsQuiet (had_by m)
had_quiet m = record { same = λ l. refl; stand = λ l. refl }

taken_quiet : (message : ℕ) → IsQuiet (taken_by message)
taken_quiet message = record { same = λ l. refl; stand = λ l. refl }

pub given : (net : Net) (n : ListNo) (m : ModuleId) (handler : Handler) (h : Hands) → Agrees net h → Agrees (after net (row.Give n m handler)) h
given net n m handler h a =
    agrees_of (after net (row.Give n m handler)) _ h refl (shows_changed n.0 (had_by m) (had_quiet m) net.things h (shows_of a))
    (counted_changed n.0 (had_by m) (λ l. refl) net.things h.pools a.counts) (numbered_after net (row.Give n m handler) tt a.numbered)

pub turned_back : (net : Net) (n : ListNo) (m : ModuleId) (status : ListStatus) (h : Hands) → Agrees net h → Agrees (after net (row.TurnBack n m status)) h
turned_back net n m status h a =
    agrees_of (after net (row.TurnBack n m status)) _ h refl (shows_changed n.0 (had_by m) (had_quiet m) net.things h (shows_of a))
    (counted_changed n.0 (had_by m) (λ l. refl) net.things h.pools a.counts) (numbered_after net (row.TurnBack n m status) tt a.numbered)

pub crossed_out : (net : Net) (message : CrossNo) (way : OutWay) (frames : List (List ℕ)) (h : Hands) → Agrees net h → Agrees (after net (row.CrossOut message way frames)) h
crossed_out net message (out_way.Down list) frames h a =
    agrees_of (after net (row.CrossOut message (out_way.Down list) frames)) _ h refl (shows_changed list.0 (taken_by message.0) (taken_quiet message.0) net.things h (shows_of a))
    (counted_changed list.0 (taken_by message.0) (λ l. refl) net.things h.pools a.counts) (numbered_after net (row.CrossOut message (out_way.Down list) frames) tt a.numbered)
crossed_out net message out_way.Up frames h a =
    same_things net (after net (row.CrossOut message out_way.Up frames)) h a refl (numbered_after net (row.CrossOut message out_way.Up frames) tt a.numbered)

-- Rows by which a list goes to another place: from wherever it is in hand.

pub passed : (net : Net) (l : ListView) (way : PassWay) (to : Target) (h : Hands) → Agrees net h → IsMine net h l
    → Agrees (after net (row.Pass l.label.number way to)) (queued (a_list l way to) (taken l.label.number.0 h))
passed net l way to h a mine =
    let n : ℕ = l.label.number.0 in
    let y : LiveList = record mine.x { stand = stand.Passed way to; crossed = None } in
    agrees_of (after net (row.Pass l.label.number way to)) (without n net.things ++ thing.List y ∷ []) (queued (a_list l way to) (taken n h))
    (ap (λ o. at_end (without n net.things) (as_passed way to o)) mine.live)
    (shows_queued (without n net.things) (taken n h) y l way to (shows_taken n net.things h (shows_of a)) refl mine.same mine.housed)
    (counted_moved n net.things mine.x y h.pools a.numbered.apart mine.live refl a.counts)
    (numbered_after net (row.Pass l.label.number way to) tt a.numbered)

pub kept : (net : Net) (l : ListView) (m : ModuleId) (h : Hands) → Agrees net h → IsMine net h l
    → Agrees (after net (row.Keep l.label.number m)) (kept_at m l (taken l.label.number.0 h))
kept net l m h a mine =
    let n : ℕ = l.label.number.0 in
    let y : LiveList = record mine.x { last = m; stand = stand.Kept m } in
    agrees_of (after net (row.Keep l.label.number m)) (without n net.things ++ thing.List y ∷ []) (kept_at m l (taken n h))
    (ap (λ o. at_end (without n net.things) (as_kept m o)) mine.live)
    (shows_kept (without n net.things) (taken n h) y m l (shows_taken n net.things h (shows_of a)) refl mine.same mine.housed)
    (counted_moved n net.things mine.x y h.pools a.numbered.apart mine.live refl a.counts)
    (numbered_after net (row.Keep l.label.number m) tt a.numbered)

pub homed : (net : Net) (l : ListView) (owner : ModuleId) (status : ListStatus) (p : PoolView) (h : Hands) → Agrees net h → IsMine net h l → Frees (h.pools l.label.owner) l p
    → Agrees (after net (row.Home l.label.number owner status)) (pooled l.label.owner p (taken l.label.number.0 h))
homed net l owner status p h a mine frees =
    let n : ℕ = l.label.number.0 in
    agrees_of (after net (row.Home l.label.number owner status)) (without n net.things) (pooled l.label.owner p (taken n h)) refl
    (shows_freed (without n net.things) h l p (shows_taken n net.things h (shows_of a)) mine.housed frees)
    (counted_home n net.things mine.x l l.label.owner p h.pools a.numbered.apart mine.live (ap (λ (c : Common). c.owner) mine.same) frees a.counts)
    (numbered_after net (row.Home l.label.number owner status) tt a.numbered)

-- A list is issued from its owner's pool.

pub issued : (net : Net) (l : ListView) (config : ConfigNo) (p : PoolView) (h : Hands) → Agrees net h → l.label.number.0 ≡ net.next.list → Issues (h.pools l.label.owner) l p
    → Agrees (after net (row.Issue l.label.number l.label.owner config l.label.direction l.label.cancel l.label.origin l.frames)) (pooled l.label.owner p (loosed l h))
issued net l config p h a number issues =
    let y : LiveList = record { list = l.label.number; owner = l.label.owner; direction = l.label.direction; cancel = l.label.cancel; origin = l.label.origin; frames = l.frames; last = l.label.owner; stand = stand.Unplaced; crossed = None } in
    agrees_of (after net (row.Issue l.label.number l.label.owner config l.label.direction l.label.cancel l.label.origin l.frames)) (net.things ++ thing.List y ∷ []) (pooled l.label.owner p (loosed l h)) refl
    (shows_loosed net.things (pooled l.label.owner p h) y l (shows_issued net.things h l p (shows_of a) issues) refl refl (housed_new h.pools p l issues))
    (counted_issued net.things y l l.label.owner p h.pools refl issues a.counts)
    (numbered_after net (row.Issue l.label.number l.label.owner config l.label.direction l.label.cancel l.label.origin l.frames) number a.numbered)

-- Rows of statuses and of requests.

pub seen_by : (net : Net) (number : StatusNo) (m : ModuleId) (h : Hands) → Agrees net h → Agrees (after net (row.Seen number m)) (without_status number.0 h)
seen_by net number m h a =
    agrees_of (after net (row.Seen number m)) (net_of.without_status number.0 net.things) (without_status number.0 h) refl
    (shows_unstatused number.0 net.things h (shows_of a) (lists-without_status number.0 net.things))
    (counted_same net.things (net_of.without_status number.0 net.things) h.pools (lists-without_status number.0 net.things) a.counts)
    (numbered_after net (row.Seen number m) tt a.numbered)

pub statused : (net : Net) (number : StatusNo) (name : StatusName) (to : Target) (h : Hands) → Agrees net h
    → Agrees (after net (row.Status number name to)) (queued (a_status (record { number = number; name = name; to = to })) (without_status number.0 h))
statused net number name to h a =
    let x : StatusAway = record { number = number; name = name; to = to } in
    let before : List Thing = net_of.without_status number.0 net.things in
    let same : lists (before ++ thing.Status x ∷ []) ≡ lists net.things = lists-status number.0 net.things (thing.Status x) refl in
    agrees_of (after net (row.Status number name to)) (before ++ thing.Status x ∷ []) (queued (a_status x) (without_status number.0 h)) refl
    (shows_status_pushed before (without_status number.0 h) x (shows_unstatused number.0 net.things h (shows_of a) (lists-without_status number.0 net.things)))
    (counted_same net.things (before ++ thing.Status x ∷ []) h.pools same a.counts)
    (numbered_after net (row.Status number name to) tt a.numbered)

lists-unanswered : (n : ℕ) (ts : List Thing) → lists (filter (λ t. not (is_answer_to n t)) ts) ≡ lists ts
lists-unanswered n [] = refl
lists-unanswered n (thing.List l ∷ ts) = ap (λ ls. l ∷ ls) (lists-unanswered n ts)
lists-unanswered n (thing.Status s ∷ ts) = lists-unanswered n ts
lists-unanswered n (thing.Answer a ∷ ts) =
    elim (a.parent.0 == n) as (λ b. lists (cond (not b) (thing.Answer a ∷ filter (λ t. not (is_answer_to n t)) ts) (filter (λ t. not (is_answer_to n t)) ts)) ≡ lists ts) [
      | true ↦ lists-unanswered n ts
      | false ↦ lists-unanswered n ts
    ]

-- what a request that is done leaves in hand
answered_shows : (parent : Option OidNo) (request : OidNo) (status : OidStatus) (value : List ℕ) (ts : List Thing) (h : Hands) → Shows ts h
    → Shows (after_answer parent request status value ts) (answered_to parent request status value h)
answered_shows None request status value ts h s = s
answered_shows (Some parent) request status value ts h s = shows_answer_pushed ts h (record { request = request; parent = parent; status = status; value = value }) s

done_shows : (o : Option Request) (request : OidNo) (status : OidStatus) (value : List ℕ) (ts : List Thing) (h : Hands) → Shows ts h
    → Shows (things_after_done o request status value ts) (request_done o request status value h)
done_shows None request status value ts h s = s
done_shows (Some r) request status value ts h s =
    answered_shows r.parent request status value (filter (λ t. not (is_answer_to request.0 t)) ts) (without_answer request.0 h)
    (shows_unanswered request.0 ts h s (lists-unanswered request.0 ts))

answered_pools : (parent : Option OidNo) (request : OidNo) (status : OidStatus) (value : List ℕ) (h : Hands) → (answered_to parent request status value h).pools ≡ h.pools
answered_pools None request status value h = refl
answered_pools (Some parent) request status value h = refl

done_pools : (o : Option Request) (request : OidNo) (status : OidStatus) (value : List ℕ) (h : Hands) → (request_done o request status value h).pools ≡ h.pools
done_pools None request status value h = refl
done_pools (Some r) request status value h = answered_pools r.parent request status value (without_answer request.0 h)

pub oid_done : (net : Net) (request : OidNo) (status : OidStatus) (value : List ℕ) (h : Hands) → Agrees net h
    → Agrees (after net (row.OidDone request status value)) (request_done (request_of request.0 net.requests) request status value h)
oid_done net request status value h a =
    let o : Option Request = request_of request.0 net.requests in
    let ts : List Thing = things_after_done o request status value net.things in
    agrees_of (after net (row.OidDone request status value)) ts (request_done o request status value h) refl
    (done_shows o request status value net.things h (shows_of a))
    (subst (Counted ts) (sym (done_pools o request status value h)) (counted_same net.things ts h.pools (lists-things_done o request status value net.things) a.counts))
    (numbered_after net (row.OidDone request status value) tt a.numbered)

-- A module's pool is made or given up while the module owns no live list.

none_there : {X : Type 0} (xs : List (Option X)) (i : ℕ) (x : X) → count_by is_some xs ≡ 0 → slice_index_or xs i None ≡ Some x → ⊥
none_there [] i x none some = cc
none_there (None ∷ xs) zero x none some = cc
none_there {X} (Some y ∷ xs) zero x none some =
    let e = sum_by-cons (λ (o : Option X). cond (is_some o) 1 0) (Some y) xs in
    absurd (omega (arith, e, none))
none_there {X} (o ∷ xs) (suc i) x none some =
    let e = sum_by-cons (λ (o : Option X). cond (is_some o) 1 0) o xs in
    none_there xs i x (omega (arith, e, none)) some

none_housed : (p : PoolView) (l : ListView) → live_count p ≡ 0 → IsOf p l → ⊥
none_housed p l none is = none_there p.slots l.slot _ none is.live

housed_elsewhere : (pools : ModuleId → PoolView) (m : ModuleId) (p : PoolView) → live_count (pools m) ≡ 0 → (o : ListView) → IsHoused pools o → IsHoused (put_at m p pools) o
housed_elsewhere pools m p none o housed = housed_still pools m p o (λ is. absurd (none_housed (pools m) o none is)) housed

carried_elsewhere : (pools : ModuleId → PoolView) (m : ModuleId) (p : PoolView) → live_count (pools m) ≡ 0 → (c : Carried) → IsCarriedHome pools c → IsCarriedHome (put_at m p pools) c
carried_elsewhere pools m p none (a_list o way to) housed = housed_elsewhere pools m p none o housed
carried_elsewhere pools m p none (a_status s) housed = tt
carried_elsewhere pools m p none (an_answer x) housed = tt

pub repooled : (net : Net) (m : ModuleId) (p : PoolView) (h : Hands) → Agrees net h → owned net m ≡ 0 → live_count p ≡ 0 → Agrees net (pooled m p h)
repooled net m p h a none empty =
    let new : ModuleId → PoolView = put_at m p h.pools in
    let was : live_count (h.pools m) ≡ 0 = a.counts m ∙ none in
    record {
      queue_is = a.queue_is;
      loose_is = a.loose_is;
      kept_is = a.kept_is;
      numbered = a.numbered;
      queue_housed = All-weaker (IsCarriedHome h.pools) (IsCarriedHome new) (carried_elsewhere h.pools m p was) h.queue a.queue_housed;
      loose_housed = All-weaker (IsHoused h.pools) (IsHoused new) (housed_elsewhere h.pools m p was) h.loose a.loose_housed;
      kept_housed = λ k. All-weaker (IsHoused h.pools) (IsHoused new) (housed_elsewhere h.pools m p was) (h.kept k) (a.kept_housed k);
      counts = at_each (λ k q. live_count q ≡ owned net k) m p h.pools (empty ∙ sym none) (λ k other. a.counts k);
    }

-- the same in hand, module by module
carried_same : (h k : Hands) → IsSame h k → (c : Carried) → IsCarriedHome h.pools c → IsCarriedHome k.pools c
carried_same h k same (a_list o way to) housed = subst (λ p. IsOf p o) (same.pools o.label.owner) housed
carried_same h k same (a_status s) housed = tt
carried_same h k same (an_answer x) housed = tt

housed_same : (h k : Hands) → IsSame h k → (o : ListView) → IsHoused h.pools o → IsHoused k.pools o
housed_same h k same o housed = subst (λ p. IsOf p o) (same.pools o.label.owner) housed

pub agrees_same : (net : Net) (h k : Hands) → IsSame h k → Agrees net h → Agrees net k
agrees_same net h k same a = record {
  queue_is = ap (map carried) (sym same.queue) ∙ a.queue_is;
  loose_is = ap (map in_hand) (sym same.loose) ∙ a.loose_is;
  kept_is = λ m. ap (map in_hand) (sym (same.kept m)) ∙ a.kept_is m;
  numbered = a.numbered;
  queue_housed = subst (All (IsCarriedHome k.pools)) same.queue (All-weaker (IsCarriedHome h.pools) (IsCarriedHome k.pools) (carried_same h k same) h.queue a.queue_housed);
  loose_housed = subst (All (IsHoused k.pools)) same.loose (All-weaker (IsHoused h.pools) (IsHoused k.pools) (housed_same h k same) h.loose a.loose_housed);
  kept_housed = λ m. subst (All (IsHoused k.pools)) (same.kept m) (All-weaker (IsHoused h.pools) (IsHoused k.pools) (housed_same h k same) (h.kept m) (a.kept_housed m));
  counts = λ m. ap live_count (sym (same.pools m)) ∙ a.counts m;
}
